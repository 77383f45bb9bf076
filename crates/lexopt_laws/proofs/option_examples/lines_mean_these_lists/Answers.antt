use Rattle.std.proofs.Common.{[], ◌∷◌, Some, None, codes, refl, lit≤}
use Rattle.lexopt_line_spec.specs.Table as spec
use Rattle.lexopt_line_spec.specs.Table.{short, long, kind}
use Rattle.lexopt_line_spec.specs.Spelling.{nothing, joined, attached, no_value, joined_value, attached_value, next_word, no_optional, joined_optional, several_words, nothing_more, marked_value, no_words, separator}
use Rattle.lexopt_line_spec.proofs.Computing.{computing}
use Rattle.lexopt_line_spec.proofs.Worked.{flag_of, last_of, value_after, cluster_line, name_line, joined_line, plain_line, plain_front_is, some}
use Rattle.lexopt_laws.proofs.WorkedMeans.{front_of, whole_of, two_positionals}
use Rattle.lexopt_laws.proofs.option_examples.lines_mean_these_lists.Goals as goal

-- `-vo=x --output y -- file`
pub returns-clause-every_item : goal.returns-clause-every_item
unfolding kind computing
returns-clause-every_item c = whole_of refl
    (spec.option (short 0x76) None ∷ spec.option (short 0x6F) (Some (codes "x")) ∷ spec.option (long (codes "output")) (Some (codes "y")) ∷ spec.positional (codes "file") ∷ [])
    (cluster_line (codes "vo=x") _ refl
    (flag_of 0x76 (codes "o=x") refl refl refl (last_of 0x6F (codes "=x") (joined (codes "x")) _ refl (marked_value (codes "x") refl refl refl) (joined_value (codes "x") refl refl refl)))
    (name_line 0x6F (codes "utput") _ refl (codes "output", (refl, refl)) (next_word (codes "y") refl refl refl) (separator (codes "file" ∷ []))))
    refl tt (lit≤ tt) refl refl

-- `-x a b`
pub returns-clause-several_values : goal.returns-clause-several_values
unfolding kind computing
returns-clause-several_values c = whole_of refl (spec.many (short 0x78) (codes "a" ∷ codes "b" ∷ []) ∷ [])
    (cluster_line (codes "x") _ refl
    (last_of 0x78 [] nothing _ refl (nothing_more refl refl) (several_words (codes "a" ∷ codes "b" ∷ []) refl (plain_front_is _ [] refl refl) (some _ _) refl)) no_words)
    refl (lit≤ tt) (lit≤ tt) refl refl

-- `-b --backup=z`
pub returns-clause-optional_value : goal.returns-clause-optional_value
unfolding kind computing
returns-clause-optional_value c = whole_of refl (spec.option (short 0x62) None ∷ spec.option (long (codes "backup")) (Some (codes "z")) ∷ [])
    (cluster_line (codes "b") _ refl (last_of 0x62 [] nothing _ refl (nothing_more refl refl) (no_optional refl refl refl))
    (joined_line (codes "backup") (codes "z") _ refl (codes "backup", (refl, refl)) (joined_optional (codes "z") refl refl refl) no_words))
    refl (lit≤ tt) (lit≤ tt) refl refl

-- `-o=x`
pub returns-clause-under_its_setting : goal.returns-clause-under_its_setting
unfolding kind computing
returns-clause-under_its_setting c = whole_of refl (spec.option (short 0x6F) (Some (codes "=x")) ∷ [])
    (cluster_line (codes "o=x") _ refl (last_of 0x6F (codes "=x") (attached (codes "=x")) _ refl (value_after 0x3D (codes "x") refl) (attached_value (codes "=x") refl refl refl)) no_words)
    refl (lit≤ tt) (lit≤ tt) refl refl

pub returns-clause-as_many_as_declared : goal.returns-clause-as_many_as_declared
returns-clause-as_many_as_declared c = two_positionals

pub returns-clause-left_out : goal.returns-clause-left_out
returns-clause-left_out c = whole_of refl [] no_words refl (lit≤ tt) (lit≤ tt) refl refl

pub returns-clause-any_number : goal.returns-clause-any_number
returns-clause-any_number c =
    whole_of refl (spec.positional (codes "a") ∷ spec.positional (codes "b") ∷ []) (plain_line (codes "a") refl (plain_line (codes "b") refl no_words)) refl tt (lit≤ tt) refl refl

-- `-v`
pub returns-clause-front : goal.returns-clause-front
unfolding kind computing
returns-clause-front c = front_of (spec.option (short 0x76) None ∷ [])
    (cluster_line (codes "v") _ refl (last_of 0x76 [] nothing _ refl (nothing_more refl refl) (no_value refl refl refl)) no_words)
    refl (lit≤ tt)
