use Rattle.std.proofs.Common.{[], ◌∷◌, Some, None, codes, refl, lit≤}
use Rattle.lexopt_line_spec.specs.Table as spec
use Rattle.lexopt_line_spec.specs.Table.{short, long, kind}
use Rattle.lexopt_line_spec.specs.Spelling.{nothing, attached, attached_value, joined_optional, joined_value, no_optional, no_words, nothing_more, several_words}
use Rattle.lexopt_line_spec.proofs.Computing.{computing}
use Rattle.lexopt_line_spec.proofs.Worked.{last_of, value_after, cluster_line, joined_line, plain_line, plain_front_is, some}
use Rattle.lexopt_laws.proofs.WorkedMeans.{whole_of}
use Rattle.lexopt_laws.proofs.WorkedValues.{front_medium, means_fast}
use Rattle.lexopt_laws.proofs.option_examples.lines_say_values_in_lists.Goals as goal

pub returns-clause-joined : goal.returns-clause-joined
returns-clause-joined c = means_fast

-- `-mslow`
pub returns-clause-attached : goal.returns-clause-attached
unfolding kind computing
returns-clause-attached c = whole_of refl (spec.option (short 0x6D) (Some (codes "slow")) ∷ [])
    (cluster_line (codes "mslow") _ refl (last_of 0x6D (codes "slow") (attached (codes "slow")) _ refl (value_after 0x73 (codes "low") refl) (attached_value (codes "slow") refl refl refl)) no_words)
    refl (lit≤ tt) (lit≤ tt) refl refl

-- `-b --backup=bak`
pub returns-clause-left_out : goal.returns-clause-left_out
unfolding kind computing
returns-clause-left_out c = whole_of refl (spec.option (short 0x62) None ∷ spec.option (long (codes "backup")) (Some (codes "bak")) ∷ [])
    (cluster_line (codes "b") _ refl (last_of 0x62 [] nothing _ refl (nothing_more refl refl) (no_optional refl refl refl))
    (joined_line (codes "backup") (codes "bak") _ refl (codes "backup", (refl, refl)) (joined_optional (codes "bak") refl refl refl) no_words))
    refl (lit≤ tt) (lit≤ tt) refl refl

-- `-x c a`
pub returns-clause-several_values : goal.returns-clause-several_values
unfolding kind computing
returns-clause-several_values c = whole_of refl (spec.many (short 0x78) (codes "c" ∷ codes "a" ∷ []) ∷ [])
    (cluster_line (codes "x") _ refl
    (last_of 0x78 [] nothing _ refl (nothing_more refl refl) (several_words (codes "c" ∷ codes "a" ∷ []) refl (plain_front_is _ [] refl refl) (some _ _) refl)) no_words)
    refl (lit≤ tt) (lit≤ tt) refl refl

pub returns-clause-positional : goal.returns-clause-positional
returns-clause-positional c = whole_of refl (spec.positional (codes "medium") ∷ []) (plain_line (codes "medium") refl no_words) refl tt (lit≤ tt) refl refl

-- `--mode=fast`
pub returns-clause-required : goal.returns-clause-required
unfolding kind computing
returns-clause-required c = whole_of refl (spec.option (long (codes "mode")) (Some (codes "fast")) ∷ [])
    (joined_line (codes "mode") (codes "fast") _ refl (codes "mode", (refl, refl)) (joined_value (codes "fast") refl refl refl) no_words)
    refl (lit≤ tt) (lit≤ tt) refl refl

pub returns-clause-front : goal.returns-clause-front
returns-clause-front c = front_medium
