use Rattle.std.proofs.Common.{[], ◌∷◌, codes, refl}
use Rattle.lexopt_line_spec.specs.Table.{kind}
use Rattle.lexopt_line_spec.specs.Spelling.{nothing, attached, joined, no_value, attached_value, joined_value, next_word, nothing_more, marked_value, no_words, separator}
use Rattle.lexopt_line_spec.proofs.Computing.{computing}
use Rattle.lexopt_line_spec.proofs.Worked.{flag_of, last_of, value_after, cluster_line, name_line, joined_line, plain_line}
use Rattle.lexopt_laws.proofs.line_examples.options_of_one_value_are_spelled.Goals as goal

pub returns-clause-no_words : goal.returns-clause-no_words
returns-clause-no_words c = no_words

-- `-vo=x --out y -- -z --`
pub returns-clause-every_form : goal.returns-clause-every_form
unfolding kind computing
returns-clause-every_form c =
    cluster_line (codes "vo=x") _ refl
    (flag_of 0x76 (codes "o=x") refl refl refl (last_of 0x6F (codes "=x") (joined (codes "x")) _ refl (marked_value (codes "x") refl refl refl) (joined_value (codes "x") refl refl refl)))
    (name_line 0x6F (codes "ut") _ refl (codes "out", (refl, refl)) (next_word (codes "y") refl refl refl)
    (separator (codes "-z" ∷ codes "--" ∷ [])))

-- `-n 10 foo - -- baz -qux`
pub returns-clause-plain_words : goal.returns-clause-plain_words
unfolding kind computing
returns-clause-plain_words c =
    cluster_line (codes "n") _ refl (last_of 0x6E [] nothing _ refl (nothing_more refl refl) (next_word (codes "10") refl refl refl))
    (plain_line (codes "foo") refl (plain_line (codes "-") refl (separator (codes "baz" ∷ codes "-qux" ∷ []))))

-- `--=`
pub returns-clause-empty_name : goal.returns-clause-empty_name
unfolding kind computing
returns-clause-empty_name c = joined_line [] [] _ refl ([], (refl, refl)) (joined_value [] refl refl refl) no_words

-- `-o --`
pub returns-clause-separator_as_value : goal.returns-clause-separator_as_value
unfolding kind computing
returns-clause-separator_as_value c =
    cluster_line (codes "o") _ refl (last_of 0x6F [] nothing _ refl (nothing_more refl refl) (next_word (codes "--") refl refl refl)) no_words

pub returns-clause-separator_after_flag : goal.returns-clause-separator_after_flag
unfolding kind computing
returns-clause-separator_after_flag c =
    cluster_line (codes "o") _ refl (last_of 0x6F [] nothing _ refl (nothing_more refl refl) (no_value refl refl refl)) (separator [])

pub returns-clause-separator_as_positional : goal.returns-clause-separator_as_positional
returns-clause-separator_as_positional c = separator (codes "--" ∷ [])

-- `-==v`
pub returns-clause-equals_as_option : goal.returns-clause-equals_as_option
unfolding kind computing
returns-clause-equals_as_option c =
    cluster_line (codes "==v") _ refl (last_of 0x3D (codes "=v") (joined (codes "v")) _ refl (marked_value (codes "v") refl refl refl) (joined_value (codes "v") refl refl refl)) no_words

pub returns-clause-equals_as_option_switched_off : goal.returns-clause-equals_as_option_switched_off
unfolding kind computing
returns-clause-equals_as_option_switched_off c =
    cluster_line (codes "==v") _ refl (last_of 0x3D (codes "=v") (attached (codes "=v")) _ refl (value_after 0x3D (codes "v") refl) (attached_value (codes "=v") refl refl refl)) no_words

-- `-o=`
pub returns-clause-empty_value : goal.returns-clause-empty_value
unfolding kind computing
returns-clause-empty_value c =
    cluster_line (codes "o=") _ refl (last_of 0x6F (codes "=") (joined []) _ refl (marked_value [] refl refl refl) (joined_value [] refl refl refl)) no_words

pub returns-clause-empty_value_switched_off : goal.returns-clause-empty_value_switched_off
unfolding kind computing
returns-clause-empty_value_switched_off c =
    cluster_line (codes "o=") _ refl (last_of 0x6F (codes "=") (attached (codes "=")) _ refl (value_after 0x3D [] refl) (attached_value (codes "=") refl refl refl)) no_words

-- `-a=b`
pub returns-clause-flags_switched_off : goal.returns-clause-flags_switched_off
unfolding kind computing
returns-clause-flags_switched_off c =
    cluster_line (codes "a=b") _ refl
    (flag_of 0x61 (codes "=b") refl refl refl (flag_of 0x3D (codes "b") refl refl refl (last_of 0x62 [] nothing _ refl (nothing_more refl refl) (no_value refl refl refl)))) no_words

-- `---`, `---=x`
pub returns-clause-three_dashes : goal.returns-clause-three_dashes
unfolding kind computing
returns-clause-three_dashes c = name_line 0x2D [] _ refl (codes "-", (refl, refl)) (no_value refl refl refl) no_words

pub returns-clause-three_dashes_and_value : goal.returns-clause-three_dashes_and_value
unfolding kind computing
returns-clause-three_dashes_and_value c = joined_line (codes "-") (codes "x") _ refl (codes "-", (refl, refl)) (joined_value (codes "x") refl refl refl) no_words

-- `-a- v`
pub returns-clause-dash_in_cluster : goal.returns-clause-dash_in_cluster
unfolding kind computing
returns-clause-dash_in_cluster c =
    cluster_line (codes "a-") _ refl
    (flag_of 0x61 (codes "-") refl refl refl (last_of 0x2D [] nothing _ refl (nothing_more refl refl) (next_word (codes "v") refl refl refl))) no_words

-- `-xo`
pub returns-clause-attached_value : goal.returns-clause-attached_value
unfolding kind computing
returns-clause-attached_value c =
    cluster_line (codes "xo") _ refl (last_of 0x78 (codes "o") (attached (codes "o")) _ refl (value_after 0x6F [] refl) (attached_value (codes "o") refl refl refl)) no_words
