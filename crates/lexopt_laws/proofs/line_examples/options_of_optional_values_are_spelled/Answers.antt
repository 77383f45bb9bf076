use Rattle.std.proofs.Common.{[], codes, refl}
use Rattle.lexopt_line_spec.specs.Table.{kind}
use Rattle.lexopt_line_spec.specs.Spelling.{nothing, attached, joined, attached_value, no_optional, attached_optional, joined_optional, nothing_more, marked_value, no_words, separator}
use Rattle.lexopt_line_spec.proofs.Computing.{computing}
use Rattle.lexopt_line_spec.proofs.Worked.{flag_of, last_of, value_after, cluster_line, name_line, joined_line, plain_line}
use Rattle.lexopt_laws.proofs.line_examples.options_of_optional_values_are_spelled.Goals as goal

-- `-vi.bak f`
pub returns-clause-attached : goal.returns-clause-attached
unfolding kind computing
returns-clause-attached c =
    cluster_line (codes "vi.bak") _ refl
    (flag_of 0x76 (codes "i.bak") refl refl refl
    (last_of 0x69 (codes ".bak") (attached (codes ".bak")) _ refl (value_after 0x2E (codes "bak") refl) (attached_optional (codes ".bak") refl refl refl)))
    (plain_line (codes "f") refl no_words)

-- `-i .bak`
pub returns-clause-never_the_next_word : goal.returns-clause-never_the_next_word
unfolding kind computing
returns-clause-never_the_next_word c =
    cluster_line (codes "i") _ refl (last_of 0x69 [] nothing _ refl (nothing_more refl refl) (no_optional refl refl refl)) (plain_line (codes ".bak") refl no_words)

-- `-i=x`, `-i=`
pub returns-clause-joined : goal.returns-clause-joined
unfolding kind computing
returns-clause-joined c =
    cluster_line (codes "i=x") _ refl (last_of 0x69 (codes "=x") (joined (codes "x")) _ refl (marked_value (codes "x") refl refl refl) (joined_optional (codes "x") refl refl refl)) no_words

pub returns-clause-joined_empty : goal.returns-clause-joined_empty
unfolding kind computing
returns-clause-joined_empty c =
    cluster_line (codes "i=") _ refl (last_of 0x69 (codes "=") (joined []) _ refl (marked_value [] refl refl refl) (joined_optional [] refl refl refl)) no_words

pub returns-clause-switched_off : goal.returns-clause-switched_off
unfolding kind computing
returns-clause-switched_off c =
    cluster_line (codes "i=x") _ refl (last_of 0x69 (codes "=x") (attached (codes "=x")) _ refl (value_after 0x3D (codes "x") refl) (attached_optional (codes "=x") refl refl refl)) no_words

-- `-io x`, `-oi x`
pub returns-clause-before_an_option : goal.returns-clause-before_an_option
unfolding kind computing
returns-clause-before_an_option c =
    cluster_line (codes "io") _ refl (last_of 0x69 (codes "o") (attached (codes "o")) _ refl (value_after 0x6F [] refl) (attached_optional (codes "o") refl refl refl))
    (plain_line (codes "x") refl no_words)

pub returns-clause-after_an_option : goal.returns-clause-after_an_option
unfolding kind computing
returns-clause-after_an_option c =
    cluster_line (codes "oi") _ refl (last_of 0x6F (codes "i") (attached (codes "i")) _ refl (value_after 0x69 [] refl) (attached_value (codes "i") refl refl refl))
    (plain_line (codes "x") refl no_words)

-- `--color --color=auto --color auto`
pub returns-clause-long : goal.returns-clause-long
unfolding kind computing
returns-clause-long c =
    name_line 0x63 (codes "olor") _ refl (codes "color", (refl, refl)) (no_optional refl refl refl)
    (joined_line (codes "color") (codes "auto") _ refl (codes "color", (refl, refl)) (joined_optional (codes "auto") refl refl refl)
    (name_line 0x63 (codes "olor") _ refl (codes "color", (refl, refl)) (no_optional refl refl refl)
    (plain_line (codes "auto") refl no_words)))

-- `--=`, `--`
pub returns-clause-empty_name : goal.returns-clause-empty_name
unfolding kind computing
returns-clause-empty_name c = joined_line [] [] _ refl ([], (refl, refl)) (joined_optional [] refl refl refl) no_words

pub returns-clause-separator_is_no_name : goal.returns-clause-separator_is_no_name
returns-clause-separator_is_no_name c = separator []
