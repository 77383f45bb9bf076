use Rattle.std.proofs.Common.{[], ◌∷◌, codes, refl}
use Rattle.lexopt_line_spec.specs.Table.{kind}
use Rattle.lexopt_line_spec.specs.Spelling.{nothing, attached, joined, no_value, joined_several, attached_several, several_words, nothing_more, marked_value, no_words, separator}
use Rattle.lexopt_line_spec.proofs.Computing.{computing}
use Rattle.lexopt_line_spec.proofs.Worked.{last_of, value_after, cluster_line, name_line, joined_line, plain_line, plain_front_is, some}
use Rattle.lexopt_laws.proofs.line_examples.options_of_several_values_are_spelled.Goals as goal

-- `-d 1 2 -d1 2 -d=1 2 -d=`
pub returns-clause-every_form : goal.returns-clause-every_form
unfolding kind computing
returns-clause-every_form c =
    cluster_line (codes "d") _ refl
    (last_of 0x64 [] nothing _ refl (nothing_more refl refl)
    (several_words (codes "1" ∷ codes "2" ∷ []) refl (plain_front_is _ (codes "-d1" ∷ codes "2" ∷ codes "-d=1" ∷ codes "2" ∷ codes "-d=" ∷ []) refl refl) (some _ _) refl))
    (cluster_line (codes "d1") _ refl
    (last_of 0x64 (codes "1") (attached (codes "1")) _ refl (value_after 0x31 [] refl)
    (attached_several (codes "1") (codes "2" ∷ []) refl (plain_front_is _ (codes "-d=1" ∷ codes "2" ∷ codes "-d=" ∷ []) refl refl) refl))
    (cluster_line (codes "d=1") _ refl
    (last_of 0x64 (codes "=1") (joined (codes "1")) _ refl (marked_value (codes "1") refl refl refl) (joined_several (codes "1") refl refl refl))
    (plain_line (codes "2") refl
    (cluster_line (codes "d=") _ refl
    (last_of 0x64 (codes "=") (joined []) _ refl (marked_value [] refl refl refl) (joined_several [] refl refl refl))
    no_words))))

pub returns-clause-switched_off : goal.returns-clause-switched_off
unfolding kind computing
returns-clause-switched_off c =
    cluster_line (codes "d") _ refl
    (last_of 0x64 [] nothing _ refl (nothing_more refl refl)
    (several_words (codes "1" ∷ codes "2" ∷ []) refl (plain_front_is _ (codes "-d1" ∷ codes "2" ∷ codes "-d=1" ∷ codes "2" ∷ codes "-d=" ∷ []) refl refl) (some _ _) refl))
    (cluster_line (codes "d1") _ refl
    (last_of 0x64 (codes "1") (attached (codes "1")) _ refl (value_after 0x31 [] refl)
    (attached_several (codes "1") (codes "2" ∷ []) refl (plain_front_is _ (codes "-d=1" ∷ codes "2" ∷ codes "-d=" ∷ []) refl refl) refl))
    (cluster_line (codes "d=1") _ refl
    (last_of 0x64 (codes "=1") (attached (codes "=1")) _ refl (value_after 0x3D (codes "1") refl)
    (attached_several (codes "=1") (codes "2" ∷ []) refl (plain_front_is _ (codes "-d=" ∷ []) refl refl) refl))
    (cluster_line (codes "d=") _ refl
    (last_of 0x64 (codes "=") (attached (codes "=")) _ refl (value_after 0x3D [] refl) (attached_several (codes "=") [] refl (plain_front_is _ [] refl refl) refl))
    no_words)))

-- `--cmd a - -x`
pub returns-clause-up_to_an_option : goal.returns-clause-up_to_an_option
unfolding kind computing
returns-clause-up_to_an_option c =
    name_line 0x63 (codes "md") _ refl (codes "cmd", (refl, refl))
    (several_words (codes "a" ∷ codes "-" ∷ []) refl (plain_front_is _ (codes "-x" ∷ []) refl refl) (some _ _) refl)
    (cluster_line (codes "x") _ refl (last_of 0x78 [] nothing _ refl (nothing_more refl refl) (no_value refl refl refl)) no_words)

-- `-d a -- b`
pub returns-clause-up_to_the_separator : goal.returns-clause-up_to_the_separator
unfolding kind computing
returns-clause-up_to_the_separator c =
    cluster_line (codes "d") _ refl
    (last_of 0x64 [] nothing _ refl (nothing_more refl refl) (several_words (codes "a" ∷ []) refl (plain_front_is _ (codes "--" ∷ codes "b" ∷ []) refl refl) (some _ _) refl))
    (separator (codes "b" ∷ []))

-- `--cmd=a b`
pub returns-clause-joined_stands_alone : goal.returns-clause-joined_stands_alone
unfolding kind computing
returns-clause-joined_stands_alone c =
    joined_line (codes "cmd") (codes "a") _ refl (codes "cmd", (refl, refl)) (joined_several (codes "a") refl refl refl) (plain_line (codes "b") refl no_words)

-- `-d` and the empty word
pub returns-clause-empty_word : goal.returns-clause-empty_word
unfolding kind computing
returns-clause-empty_word c =
    cluster_line (codes "d") _ refl
    (last_of 0x64 [] nothing _ refl (nothing_more refl refl) (several_words ([] ∷ []) refl (plain_front_is _ [] refl refl) (some _ _) refl)) no_words
