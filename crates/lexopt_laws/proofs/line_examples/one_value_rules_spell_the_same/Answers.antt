use Rattle.std.proofs.Common.{true, false, [], ◌∷◌, Some, None, codes, refl}
use Rattle.lexopt_spec.specs.UnreadLine.{dash}
use Rattle.lexopt_line_spec.specs.Table.{option, short, long}
use Rattle.lexopt_line_spec.specs.Spelling.{nothing, joined, no_value, joined_value, next_word, nothing_more, marked_value, name_alone}
use Rattle.lexopt_laws.specs.OneValueSpelling.{value_kind, flag_first, last_option, cluster, long_option, no_words, plain_word, group, separator}
use Rattle.lexopt_line_spec.proofs.Computing.{computing}
use Rattle.lexopt_spec.proofs.PlainFronts.{plain_holds}
use Rattle.lexopt_line_spec.proofs.Worked.{some, not_begins, not_mark, not_contains}
use Rattle.lexopt_laws.proofs.WorkedDamage.{damage_of}
use Rattle.lexopt_laws.proofs.line_examples.one_value_rules_spell_the_same.Goals as goal

-- `-vo=x --out y -- -z --`
pub returns-clause-every_form : goal.returns-clause-every_form
unfolding value_kind computing
returns-clause-every_form c =
    group _ _ (option (short 0x76) None ∷ option (short 0x6F) (Some (codes "x")) ∷ []) _
    (cluster (codes "vo=x") _ refl (not_begins dash (codes "vo=x") refl)
    (flag_first 0x76 (codes "v") (codes "o=x") _ (refl, refl) refl (not_mark true (codes "o=x") refl)
    (last_option 0x6F (codes "o") (codes "=x") (joined (codes "x")) _ (refl, refl) (marked_value (codes "x") refl refl refl) (joined_value (codes "x") refl refl refl))))
    (group _ (codes "--" ∷ codes "-z" ∷ codes "--" ∷ []) (option (long (codes "out")) (Some (codes "y")) ∷ []) _
    (long_option (codes "out") (codes "out") (codes "out") nothing _ (codes "y" ∷ codes "--" ∷ codes "-z" ∷ codes "--" ∷ []) refl (name_alone (some _ _) refl refl) (not_contains (codes "out") refl)
    ((codes "out", (refl, refl)), refl) (next_word (codes "y") refl refl refl) refl)
    (separator (codes "-z" ∷ codes "--" ∷ [])))

pub returns-clause-plain_word : goal.returns-clause-plain_word
returns-clause-plain_word c = plain_word (codes "-") [] [] (plain_holds false (codes "-") refl) no_words

pub returns-clause-damaged_character : goal.returns-clause-damaged_character
unfolding value_kind computing
returns-clause-damaged_character c =
    group _ [] (option (short 0xFFFD) None ∷ []) []
    (cluster (0xFF ∷ []) [] refl (not_begins dash (0xFF ∷ []) refl)
    (last_option 0xFFFD (0xFF ∷ []) [] nothing _ (damage_of 0xFF [] [] refl) (nothing_more refl refl) (no_value refl refl refl)))
    no_words
