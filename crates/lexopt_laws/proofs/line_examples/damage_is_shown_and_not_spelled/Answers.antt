use Rattle.std.proofs.Common.{◌≡◌, true, [], ◌∷◌, None, codes, refl}
use Rattle.lexopt_spec.specs.UnreadLine.{dash}
use Rattle.lexopt_line_spec.specs.Table.{option, short, kind, one_value}
use Rattle.lexopt_line_spec.specs.Readings.{start}
use Rattle.lexopt_line_spec.specs.Spelling.{nothing, joined, no_value, joined_value, nothing_more, flag_first, last_option, name_and_value, cluster, long_option, no_words, group}
use Rattle.lexopt_line_spec.proofs.Computing.{computing}
use Rattle.lexopt_line_spec.proofs.Existence.{only_one}
use Rattle.lexopt_line_spec.proofs.Worked.{not_begins, not_mark, not_contains, last_of, cluster_line, joined_line}
use Rattle.lexopt_laws.proofs.WorkedDamage.{damage_of, ff_not_spelled, ff_name_not_spelled}
use Rattle.lexopt_laws.proofs.line_examples.damage_is_shown_and_not_spelled.Goals as goal

pub returns-clause-damaged_character : goal.returns-clause-damaged_character
unfolding kind computing
returns-clause-damaged_character c =
    group _ [] (option (short 0xFFFD) None ∷ []) []
    (cluster (0xFF ∷ []) [] refl (not_begins dash (0xFF ∷ []) refl)
    (last_option 0xFFFD (0xFF ∷ []) [] nothing _ (damage_of 0xFF [] [] refl) (nothing_more refl refl) (no_value refl refl refl)))
    no_words

pub returns-clause-damaged_character_is_not_spelled : goal.returns-clause-damaged_character_is_not_spelled
returns-clause-damaged_character_is_not_spelled c = λ l spells. ff_not_spelled _ _ _ _ l spells

pub returns-clause-whole_character : goal.returns-clause-whole_character
unfolding kind computing
returns-clause-whole_character c =
    cluster_line (0xEF ∷ 0xBF ∷ 0xBD ∷ []) _ refl (last_of 0xFFFD [] nothing _ refl (nothing_more refl refl) (no_value refl refl refl)) no_words

pub returns-clause-surrogate : goal.returns-clause-surrogate
unfolding kind computing
returns-clause-surrogate c =
    group _ [] (option (short 0xFFFD) None ∷ option (short 0xFFFD) None ∷ option (short 0xFFFD) None ∷ []) []
    (cluster (0xED ∷ 0xA0 ∷ 0x80 ∷ []) [] refl (not_begins dash (0xED ∷ 0xA0 ∷ 0x80 ∷ []) refl)
    (flag_first 0xFFFD (0xED ∷ []) (0xA0 ∷ 0x80 ∷ []) _ (damage_of 0xED [] (0xA0 ∷ 0x80 ∷ []) refl) refl (not_mark true (0xA0 ∷ 0x80 ∷ []) refl)
    (flag_first 0xFFFD (0xA0 ∷ []) (0x80 ∷ []) _ (damage_of 0xA0 [] (0x80 ∷ []) refl) refl (not_mark true (0x80 ∷ []) refl)
    (last_option 0xFFFD (0x80 ∷ []) [] nothing _ (damage_of 0x80 [] [] refl) (nothing_more refl refl) (no_value refl refl refl)))))
    no_words

pub returns-clause-surrogate_is_no_character : goal.returns-clause-surrogate_is_no_character
returns-clause-surrogate_is_no_character c = λ shows.
    let e : option (short 0xFFFD) None ∷ option (short 0xFFFD) None ∷ option (short 0xFFFD) None ∷ [] ≡ option (short 0xD800) None ∷ [] =
    only_one (one_value [] []) (start true ((0x2D ∷ 0xED ∷ 0xA0 ∷ 0x80 ∷ []) ∷ [])) _ _ tt (returns-clause-surrogate c) shows in
    cc

pub returns-clause-damaged_name : goal.returns-clause-damaged_name
unfolding kind computing
returns-clause-damaged_name c =
    group _ [] _ []
    (long_option (0xFF ∷ codes "=v") (0xFF ∷ []) (0xEF ∷ 0xBF ∷ 0xBD ∷ []) (joined (codes "v")) _ [] refl (name_and_value (codes "v") refl refl) (not_contains (0xFF ∷ []) refl) refl
    (joined_value (codes "v") refl refl refl) refl)
    no_words

pub returns-clause-damaged_name_is_not_spelled : goal.returns-clause-damaged_name_is_not_spelled
returns-clause-damaged_name_is_not_spelled c = λ l spells. ff_name_not_spelled _ _ _ _ l spells

pub returns-clause-whole_name : goal.returns-clause-whole_name
unfolding kind computing
returns-clause-whole_name c =
    joined_line (0xEF ∷ 0xBF ∷ 0xBD ∷ []) (codes "v") _ refl (0xFFFD ∷ [], (refl, refl)) (joined_value (codes "v") refl refl refl) no_words
