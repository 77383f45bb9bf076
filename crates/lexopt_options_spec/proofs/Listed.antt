-- Values that options accept.
use Rattle.lexopt_options_spec.proofs.Common.{◌≡◌, ◌==◌, ℕ, Bool, true, not, List, [], ◌∷◌, ◌++◌, position, Some, None, is_none, cond, option_and_then, slice_get, unwrap_or, refl, sym, ap, ◌∙◌}
use Rattle.lexopt_options_spec.proofs.Common.{list_all, list_any, option_map, and_parts, and_from, not-true, or_left, false≢true, eq-eqb, dash, equals, BeginsWith, Declared, Words, accepts}
use Rattle.lexopt_options_spec.proofs.Common.{listed, bad_list, is_blank_or_control, is_listable, is_placeholder, is_sound, list_fault}
use Rattle.lexopt_options_spec.specs.Legal.{Parsed, option, several, accepts_at, are_accepted, refused_value}
use Rattle.lexopt_options_spec.proofs.Sound.{none_wrong}
use Rattle.lexopt_options_spec.proofs.Tables.{pointwise_refl}
use Rattle.lexopt_options_spec.proofs.FaultLemmas.{passes}

-- ---- a value for each option

-- the first word of the list, or the empty word
abbrev pub value_for : Words → List ℕ
value_for (listed (value ∷ values)) = value
value_for words = []

pub value_fits : (words : Words) → list_fault words ≡ None → accepts words (value_for words) ≡ true
value_fits (listed []) none = absurd (let e : Some bad_list ≡ None = none in cc)
value_fits (listed (value ∷ values)) none = or_left _ _ (pointwise_refl value)
value_fits words none = refl

not_dashed : (value : List ℕ) → is_listable value ≡ true → ¬ BeginsWith dash value
not_dashed [] is begins = begins
not_dashed (b ∷ bs) is begins =
    let placed = and_parts (is_placeholder (b ∷ bs)) (not (list_any is_blank_or_control (b ∷ bs))) is in
    let first = and_parts (not (b == dash)) (not (b == equals)) placed.0 in
    false≢true (sym (not-true (b == dash) first.0) ∙ eq-eqb b dash begins)

pub value_plain : (words : Words) → list_fault words ≡ None → ¬ BeginsWith dash (value_for words)
value_plain (listed (value ∷ values)) none begins =
    let all = passes (list_all is_listable (value ∷ values)) bad_list none in
    let parts = and_parts (is_listable value) (list_all is_listable values) all in
    not_dashed value parts.0 begins
value_plain words none begins = begins

pub list_good : (options : List Declared) (i : ℕ) (o : Declared) → is_sound options ≡ true → slice_get options i ≡ Some o → list_fault o.words ≡ None
list_good options i o sound at =
    (none_wrong options i o sound at).words

-- ---- what is accepted

pub accepts_here : (options : List Declared) (i : ℕ) (o : Declared) (value : List ℕ) → slice_get options i ≡ Some o → accepts o.words value ≡ true → accepts_at options i value ≡ true
accepts_here options i o value at is = ap (λ x. unwrap_or (option_map (λ p. accepts p.words value) x) true) at ∙ is

pub one_accepted : (options : List Declared) (i : ℕ) (value : List ℕ) → accepts_at options i value ≡ true → refused_value options (option i (Some value)) ≡ None
one_accepted options i value is = ap (λ (b : Bool). cond b None (Some value)) is

pub single_accepted : (options : List Declared) (i : ℕ) (value : List ℕ) → accepts_at options i value ≡ true → refused_value options (several i (value ∷ [])) ≡ None
single_accepted options i value is = ap (λ (b : Bool). option_and_then (λ n. slice_get (value ∷ []) n) (position (λ (w : List ℕ). not b) (value ∷ []))) is

pub accepted_append : (options : List Declared) (l m : List Parsed) → are_accepted options l ≡ true → are_accepted options m ≡ true → are_accepted options (l ++ m) ≡ true
accepted_append options [] m is other = other
accepted_append options (s ∷ l) m is other =
    let parts = and_parts (is_none (refused_value options s)) (are_accepted options l) is in
    and_from _ _ parts.0 (accepted_append options l m parts.1 other)

pub accepted_front : (options : List Declared) (l m : List Parsed) → are_accepted options (l ++ m) ≡ true → are_accepted options l ≡ true
accepted_front options [] m is = refl
accepted_front options (s ∷ l) m is =
    let parts = and_parts (is_none (refused_value options s)) (are_accepted options (l ++ m)) is in
    and_from _ _ parts.0 (accepted_front options l m parts.1)
