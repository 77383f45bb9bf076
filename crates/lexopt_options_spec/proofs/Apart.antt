-- Options that exclude each other.
use Rattle.lexopt_options_spec.proofs.Common.{◌≡◌, ◌<◌, ◌==◌, ◌&&◌, ℕ, zero, suc, Bool, true, false, not, List, [], ◌∷◌, length, Option, Some, None, option_and_then, option_map, slice_get, unwrap_or, refl, sym, ap, ◌∙◌, arith, and_parts, false≢true, list_any, or_parts, Declared, is_sound, clash}
use Rattle.std.specs.Option.{is_some}
use Rattle.lexopt_options_spec.specs.Declaration.{bad_exclusive, exclusive_fault}
use Rattle.lexopt_options_spec.specs.Legal.{are_same, exclude, exclusive_at, is_required}
use Rattle.lexopt_options_spec.proofs.Sound.{none_wrong}

both_some : (text other : Option (List ℕ)) → are_same text other ≡ true → (is_some text ≡ true) × (is_some other ≡ true)
both_some (Some text) (Some other) is = (refl, refl)
both_some (Some text) None is = absurd (false≢true is)
both_some None other is = absurd (false≢true is)

-- options that exclude each other have a text
pub texts_there : (options : List Declared) (i j : ℕ) → exclude options i j ≡ true → (is_some (exclusive_at options i) ≡ true) × (is_some (exclusive_at options j) ≡ true)
texts_there options i j is = both_some (exclusive_at options i) (exclusive_at options j) (and_parts (not (j == i)) _ is).1

-- only which options are there that others may exclude makes a difference
pub same_clash : (options : List Declared) (there also : ℕ → Bool) → ((i : ℕ) → is_some (exclusive_at options i) ≡ true → there i ≡ also i) → (i j : ℕ) → clash options there i j ≡ clash options also i j
same_clash options there also same i j = by (exclude options i j) refl
  where
    by : (b : Bool) → exclude options i j ≡ b → (b && (there i && there j)) ≡ (b && (also i && also j))
    by false is = refl
    by true is =
        let texts = texts_there options i j is in
        rw (same i texts.0, same j texts.1) refl

free : (required : Bool) (exclusive : Option (List ℕ)) → exclusive_fault required exclusive ≡ None → is_some exclusive ≡ true → required ≡ false
free false exclusive none some = refl
free true (Some own) none some = absurd (let e : Some bad_exclusive ≡ None = none in cc)
free true None none some = absurd (false≢true some)

-- an option that others may exclude is not required
pub not_demanded : (options : List Declared) (i : ℕ) → is_sound options ≡ true → is_some (exclusive_at options i) ≡ true → is_required options i ≡ false
not_demanded options i sound some = go (slice_get options i) refl
  where
    go : (found : Option Declared) → slice_get options i ≡ found → is_required options i ≡ false
    go None at = ap (λ x. unwrap_or (option_map (λ o. o.required) x) false) at
    go (Some o) at =
        ap (λ x. unwrap_or (option_map (λ o. o.required) x) false) at
        ∙ free o.required o.exclusive (none_wrong options i o sound at).exclusive (sym (ap (λ x. is_some (option_and_then (λ o. o.exclusive) x)) at) ∙ some)

text_within : (options : List Declared) (i : ℕ) → is_some (exclusive_at options i) ≡ true → i < length options
text_within [] i is = absurd (false≢true is)
text_within (o ∷ os) zero is = omega arith
text_within (o ∷ os) (suc i) is = let rest = text_within os i is in omega (arith, rest)

-- only options that are declared exclude each other
pub none_past : (options : List Declared) (there : ℕ → Bool) (i j : ℕ) → (i < length options → j < length options → clash options there i j ≡ false) → clash options there i j ≡ false
none_past options there i j within = by (clash options there i j) refl
  where
    by : (b : Bool) → clash options there i j ≡ b → clash options there i j ≡ false
    by false is = is
    by true is =
        let texts = texts_there options i j (and_parts (exclude options i j) _ is).0 in
        within (text_within options i texts.0) (text_within options j texts.1)

-- if no option has a text, none excludes another
pub none_exclude : (options : List Declared) → list_any (λ o. is_some o.exclusive) options ≡ false → (i j : ℕ) → exclude options i j ≡ false
none_exclude options none i j = by (exclude options i j) refl
  where
    no_text : (options : List Declared) (i : ℕ) → list_any (λ o. is_some o.exclusive) options ≡ false → is_some (exclusive_at options i) ≡ false
    no_text [] i none = refl
    no_text (o ∷ os) zero none = (or_parts (is_some o.exclusive) (list_any (λ p. is_some p.exclusive) os) none).0
    no_text (o ∷ os) (suc i) none = no_text os i (or_parts (is_some o.exclusive) (list_any (λ p. is_some p.exclusive) os) none).1

    by : (b : Bool) → exclude options i j ≡ b → exclude options i j ≡ false
    by false is = is
    by true is = absurd (false≢true (sym (no_text options i none) ∙ (texts_there options i j is).0))
