-- The first two options that exclude each other.
use Rattle.std.proofs.Common.{◌≡◌, ◌<◌, ◌⊎◌, ℕ, zero, suc, Bool, true, false, List, length, Option, Some, None, refl, sym, ap, subst, ◌∙◌, inl, inr, arith}
use Rattle.std.proofs.lemmas.Bool.{false≢true}
use Rattle.std.proofs.lemmas.Option.{same_Some}
use Rattle.std.specs.Option.{is_some, option_map}
use Rattle.lexopt_options_spec.specs.Declaration.{Declared}
use Rattle.lexopt_options_spec.specs.Legal.{AreApart, clash}
use Rattle.lexopt_options_spec.specs.Stops.{IsFirstClash}
use Rattle.lexopt_options_spec.proofs.Apart.{none_past}

-- ---- the first number that passes

abbrev later : Option ℕ → ℕ → Bool → Option ℕ
later (Some i) n passes = Some i
later None n true = Some n
later None n false = None

-- the first number below this one that passes
abbrev first_below : (ℕ → Bool) → ℕ → Option ℕ
first_below p zero = None
first_below p (suc n) = later (first_below p n) n (p n)

data Found (p : ℕ → Bool) (n : ℕ) : Option ℕ → Type 0 where
  nowhere : ((i : ℕ) → i < n → p i ≡ false) → Found p n None
  here : (i : ℕ) → p i ≡ true → ((k : ℕ) → k < i → p k ≡ false) → Found p n (Some i)

below_next : (p : ℕ → Bool) (n : ℕ) → ((i : ℕ) → i < n → p i ≡ false) → p n ≡ false → (i : ℕ) → i < suc n → p i ≡ false
below_next p zero none last zero below = last
below_next p zero none last (suc i) below = absurd (omega (arith, below))
below_next p (suc n) none last zero below = none zero (omega arith)
below_next p (suc n) none last (suc i) below = below_next (λ k. p (suc k)) n (λ k less. none (suc k) (omega (arith, less))) last i (omega (arith, below))

looked : (p : ℕ → Bool) (n : ℕ) → Found p n (first_below p n)
looked p zero = nowhere (λ i below. absurd (omega (arith, below)))
looked p (suc n) = go (first_below p n) (looked p n) (p n) refl
  where
    go : (found : Option ℕ) → Found p n found → (b : Bool) → p n ≡ b → Found p (suc n) (later found n b)
    go found (here i is before) b at = here i is before
    go found (nowhere none) true at = here n at none
    go found (nowhere none) false at = nowhere (below_next p n none at)

-- ---- the first two

-- this option excludes one that is there
abbrev excludes_one : List Declared → (ℕ → Bool) → ℕ → Bool
excludes_one options there i = is_some (first_below (clash options there i) (length options))

abbrev with_other : List Declared → (ℕ → Bool) → Option ℕ → Option (ℕ × ℕ)
with_other options there None = None
with_other options there (Some i) = option_map (λ j. (i, j)) (first_below (clash options there i) (length options))

-- the first option that is there and excludes another that is, and the first that it excludes
abbrev pub clash_in : List Declared → (ℕ → Bool) → Option (ℕ × ℕ)
clash_in options there = with_other options there (first_below (excludes_one options there) (length options))

data Told (options : List Declared) (there : ℕ → Bool) : Option (ℕ × ℕ) → Type 0 where
  apart : AreApart options there → Told options there None
  clashes : (i j : ℕ) → IsFirstClash options there i j → Told options there (Some (i, j))

excludes_none : (options : List Declared) (there : ℕ → Bool) (i : ℕ) → excludes_one options there i ≡ false → (j : ℕ) → clash options there i j ≡ false
excludes_none options there i none = go (first_below (clash options there i) (length options)) (looked (clash options there i) (length options)) none
  where
    go : (found : Option ℕ) → Found (clash options there i) (length options) found → is_some found ≡ false → (j : ℕ) → clash options there i j ≡ false
    go found (nowhere all) is = λ j. none_past options there i j (λ within other. all j other)
    go found (here k at before) is = absurd (false≢true (sym is))

told : (options : List Declared) (there : ℕ → Bool) → Told options there (clash_in options there)
told options there = go (first_below (excludes_one options there) (length options)) (looked (excludes_one options there) (length options))
  where
    other : (i : ℕ) → ((k : ℕ) → k < i → excludes_one options there k ≡ false) → (found : Option ℕ) → Found (clash options there i) (length options) found → is_some found ≡ true
        → Told options there (option_map (λ j. (i, j)) found)
    other i before found (nowhere all) is = absurd (false≢true is)
    other i before found (here j at nearest) is = clashes i j (record { here = at; first = λ k m below. excludes_none options there k (before k below) m; nearest = nearest })

    go : (found : Option ℕ) → Found (excludes_one options there) (length options) found → Told options there (with_other options there found)
    go found (nowhere none) = apart (λ i j. none_past options there i j (λ within past. excludes_none options there i (none i within) j))
    go found (here i is before) = other i before (first_below (clash options there i) (length options)) (looked (clash options there i) (length options)) is

-- no two exclude each other, or there are first ones that do
pub apart_or_clash : (options : List Declared) (there : ℕ → Bool) → AreApart options there ⊎ ((i : ℕ) × (j : ℕ) × IsFirstClash options there i j)
apart_or_clash options there = go (clash_in options there) (told options there)
  where
    go : (found : Option (ℕ × ℕ)) → Told options there found → AreApart options there ⊎ ((i : ℕ) × (j : ℕ) × IsFirstClash options there i j)
    go found (apart all) = inl all
    go found (clashes i j first) = inr (i, j, first)

pub are_apart : (options : List Declared) (there : ℕ → Bool) → clash_in options there ≡ None → AreApart options there
are_apart options there none = go (clash_in options there) (told options there) none
  where
    go : (found : Option (ℕ × ℕ)) → Told options there found → found ≡ None → AreApart options there
    go found (apart all) is = all
    go found (clashes i j first) is = absurd (let e : Some (i, j) ≡ None = is in cc)

pub is_first_clash : (options : List Declared) (there : ℕ → Bool) (i j : ℕ) → clash_in options there ≡ Some (i, j) → IsFirstClash options there i j
is_first_clash options there i j is = go (clash_in options there) (told options there) is
  where
    go : (found : Option (ℕ × ℕ)) → Told options there found → found ≡ Some (i, j) → IsFirstClash options there i j
    go found (apart all) is = absurd (let e : None ≡ Some (i, j) = is in cc)
    go found (clashes k m first) is =
        let both = same_Some (k, m) (i, j) is in
        let one : k ≡ i = ap (λ (p : ℕ × ℕ). p.0) both in
        let other : m ≡ j = ap (λ (p : ℕ × ℕ). p.1) both in
        subst (λ n. IsFirstClash options there n j) one (subst (λ n. IsFirstClash options there k n) other first)

-- only two are the first
same_number : (i j : ℕ) → ¬ (i < j) → ¬ (j < i) → i ≡ j
same_number zero zero below above = refl
same_number zero (suc j) below above = absurd (below (omega arith))
same_number (suc i) zero below above = absurd (above (omega arith))
same_number (suc i) (suc j) below above = ap (λ n. suc n) (same_number i j (λ less. below (omega (arith, less))) (λ less. above (omega (arith, less))))

pub one_first_clash : (options : List Declared) (there : ℕ → Bool) (i j k m : ℕ) → IsFirstClash options there i j → IsFirstClash options there k m → (i ≡ k) × (j ≡ m)
one_first_clash options there i j k m one other =
    let same : i ≡ k = same_number i k (λ less. false≢true (sym (other.first i j less) ∙ one.here)) (λ less. false≢true (sym (one.first k m less) ∙ other.here)) in
    let moved : IsFirstClash options there i m = subst (λ n. IsFirstClash options there n m) (sym same) other in
    (same, same_number j m (λ less. false≢true (sym (moved.nearest j less) ∙ one.here)) (λ less. false≢true (sym (one.nearest m less) ∙ moved.here)))
