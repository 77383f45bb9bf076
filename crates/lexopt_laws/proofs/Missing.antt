-- The first required option that does not occur.
use Rattle.std.proofs.Common.{◌≡◌, ◌<◌, ◌⊎◌, ◌&&◌, ℕ, zero, suc, Bool, true, false, not, List, [], ◌∷◌, Option, Some, None, if◌then◌else◌, refl, sym, ap, subst, ◌∙◌, inl, inr, arith}
use Rattle.std.proofs.lemmas.Bool.{false≢true}
use Rattle.std.specs.Option.{option_map}
use Rattle.lexopt_options_spec.specs.Declaration.{Declared}
use Rattle.lexopt_options_spec.specs.Legal.{Parsed, is_required, occurs}
use Rattle.lexopt_options_spec.specs.Stops.{IsFirstMissing}

-- the index of the first required option that is missing; `there` tells which occur
abbrev pub missing : List Declared → (ℕ → Bool) → Option ℕ
missing [] there = None
missing (o ∷ os) there = if o.required && not (there 0) then Some 0 else option_map (λ n. suc n) (missing os (λ i. there (suc i)))

-- the same, for the options that are read
abbrev pub missing_from : List Declared → List Parsed → Option ℕ
missing_from options l = missing options (λ i. occurs i l)

-- ---- none is missing

head_there : (needed there : Bool) (rest : Option ℕ) → (if needed && not there then Some 0 else rest) ≡ None → needed ≡ true → there ≡ true
head_there true true rest none is = refl
head_there true false rest none is = absurd (let e : Some 0 ≡ None = none in cc)
head_there false there rest none is = absurd (false≢true is)

tail_none : (needed there : Bool) (rest : Option ℕ) → (if needed && not there then Some 0 else option_map (λ n. suc n) rest) ≡ None → rest ≡ None
tail_none needed there None none = refl
tail_none true true (Some n) none = absurd (let e : Some (suc n) ≡ None = none in cc)
tail_none true false (Some n) none = absurd (let e : Some 0 ≡ None = none in cc)
tail_none false there (Some n) none = absurd (let e : Some (suc n) ≡ None = none in cc)

none_missing : (os : List Declared) (there : ℕ → Bool) → missing os there ≡ None → (i : ℕ) → is_required os i ≡ true → there i ≡ true
none_missing [] there none i is = absurd (false≢true is)
none_missing (o ∷ os) there none zero is = head_there o.required (there 0) _ none is
none_missing (o ∷ os) there none (suc i) is = none_missing os (λ i. there (suc i)) (tail_none o.required (there 0) (missing os (λ i. there (suc i))) none) i is

-- each required option occurs
pub are_complete : (options : List Declared) (l : List Parsed) → missing_from options l ≡ None → (i : ℕ) → is_required options i ≡ true → occurs i l ≡ true
are_complete options l none = none_missing options (λ i. occurs i l) none

-- ---- one is missing

data Missed (needed there : Bool) (rest : Option ℕ) (index : ℕ) : Type 0 where
  here : needed ≡ true → there ≡ false → index ≡ 0 → Missed needed there rest index
  later : (n : ℕ) → (needed ≡ true → there ≡ true) → rest ≡ Some n → index ≡ suc n → Missed needed there rest index

missed_later : (needed there : Bool) (rest : Option ℕ) (index : ℕ) → (needed ≡ true → there ≡ true) → option_map (λ n. suc n) rest ≡ Some index → Missed needed there rest index
missed_later needed there None index first is = absurd (let e : None ≡ Some index = is in cc)
missed_later needed there (Some n) index first is = later n first refl (let e : Some (suc n) ≡ Some index = is in let same : suc n ≡ index = cc in sym same)

missed : (needed there : Bool) (rest : Option ℕ) (index : ℕ) → (if needed && not there then Some 0 else option_map (λ n. suc n) rest) ≡ Some index → Missed needed there rest index
missed true true rest index is = missed_later true true rest index (λ needed. refl) is
missed true false rest index is = here refl refl (let e : Some 0 ≡ Some index = is in let same : 0 ≡ index = cc in sym same)
missed false there rest index is = missed_later false there rest index (λ needed. absurd (false≢true needed)) is

record IsFirst (os : List Declared) (there : ℕ → Bool) (index : ℕ) : Type 0 where
  here : is_required os index ≡ true
  absent : there index ≡ false
  first : (i : ℕ) → i < index → is_required os i ≡ true → there i ≡ true

first_missing : (os : List Declared) (there : ℕ → Bool) (index : ℕ) → missing os there ≡ Some index → IsFirst os there index
first_missing [] there index is = absurd (let e : None ≡ Some index = is in cc)
first_missing (o ∷ os) there index is = go index (missed o.required (there 0) (missing os (λ i. there (suc i))) index is) (first_missing os (λ i. there (suc i)))
  where
    go : (index : ℕ) → Missed o.required (there 0) (missing os (λ i. there (suc i))) index → ((n : ℕ) → missing os (λ i. there (suc i)) ≡ Some n → IsFirst os (λ i. there (suc i)) n)
        → IsFirst (o ∷ os) there index
    go index (here needed absent none) rest = subst (IsFirst (o ∷ os) there) (sym none) (record { here = needed; absent = absent; first = λ i below. absurd (omega arith) })
    go index (later n head found next) rest =
        let one = rest n found in
        subst (IsFirst (o ∷ os) there) (sym next) (record { here = one.here; absent = one.absent; first = before n head one.first })
      where
        before : (n : ℕ) → (o.required ≡ true → there 0 ≡ true) → ((i : ℕ) → i < n → is_required os i ≡ true → there (suc i) ≡ true) → (i : ℕ) → i < suc n → is_required (o ∷ os) i ≡ true → there i ≡ true
        before n head tail zero below is = head is
        before n head tail (suc i) below is = tail i (omega arith) is

pub is_first_missing : (options : List Declared) (l : List Parsed) (index : ℕ) → missing_from options l ≡ Some index → IsFirstMissing options l index
is_first_missing options l index is =
    let first = first_missing options (λ i. occurs i l) index is in
    record { here = first.here; absent = first.absent; first = first.first }

-- each required option occurs, or there is a first that does not
pub complete_or_missing : (options : List Declared) (l : List Parsed) → ((i : ℕ) → is_required options i ≡ true → occurs i l ≡ true) ⊎ ((index : ℕ) × IsFirstMissing options l index)
complete_or_missing options l = go (missing_from options l) refl
  where
    go : (found : Option ℕ) → missing_from options l ≡ found → ((i : ℕ) → is_required options i ≡ true → occurs i l ≡ true) ⊎ ((index : ℕ) × IsFirstMissing options l index)
    go None is = inl (are_complete options l is)
    go (Some index) is = inr (index, is_first_missing options l index is)

-- only one option is the first
pub one_first_missing : (options : List Declared) (l : List Parsed) (i j : ℕ) → IsFirstMissing options l i → IsFirstMissing options l j → i ≡ j
one_first_missing options l i j one other =
    let not_below : ¬ (i < j) = λ below. false≢true (sym one.absent ∙ other.first i below one.here) in
    let not_above : ¬ (j < i) = λ below. false≢true (sym other.absent ∙ one.first j below other.here) in
    same i j not_below not_above
  where
    same : (i j : ℕ) → ¬ (i < j) → ¬ (j < i) → i ≡ j
    same zero zero below above = refl
    same zero (suc j) below above = absurd (below (omega arith))
    same (suc i) zero below above = absurd (above (omega arith))
    same (suc i) (suc j) below above = ap (λ n. suc n) (same i j (λ less. below (omega arith)) (λ less. above (omega arith)))
