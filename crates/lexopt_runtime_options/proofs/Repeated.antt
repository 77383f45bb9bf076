-- Positionals that may occur more than once.
use Rattle.std.proofs.Common.{◌≡◌, ℕ, ◌<◌, ◌≤◌, ◌||◌, Bool, true, false, not, List, [], ◌∷◌, map, filter, length, take, get_or, if◌then◌else◌, Some, refl, sym, ap, ◌∙◌, arith}
use Rattle.std.specs.List.{list_any}
use Rattle.std.proofs.lemmas.List.{get_or-map, length-map, take-map, take_all}
use Rattle.std.proofs.lemmas.Option.{slice_get-get_or}
use Rattle.lexopt_options_spec.specs.Declaration as spec
use Rattle.lexopt_options_spec.specs.Declaration.{IsSecondRepeated, are_clear, may_repeat}
use Rattle.lexopt_declaration.specs.declared.declaration.Positional.{Positional}
use Rattle.lexopt_declaration.specs.Models.{count_view, positional_view}

-- how many of these positionals may occur more than once
abbrev pub repeated_count : List spec.Positional → ℕ
repeated_count ps = length (filter (λ (p : spec.Positional). may_repeat p.count) ps)

any_repeats : List spec.Positional → Bool
any_repeats ps = list_any (λ (p : spec.Positional). may_repeat p.count) ps

none_repeats : (ps : List spec.Positional) → repeated_count ps ≡ 0 → any_repeats ps ≡ false
unfolding any_repeats
none_repeats [] = λ none. refl
none_repeats (p ∷ ps) = elim (may_repeat p.count) as (λ (b : Bool). length (if b then p ∷ filter (λ (q : spec.Positional). may_repeat q.count) ps else filter (λ (q : spec.Positional). may_repeat q.count) ps) ≡ 0 → (b || any_repeats ps) ≡ false) [
  | true ↦ λ none. absurd (omega arith)
  | false ↦ λ none. none_repeats ps none
]

-- at most one may
are_clear_is : (ps : List spec.Positional) → repeated_count ps ≤ 1 → are_clear ps ≡ true
unfolding any_repeats
are_clear_is [] = λ few. refl
are_clear_is (p ∷ ps) = elim (may_repeat p.count) as (λ (b : Bool). length (if b then p ∷ filter (λ (q : spec.Positional). may_repeat q.count) ps else filter (λ (q : spec.Positional). may_repeat q.count) ps) ≤ 1 → (if b then not (any_repeats ps) else are_clear ps) ≡ true) [
  | true ↦ λ few. ap not (none_repeats ps (omega arith))
  | false ↦ λ few. are_clear_is ps few
]

-- ---- the same in the loop over the positionals

pub second : {P : Type 0} (ps : List (Positional P)) (i : ℕ) (d : Positional P) → i < length ps → may_repeat (count_view (get_or ps i d).count) ≡ true
    → repeated_count (map positional_view (take i ps)) ≡ 1 → IsSecondRepeated (map positional_view ps) i
second ps i d within is one = record {
  positional = positional_view (get_or ps i d);
  here = slice_get-get_or (map positional_view ps) i (positional_view d) (omega (arith, length-map ps positional_view)) ∙ ap (λ x. Some x) (get_or-map positional_view ps i d (positional_view d) within);
  repeats = is;
  before = ap repeated_count (take-map positional_view i ps) ∙ one;
}

one_at_most : (b : Bool) (n : ℕ) → n ≡ (if b then 1 else 0) → n ≤ 1
one_at_most true n is = omega arith
one_at_most false n is = omega arith

pub no_second : {P : Type 0} (ps : List (Positional P)) (i : ℕ) (b : Bool) → length ps ≤ i → repeated_count (map positional_view (take i ps)) ≡ (if b then 1 else 0) → are_clear (map positional_view ps) ≡ true
no_second ps i b past is = are_clear_is (map positional_view ps) (one_at_most b _ (sym (ap (λ l. repeated_count (map positional_view l)) (take_all i ps past)) ∙ is))
