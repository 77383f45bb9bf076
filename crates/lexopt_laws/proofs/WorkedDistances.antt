-- Distances, computed for the worked examples.
use Rattle.std.proofs.Common.{ℕ, zero, suc, ◌+◌, ◌<◌, min, cond, eqb, List, [], ◌∷◌, length, ap, arith, ⊎_elim}
use Rattle.std.proofs.lemmas.Bool.Decides.{eqb_tells}
use Rattle.lexopt_options_spec.specs.Nearest.{IsDistance}
use Rattle.lexopt_options_spec.proofs.Distance.{unswapped, from_nothing, to_nothing, one_more_unswapped, one_more_swapped}

-- n; or, if the first two characters of both can be swapped, at most one more than the distance of
-- the rest, which `rest` computes
abbrev if_swapped : (List ℕ → List ℕ → ℕ) → ℕ → ℕ → List ℕ → List ℕ → ℕ → ℕ
if_swapped rest x y [] b n = n
if_swapped rest x y (y' ∷ a) [] n = n
if_swapped rest x y (y' ∷ a) (x' ∷ b) n = cond (eqb y' y) (cond (eqb x' x) (min n (rest a b + 1)) n) n

-- the distance, if both lists together have fewer characters than `most`
abbrev computed : ℕ → List ℕ → List ℕ → ℕ
computed zero a b = 0
computed (suc most) [] b = length b
computed (suc most) (x ∷ a) [] = length (x ∷ a)
computed (suc most) (x ∷ a) (y ∷ b) =
    if_swapped (computed most) x y a b (unswapped x y (computed most a b) (computed most (x ∷ a) b) (computed most a (y ∷ b)))

-- f computes the distance of lists that together have fewer characters than `most`
record IsDistanceBelow (f : List ℕ → List ℕ → ℕ) (most : ℕ) : Type 0 where
  is : (a b : List ℕ) → length a + length b < most → IsDistance a b (f a b)

one_more : (rest : List ℕ → List ℕ → ℕ) (most : ℕ) → IsDistanceBelow rest most → (x y : ℕ) (a b : List ℕ) (p q r : ℕ) → length a + length b < most
    → IsDistance a b p → IsDistance (x ∷ a) b q → IsDistance a (y ∷ b) r → IsDistance (x ∷ a) (y ∷ b) (if_swapped rest x y a b (unswapped x y p q r))
one_more rest most below x y [] b p q r few dp dq dr = one_more_unswapped x y [] b p q r dp dq dr (λ a' b' a_is b_is. cc)
one_more rest most below x y (y' ∷ a) [] p q r few dp dq dr = one_more_unswapped x y (y' ∷ a) [] p q r dp dq dr (λ a' b' a_is b_is. cc)
one_more rest most below x y (y' ∷ a) (x' ∷ b) p q r few dp dq dr = ⊎_elim
    (λ y_same. ⊎_elim
    (λ x_same. rw (y_same.0, x_same.0) (one_more_swapped x y (y' ∷ a) (x' ∷ b) a b p q r _ dp dq dr (ap (λ c. c ∷ a) y_same.1) (ap (λ c. c ∷ b) x_same.1) (below.is a b (omega arith))))
    (λ x_other. rw (y_same.0, x_other.0) (one_more_unswapped x y (y' ∷ a) (x' ∷ b) p q r dp dq dr (λ a' b' a_is b_is. x_other.1 (cc))))
    (eqb_tells x' x))
    (λ y_other. rw y_other.0 (one_more_unswapped x y (y' ∷ a) (x' ∷ b) p q r dp dq dr (λ a' b' a_is b_is. y_other.1 (cc))))
    (eqb_tells y' y)

computes_more : (most : ℕ) → IsDistanceBelow (computed most) most → (a b : List ℕ) → length a + length b < suc most → IsDistance a b (computed (suc most) a b)
computes_more most below [] b few = from_nothing b
computes_more most below (x ∷ a) [] few = to_nothing (x ∷ a)
computes_more most below (x ∷ a) (y ∷ b) few = one_more (computed most) most below x y a b _ _ _ (omega arith) (below.is a b (omega arith)) (below.is (x ∷ a) b (omega arith)) (below.is a (y ∷ b) (omega arith))

computes : (most : ℕ) → IsDistanceBelow (computed most) most
computes zero = record { is = λ a b few. absurd (omega arith) }
computes (suc most) = record { is = λ a b few. computes_more most (computes most) a b few }

abbrev pub distance : List ℕ → List ℕ → ℕ
distance a b = computed (suc (length a + length b)) a b

pub distance_of : (a b : List ℕ) → IsDistance a b (distance a b)
distance_of a b = (computes (suc (length a + length b))).is a b (omega arith)
