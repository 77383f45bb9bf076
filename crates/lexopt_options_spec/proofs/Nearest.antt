-- At most one name is the nearest.
use Rattle.lexopt_options_spec.proofs.Common.{◌≡◌, ℕ, ◌<◌, List, Option, Some, None, refl, ap, subst, arith, ⊎_elim, chars, cases_order}
use Rattle.lexopt_options_spec.specs.Nearest.{IsNearAt, IsNearestAt, IsNearest}

same_distance : (names : List (List ℕ)) (typed : List ℕ) (i j m n : ℕ) → IsNearestAt names typed i m → IsNearestAt names typed j n → m ≡ n
same_distance names typed i j m n a b = let le = a.least j n b.here in let ge = b.least i m a.here in omega arith

no_later : (names : List (List ℕ)) (typed : List ℕ) (i j m n : ℕ) → IsNearestAt names typed i m → IsNearestAt names typed j n → i < j → ⊥
no_later names typed i j m n a b less = b.first i less (subst (IsNearAt names typed i) (same_distance names typed i j m n a b) a.here)

pub one_nearest : (names : List (List ℕ)) (name : List ℕ) (found found' : Option ℕ) → IsNearest names name found → IsNearest names name found' → found ≡ found'
one_nearest names name None None none none' = refl
one_nearest names name None (Some j) none is = absurd (none j is.0 is.1.here)
one_nearest names name (Some i) None is none = absurd (none i is.0 is.1.here)
one_nearest names name (Some i) (Some j) is is' =
    let before = no_later names (chars name) i j is.0 is'.0 is.1 is'.1 in
    let after = no_later names (chars name) j i is'.0 is.0 is'.1 is.1 in
    let same : i ≡ j = ⊎_elim (λ is_same. is_same) (λ other. ⊎_elim (λ less. absurd (before less)) (λ more. absurd (after more)) other) (cases_order i j) in
    ap (λ k. Some k) same
