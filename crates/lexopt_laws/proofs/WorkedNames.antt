-- The nearest name, computed for the worked examples.
use Rattle.std.proofs.Common.{◌≡◌, ℕ, zero, suc, ◌<◌, ◌≤◌, ◌*◌, Bool, true, false, ◌&&◌, not, ◌==◌, cond, List, [], ◌∷◌, length, map, Option, Some, None, refl, sym, ap, subst, ◌∙◌, arith, true≢false}
use Rattle.std.proofs.Math.Dec.{leb}
use Rattle.std.proofs.lemmas.Bool.{leb-true, le-leb, eq-eqb, and_parts}
use Rattle.std.proofs.lemmas.Option.{slice_get-map}
use Rattle.std.specs.List.{slice_get}
use Rattle.std.specs.Option.{option_map}
use Rattle.std.specs.Str.{chars}
use Rattle.lexopt_options_spec.specs.Nearest.{IsDistance, IsNear, IsNearAt, IsNearest}
use Rattle.lexopt_options_spec.proofs.Distance.{one_distance}
use Rattle.lexopt_options_spec.proofs.Nearest.{one_nearest}
use Rattle.lexopt_laws.proofs.WorkedDistances.{distance, distance_of}

-- the distance of the name, if it is near
abbrev pub near_name : List ℕ → List ℕ → Option ℕ
near_name typed name = cond (leb (3 * distance typed (chars name)) (length typed)) (Some (distance typed (chars name))) None

near_is : (name typed : List ℕ) (n : ℕ) → IsNear name typed n → near_name typed name ≡ Some n
near_is name typed n near =
    let same : n ≡ distance typed (chars name) = one_distance typed (chars name) n (distance typed (chars name)) near.distance (distance_of typed (chars name)) in
    let third : 3 * distance typed (chars name) ≤ length typed = subst (λ m. 3 * m ≤ length typed) same near.third in
    ap (λ b. cond b (Some (distance typed (chars name))) None) (le-leb (3 * distance typed (chars name)) (length typed) third) ∙ ap (λ m. Some m) (sym same)

is_near : (name typed : List ℕ) (n : ℕ) → near_name typed name ≡ Some n → IsNear name typed n
is_near name typed n is = by (leb (3 * distance typed (chars name)) (length typed)) refl is
  where
    by : (b : Bool) → leb (3 * distance typed (chars name)) (length typed) ≡ b → cond b (Some (distance typed (chars name))) None ≡ Some n → IsNear name typed n
    by true least some =
        let same : distance typed (chars name) ≡ n = (let e : Some (distance typed (chars name)) ≡ Some n = some in cc) in
        record {
          distance = subst (IsDistance typed (chars name)) same (distance_of typed (chars name));
          third = subst (λ m. 3 * m ≤ length typed) same (leb-true (3 * distance typed (chars name)) (length typed) least);
        }
    by false least some = absurd (let e : None ≡ Some n = some in cc)

-- the same for each name
abbrev pub near_names : List (List ℕ) → List ℕ → List (Option ℕ)
near_names names typed = map (near_name typed) names

at_is : (names : List (List ℕ)) (typed : List ℕ) (i n : ℕ) → IsNearAt names typed i n → slice_get (near_names names typed) i ≡ Some (Some n)
at_is names typed i n at =
    slice_get-map (near_name typed) names i ∙ ap (option_map (near_name typed)) at.at ∙ ap (λ m. Some m) (near_is at.name typed n at.near)

is_at : (names : List (List ℕ)) (typed : List ℕ) (i n : ℕ) (name : List ℕ) → slice_get names i ≡ Some name → near_name typed name ≡ Some n → IsNearAt names typed i n
is_at names typed i n name at is = record { name = name; at = at; near = is_near name typed n is }

-- no name is nearer
abbrev pub is_least : ℕ → List (Option ℕ) → Bool
is_least n [] = true
is_least n (None ∷ l) = is_least n l
is_least n (Some m ∷ l) = leb n m && is_least n l

least_holds : (n : ℕ) (l : List (Option ℕ)) (j m : ℕ) → is_least n l ≡ true → slice_get l j ≡ Some (Some m) → n ≤ m
least_holds n [] j m is at = absurd (let e : None ≡ Some (Some m) = at in cc)
least_holds n (None ∷ l) zero m is at = absurd (let e : Some None ≡ Some (Some m) = at in cc)
least_holds n (None ∷ l) (suc j) m is at = least_holds n l j m is at
least_holds n (Some k ∷ l) zero m is at = let e : Some (Some k) ≡ Some (Some m) = at in let same : k ≡ m = cc in subst (λ x. n ≤ x) same (leb-true n k (and_parts (leb n k) (is_least n l) is).0)
least_holds n (Some k ∷ l) (suc j) m is at = least_holds n l j m (and_parts (leb n k) (is_least n l) is).1 at

-- none of the first i is as near
abbrev pub is_first : ℕ → ℕ → List (Option ℕ) → Bool
is_first n zero l = true
is_first n (suc i) [] = true
is_first n (suc i) (None ∷ l) = is_first n i l
is_first n (suc i) (Some m ∷ l) = not (m == n) && is_first n i l

first_holds : (n i : ℕ) (l : List (Option ℕ)) (j : ℕ) → is_first n i l ≡ true → j < i → slice_get l j ≡ Some (Some n) → ⊥
first_holds n zero l j is less at = omega arith
first_holds n (suc i) [] j is less at = let e : None ≡ Some (Some n) = at in cc
first_holds n (suc i) (None ∷ l) zero is less at = let e : Some None ≡ Some (Some n) = at in cc
first_holds n (suc i) (None ∷ l) (suc j) is less at = first_holds n i l j is (omega arith) at
first_holds n (suc i) (Some m ∷ l) zero is less at =
    let e : Some (Some m) ≡ Some (Some n) = at in let same : m ≡ n = cc in true≢false (sym (and_parts (not (m == n)) (is_first n i l) is).0 ∙ ap not (eq-eqb m n same))
first_holds n (suc i) (Some m ∷ l) (suc j) is less at = first_holds n i l j (and_parts (not (m == n)) (is_first n i l) is).1 (omega arith) at

-- no name is near
abbrev pub none_near : List (Option ℕ) → Bool
none_near [] = true
none_near (None ∷ l) = none_near l
none_near (Some m ∷ l) = false

none_holds : (l : List (Option ℕ)) (j m : ℕ) → none_near l ≡ true → slice_get l j ≡ Some (Some m) → ⊥
none_holds [] j m is at = let e : None ≡ Some (Some m) = at in cc
none_holds (None ∷ l) zero m is at = let e : Some None ≡ Some (Some m) = at in cc
none_holds (None ∷ l) (suc j) m is at = none_holds l j m is at
none_holds (Some k ∷ l) j m is at = true≢false (sym is)

pub nearest_is : {names : List (List ℕ)} (name : List ℕ) (i n : ℕ) (own : List ℕ) → slice_get names i ≡ Some own → near_name (chars name) own ≡ Some n
    → is_least n (near_names names (chars name)) ≡ true → is_first n i (near_names names (chars name)) ≡ true → IsNearest names name (Some i)
nearest_is {names = names} name i n own at is least first = (
  n,
  record {
    here = is_at names (chars name) i n own at is;
    least = λ j m near. least_holds n (near_names names (chars name)) j m least (at_is names (chars name) j m near);
    first = λ j less near. first_holds n i (near_names names (chars name)) j first less (at_is names (chars name) j n near);
  },
)

pub nothing_near : {names : List (List ℕ)} (name : List ℕ) → none_near (near_names names (chars name)) ≡ true → IsNearest names name None
nothing_near {names = names} name none i n near = none_holds (near_names names (chars name)) i n none (at_is names (chars name) i n near)

-- ---- no other is nearest

pub not_this : {names : List (List ℕ)} (name : List ℕ) (i j : ℕ) → i == j ≡ false → IsNearest names name (Some j) → IsNearest names name (Some i) → ⊥
not_this {names = names} name i j other is again =
    let same : i ≡ j = (let e : Some i ≡ Some j = one_nearest names name (Some i) (Some j) again is in cc) in true≢false (sym (eq-eqb i j same) ∙ other)

pub not_none : {names : List (List ℕ)} (name : List ℕ) (j : ℕ) → IsNearest names name (Some j) → IsNearest names name None → ⊥
not_none {names = names} name j is none = let e : None ≡ Some j = one_nearest names name None (Some j) none is in cc
