-- How many words belong to each positional.
use Rattle.lexopt_options_spec.proofs.Common.{◌≡◌, ◌≤◌, ◌+◌, ◌-◌, ◌==◌, ◌||◌, ℕ, zero, suc, Bool, true, false, List, [], ◌∷◌, length, take, min, max, Option, Some, None, if◌then◌else◌, refl, sym, ap}
use Rattle.lexopt_options_spec.proofs.Common.{subst, ◌∙◌, arith, eqb-true, false≢true, AllZip, list_any, sum_by, Count, Positional, once, at_most_once, any_number, has_to_occur}
use Rattle.lexopt_options_spec.proofs.Common.{may_repeat, IsWithin, most, least, required, AreFirst, ArePlaces, AreShares, CanTake, NoneSpare, extra, greedy, has_room, needs, owners}
use Rattle.std.proofs.lemmas.List.Sums.{count_by-le-length, length-filter, sum_by-cons}

-- ---- to each as many as can

abbrev total : List ℕ → ℕ
total shares = sum_by (λ n. n) shares

-- ---- how many there are

least_cons : (p : Positional) (ps : List Positional) → least (p ∷ ps) ≡ needs p.count + least ps
least_cons p ps = go p.count
  where
    go : (c : Count) → length (if has_to_occur c then p ∷ required ps else required ps) ≡ needs c + least ps
    go once = omega arith
    go c = omega arith

pub least_fits : (ps : List Positional) → IsWithin (least ps) (most ps)
least_fits ps = go (list_any (λ p. may_repeat p.count) ps)
  where
    go : (b : Bool) → IsWithin (least ps) (if b then None else Some (length ps))
    go true = tt
    go false = let few = count_by-le-length (λ (p : Positional). has_to_occur p.count) ps in omega (arith, few, length-filter (λ (p : Positional). has_to_occur p.count) ps)

pub least_within : (ps : List Positional) (n : ℕ) → IsWithin n (most ps) → IsWithin (max n (least ps)) (most ps)
least_within ps n within = go (most ps) within (least_fits ps)
  where
    go : (limit : Option ℕ) → IsWithin n limit → IsWithin (least ps) limit → IsWithin (max n (least ps)) limit
    go None a b = tt
    go (Some m) a b = omega (arith, a, b)

-- the words that the first positional leaves can belong to those after it
rest_fits : (p : Positional) (ps : List Positional) (spare : ℕ) → IsWithin (least (p ∷ ps) + spare) (most (p ∷ ps)) → IsWithin (least ps + (spare - extra p.count spare)) (most ps)
rest_fits p ps spare within =
    go p.count (list_any (λ q. may_repeat q.count) ps) (subst (λ n. IsWithin (n + spare) (most (p ∷ ps))) (least_cons p ps) within) (least_fits ps)
  where
    go : (c : Count) (b : Bool) → IsWithin (needs c + least ps + spare) (if may_repeat c || b then None else Some (length (p ∷ ps))) → IsWithin (least ps) (if b then None else Some (length ps))
        → IsWithin (least ps + (spare - extra c spare)) (if b then None else Some (length ps))
    go once false within small = omega arith
    go c true within small = tt
    go c false within small = omega arith

-- ---- there is a list of shares

none_spare : (ps : List Positional) (spare : ℕ) → spare ≡ 0 → NoneSpare ps (greedy ps spare)
none_spare [] spare none = tt
none_spare (p ∷ ps) spare none = (go p.count, none_spare ps (spare - extra p.count spare) (omega arith))
  where
    go : (c : Count) → needs c + extra c spare ≡ needs c
    go once = omega arith
    go c = omega arith

can_take : (c : Count) (spare : ℕ) → CanTake c (needs c + extra c spare)
can_take any_number spare = tt
can_take c spare = omega arith

each_can : (ps : List Positional) (spare : ℕ) → AllZip (λ p n. CanTake p.count n) ps (greedy ps spare)
each_can [] spare = tt
each_can (p ∷ ps) spare = (can_take p.count spare, each_can ps (spare - extra p.count spare))

extra_small : (c : Count) (spare : ℕ) → extra c spare ≤ spare
extra_small once spare = omega arith
extra_small c spare = omega arith

all_taken : (ps : List Positional) (spare : ℕ) → IsWithin (least ps + spare) (most ps) → total (greedy ps spare) ≡ least ps + spare
all_taken [] spare within = let none : spare ≡ 0 = omega arith in omega (arith, none)
all_taken (p ∷ ps) spare within =
    let e = extra p.count spare in
    let first = sum_by-cons (λ n. n) (needs p.count + e) (greedy ps (spare - e)) in
    let rest = all_taken ps (spare - e) (rest_fits p ps spare within) in
    let many = least_cons p ps in
    let small = extra_small p.count spare in
    omega (arith, first, rest, many, small)

-- if one more word could belong to it, none is left
no_more : (c : Count) (spare : ℕ) → has_room c (needs c + extra c spare) ≡ true → spare - extra c spare ≡ 0
no_more once spare room = absurd (false≢true room)
no_more at_most_once spare room = let none = eqb-true (0 + min 1 spare) 0 room in omega (arith, none)
no_more c spare room = omega arith

are_first : (ps : List Positional) (spare : ℕ) → AreFirst ps (greedy ps spare)
are_first [] spare = tt
are_first (p ∷ ps) spare =
    (λ room. none_spare ps (spare - extra p.count spare) (no_more p.count spare room), are_first ps (spare - extra p.count spare))

pub greedy_are_shares : (ps : List Positional) (spare : ℕ) → IsWithin (least ps + spare) (most ps) → AreShares ps (least ps + spare) (greedy ps spare)
greedy_are_shares ps spare within = record { each = each_can ps spare; all = all_taken ps spare within; first = are_first ps spare }

pub some_shares : (ps : List Positional) (n : ℕ) → least ps ≤ n → IsWithin n (most ps) → (shares : List ℕ) × AreShares ps n shares
some_shares ps n enough within =
    let is : least ps + (n - least ps) ≡ n = omega arith in
    (greedy ps (n - least ps), subst (λ m. AreShares ps m (greedy ps (n - least ps))) is (greedy_are_shares ps (n - least ps) (subst (λ m. IsWithin m (most ps)) (sym is) within)))

-- ---- there is no other list of shares

none_total : (ps : List Positional) (shares : List ℕ) → NoneSpare ps shares → total shares ≡ least ps
none_total [] [] none = refl
none_total (p ∷ ps) (n ∷ shares) none =
    let first = sum_by-cons (λ n. n) n shares in
    let rest = none_total ps shares none.1 in
    let many = least_cons p ps in
    let one = none.0 in
    omega (arith, first, rest, many, one)
none_total ps shares none = absurd none

takes_enough : (c : Count) (n : ℕ) → CanTake c n → needs c ≤ n
takes_enough once n can = omega arith
takes_enough c n can = omega arith

least_total : (ps : List Positional) (shares : List ℕ) → AllZip (λ p n. CanTake p.count n) ps shares → least ps ≤ total shares
least_total [] [] each = omega arith
least_total (p ∷ ps) (n ∷ shares) each =
    let first = sum_by-cons (λ n. n) n shares in
    let rest = least_total ps shares each.1 in
    let many = least_cons p ps in
    let one = takes_enough p.count n each.0 in
    omega (arith, first, rest, many, one)
least_total ps shares each = absurd each

-- as many words belong to the first positional as in the list above
first_is : (c : Count) (n others least_others spare : ℕ) → CanTake c n → (has_room c n ≡ true → others ≡ least_others) → n + others ≡ needs c + least_others + spare → least_others ≤ others
    → n ≡ needs c + extra c spare
first_is once n others least_others spare can room all enough = omega arith
first_is at_most_once n others least_others spare can room all enough = go n can room all
  where
    go : (n : ℕ) → n ≤ 1 → ((n == 0) ≡ true → others ≡ least_others) → n + others ≡ 0 + least_others + spare → n ≡ 0 + min 1 spare
    go zero can room all = let same = room refl in omega (arith, same)
    go (suc m) can room all = omega arith
first_is c n others least_others spare can room all enough = let same = room refl in omega (arith, same)

are_greedy : (ps : List Positional) (spare : ℕ) (shares : List ℕ) → AllZip (λ p n. CanTake p.count n) ps shares → total shares ≡ least ps + spare → AreFirst ps shares → shares ≡ greedy ps spare
are_greedy [] spare [] each all first = refl
are_greedy (p ∷ ps) spare (n ∷ shares) each all first =
    let sums = sum_by-cons (λ n. n) n shares in
    let many = least_cons p ps in
    let enough = least_total ps shares each.1 in
    let whole : n + total shares ≡ needs p.count + least ps + spare = omega (arith, sums, many, all) in
    let one = first_is p.count n (total shares) (least ps) spare each.0 (λ room. none_total ps shares (first.0 room)) whole enough in
    let small = extra_small p.count spare in
    let rest : total shares ≡ least ps + (spare - extra p.count spare) = omega (arith, whole, one, small, enough) in
    ap (λ m. m ∷ shares) one ∙ ap (λ l. (needs p.count + extra p.count spare) ∷ l) (are_greedy ps (spare - extra p.count spare) shares each.1 rest first.1)
are_greedy ps spare shares each all first = absurd each

pub shares_are_greedy : (ps : List Positional) (spare : ℕ) (shares : List ℕ) → AreShares ps (least ps + spare) shares → shares ≡ greedy ps spare
shares_are_greedy ps spare shares are = are_greedy ps spare shares are.each are.all are.first

-- there are at least as many words as are required
pub shares_enough : (ps : List Positional) (n : ℕ) (shares : List ℕ) → AreShares ps n shares → least ps ≤ n
shares_enough ps n shares are = subst (λ m. least ps ≤ m) are.all (least_total ps shares are.each)

pub one_shares : (ps : List Positional) (n : ℕ) (shares others : List ℕ) → AreShares ps n shares → AreShares ps n others → shares ≡ others
one_shares ps n shares others are too =
    let enough = shares_enough ps n shares are in
    let is : n ≡ least ps + (n - least ps) = omega arith in
    shares_are_greedy ps (n - least ps) shares (subst (λ m. AreShares ps m shares) is are)
    ∙ sym (shares_are_greedy ps (n - least ps) others (subst (λ m. AreShares ps m others) is too))

-- ---- places

pub some_places : (ps : List Positional) (n : ℕ) → IsWithin n (most ps) → (places : List ℕ) × ArePlaces ps n places
some_places ps n within =
    let some = some_shares ps (max n (least ps)) (omega arith) (least_within ps n within) in
    (take n (owners 0 some.0), record { shares = some.0; are_shares = some.1; placed = refl })

-- the places of words, by the number that are not required
pub places_are : (ps : List Positional) (n : ℕ) (places : List ℕ) → ArePlaces ps n places → places ≡ take n (owners 0 (greedy ps (n - least ps)))
places_are ps n places are =
    are.placed ∙ ap (λ s. take n (owners 0 s)) (shares_are_greedy ps (n - least ps) are.shares (subst (λ m. AreShares ps m are.shares) (omega arith) are.are_shares))

pub one_places : (ps : List Positional) (n : ℕ) (places others : List ℕ) → ArePlaces ps n places → ArePlaces ps n others → places ≡ others
one_places ps n places others are too = places_are ps n places are ∙ sym (places_are ps n others too)
