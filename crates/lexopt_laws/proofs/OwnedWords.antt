-- The positionals that a word can belong to.
use Rattle.std.proofs.Common.{◌≡◌, ◌<◌, ◌⊎◌, ℕ, zero, suc, List, [], ◌∷◌, take, slice_get, Option, Some, None, refl, sym, ap, subst, ◌∙◌, inl, inr, ⊎_elim, lit≤, lit<, arith, codes}
use Rattle.std.specs.List.{AllZip, Contains}
use Rattle.std.proofs.lemmas.List.Elements.{Contains-append_right}
use Rattle.lexopt_line_spec.proofs.Names.{contains_first}
use Rattle.lexopt_options_spec.specs.Completion.{AreOwners, AreOwnersIn, CanOwn, IsAscending, Role, argument, value}
use Rattle.lexopt_options_spec.specs.Declaration.{Positional}
use Rattle.lexopt_options_spec.specs.Places.{CanTake, owners, refused_word}
use Rattle.lexopt_options_spec.proofs.Offered.{cons_cases}
use Rattle.lexopt_options_spec.proofs.Shares.{greedy_are_shares}
use Rattle.lexopt_options_spec.proofs.Taken.{some_none}
use Rattle.lexopt_laws.specs.Sample.{dest, files, mode, mode_in_list, new, old, old_in_list, target}
use Rattle.lexopt_laws.proofs.WorkedWords.{not_first}

-- ---- there is one list of them

none : (i : ℕ) → Contains [] i → ⊥
none i has = let low = has.1 in omega (arith, low)

there : (x : ℕ) (l : List ℕ) (i : ℕ) → Contains l i → Contains (x ∷ l) i
there x l i has = Contains-append_right (x ∷ []) l i has

above : (x : ℕ) (l : List ℕ) → IsAscending (x ∷ l) → (i : ℕ) → Contains l i → x < i
above x [] up i has = absurd (none i has)
above x (y ∷ l) up i has =
    ⊎_elim (λ same. let low = up.0 in omega (arith, low, same)) (λ later. let low = up.0 in let more = above y l up.1 i later in omega (arith, low, more)) (cons_cases y l i has)

rest_up : (x : ℕ) (l : List ℕ) → IsAscending (x ∷ l) → IsAscending l
rest_up x [] up = tt
rest_up x (y ∷ l) up = up.1

-- the least of one list is in the other
first_same : (x y : ℕ) (xs ys : List ℕ) → IsAscending (x ∷ xs) → IsAscending (y ∷ ys) → Contains (y ∷ ys) x → Contains (x ∷ xs) y → x ≡ y
first_same x y xs ys up vp has own =
    ⊎_elim (λ same. sym same) (λ later. ⊎_elim (λ same. same) (λ after. let a = above y ys vp x later in let b = above x xs up y after in omega (arith, a, b)) (cons_cases x xs y own)) (cons_cases y ys x has)

rest_has : (x : ℕ) (xs ys : List ℕ) → IsAscending (x ∷ xs) → ((i : ℕ) → Contains (x ∷ xs) i → Contains (x ∷ ys) i) → (i : ℕ) → Contains xs i → Contains ys i
rest_has x xs ys up all i has =
    ⊎_elim (λ same. absurd (let a = above x xs up i has in omega (arith, a, same))) (λ later. later) (cons_cases x ys i (all i (there x xs i has)))

same_list : (xs ys : List ℕ) → IsAscending xs → IsAscending ys → ((i : ℕ) → Contains xs i → Contains ys i) → ((i : ℕ) → Contains ys i → Contains xs i) → xs ≡ ys
same_list [] [] up vp all back = refl
same_list [] (y ∷ ys) up vp all back = absurd (none y (back y (contains_first y ys)))
same_list (x ∷ xs) [] up vp all back = absurd (none x (all x (contains_first x xs)))
same_list (x ∷ xs) (y ∷ ys) up vp all back = go (same_list xs ys (rest_up x xs up)) y (first_same x y xs ys up vp (all x (contains_first x xs)) (back y (contains_first y ys))) vp all back
  where
    tails : (IsAscending ys → ((i : ℕ) → Contains xs i → Contains ys i) → ((i : ℕ) → Contains ys i → Contains xs i) → xs ≡ ys) → IsAscending (x ∷ ys) → ((i : ℕ) → Contains (x ∷ xs) i → Contains (x ∷ ys) i) → ((i : ℕ) → Contains (x ∷ ys) i → Contains (x ∷ xs) i) → x ∷ xs ≡ x ∷ ys
    tails same wp all back = ap (λ l. x ∷ l) (same (rest_up x ys wp) (rest_has x xs ys up all) (rest_has x ys xs wp back))

    go : (IsAscending ys → ((i : ℕ) → Contains xs i → Contains ys i) → ((i : ℕ) → Contains ys i → Contains xs i) → xs ≡ ys) → (z : ℕ) → x ≡ z → IsAscending (z ∷ ys) → ((i : ℕ) → Contains (x ∷ xs) i → Contains (z ∷ ys) i) → ((i : ℕ) → Contains (z ∷ ys) i → Contains (x ∷ xs) i) → x ∷ xs ≡ z ∷ ys
    go later z same wp all back =
        let is : z ≡ x = sym same in
        tails later (subst (λ n. IsAscending (n ∷ ys)) is wp) (λ i has. subst (λ n. Contains (n ∷ ys) i) is (all i has)) (λ i has. back i (subst (λ n. Contains (n ∷ ys) i) same has))
        ∙ ap (λ n. n ∷ ys) same

pub one_list : (ps : List Positional) (words : List (List ℕ)) (l m : List ℕ) → AreOwners ps words l → AreOwners ps words m → l ≡ m
one_list ps words l m a b = same_list l m a.in_order b.in_order (λ i has. b.complete i (a.sound i has)) (λ i has. a.complete i (b.sound i has))

pub one_list_in : (ps : List Positional) (role : Option Role) (l m : List ℕ) → AreOwnersIn ps role l → AreOwnersIn ps role m → l ≡ m
one_list_in ps None l m a b = a ∙ sym b
one_list_in ps (Some (value i)) l m a b = a ∙ sym b
one_list_in ps (Some (argument words)) l m a b = one_list ps words l m a b

-- ---- `OLD NEW`

pub owns_old : CanOwn (old ∷ new ∷ []) [] 0
owns_old = record {
  count = 2;
  longer = lit< tt;
  within = lit≤ tt;
  places = 0 ∷ 1 ∷ [];
  are_places = record { shares = 1 ∷ 1 ∷ []; are_shares = greedy_are_shares (old ∷ new ∷ []) 1 (lit≤ tt); placed = refl };
  none = refl;
  here = refl;
}

pub owns_new : CanOwn (old ∷ new ∷ []) [] 1
owns_new = record {
  count = 1;
  longer = lit< tt;
  within = lit≤ tt;
  places = 1 ∷ [];
  are_places = record { shares = 0 ∷ 1 ∷ []; are_shares = greedy_are_shares (old ∷ new ∷ []) 0 (lit≤ tt); placed = refl };
  none = refl;
  here = refl;
}

some_is : (n i : ℕ) → Some n ≡ Some i → n ≡ i
some_is n i same = let e : Some n ≡ Some i = same in cc

none_is : (i : ℕ) → None ≡ Some i → ⊥
none_is i same = let e : None ≡ Some i = same in cc

old_or_new : (count i : ℕ) (shares : List ℕ) → 0 < count → AllZip (λ p n. CanTake p.count n) (old ∷ new ∷ []) shares → slice_get (take count (owners 0 shares)) 0 ≡ Some i → (i ≡ 0) ⊎ (i ≡ 1)
old_or_new zero i shares longer each is = absurd (omega (arith, longer))
old_or_new (suc n) i [] longer each is = absurd each
old_or_new (suc n) i (k ∷ []) longer each is = absurd each.1
old_or_new (suc n) i (zero ∷ m ∷ shares) longer each is =
    inr (sym (some_is 1 i (subst (λ m. slice_get (take (suc n) (owners 0 (0 ∷ m ∷ shares))) 0 ≡ Some i) each.1.0 is)))
old_or_new (suc n) i (suc k ∷ m ∷ shares) longer each is = inl (sym (some_is 0 i is))

pub owners_of_both : AreOwners (old ∷ new ∷ []) [] (0 ∷ 1 ∷ [])
owners_of_both = record {
  sound = λ i has. ⊎_elim (λ same. subst (λ n. CanOwn (old ∷ new ∷ []) [] n) same owns_old)
      (λ later. ⊎_elim (λ same. subst (λ n. CanOwn (old ∷ new ∷ []) [] n) same owns_new) (λ no. absurd (none i no)) (cons_cases 1 [] i later)) (cons_cases 0 (1 ∷ []) i has);
  complete = λ i can. ⊎_elim (λ same. subst (λ n. Contains (0 ∷ 1 ∷ []) n) (sym same) (contains_first 0 (1 ∷ [])))
      (λ same. subst (λ n. Contains (0 ∷ 1 ∷ []) n) (sym same) (there 0 (1 ∷ []) 1 (contains_first 1 [])))
      (old_or_new can.count i can.are_places.shares can.longer can.are_places.are_shares.each (subst (λ l. slice_get l 0 ≡ Some i) can.are_places.placed can.here));
  in_order = (lit< tt, tt);
}

-- ---- `MODE [TARGET]`

pub owns_mode : CanOwn (mode ∷ target ∷ []) [] 0
owns_mode = record {
  count = 1;
  longer = lit< tt;
  within = lit≤ tt;
  places = 0 ∷ [];
  are_places = record { shares = 1 ∷ 0 ∷ []; are_shares = greedy_are_shares (mode ∷ target ∷ []) 0 (lit≤ tt); placed = refl };
  none = refl;
  here = refl;
}

pub owns_target : CanOwn (mode ∷ target ∷ []) (codes "a" ∷ []) 1
owns_target = record {
  count = 2;
  longer = lit< tt;
  within = lit≤ tt;
  places = 0 ∷ 1 ∷ [];
  are_places = record { shares = 1 ∷ 1 ∷ []; are_shares = greedy_are_shares (mode ∷ target ∷ []) 1 (lit≤ tt); placed = refl };
  none = refl;
  here = refl;
}

first_is_mode : (count i : ℕ) (shares : List ℕ) → 0 < count → AllZip (λ p n. CanTake p.count n) (mode ∷ target ∷ []) shares → slice_get (take count (owners 0 shares)) 0 ≡ Some i → i ≡ 0
first_is_mode zero i shares longer each is = absurd (omega (arith, longer))
first_is_mode (suc n) i [] longer each is = absurd each
first_is_mode (suc n) i (k ∷ shares) longer each is =
    let one : k ≡ 1 = each.0 in sym (some_is 0 i (subst (λ m. slice_get (take (suc n) (owners 0 (m ∷ shares))) 0 ≡ Some i) one is))

second_is_target : (count i : ℕ) (shares : List ℕ) → 1 < count → AllZip (λ p n. CanTake p.count n) (mode ∷ target ∷ []) shares → slice_get (take count (owners 0 shares)) 1 ≡ Some i → i ≡ 1
second_is_target zero i shares longer each is = absurd (omega (arith, longer))
second_is_target (suc zero) i shares longer each is = absurd (omega (arith, longer))
second_is_target (suc (suc n)) i [] longer each is = absurd each
second_is_target (suc (suc n)) i (k ∷ []) longer each is = absurd each.1
second_is_target (suc (suc n)) i (k ∷ zero ∷ []) longer each is =
    let one : k ≡ 1 = each.0 in absurd (none_is i (subst (λ m. slice_get (take (suc (suc n)) (owners 0 (m ∷ 0 ∷ []))) 1 ≡ Some i) one is))
second_is_target (suc (suc n)) i (k ∷ suc m ∷ []) longer each is =
    let one : k ≡ 1 = each.0 in sym (some_is 1 i (subst (λ x. slice_get (take (suc (suc n)) (owners 0 (x ∷ suc m ∷ []))) 1 ≡ Some i) one is))
second_is_target (suc (suc n)) i (k ∷ m ∷ x ∷ shares) longer each is = absurd each.1.1

pub first_owner : (i : ℕ) → CanOwn (mode ∷ target ∷ []) [] i → i ≡ 0
first_owner i can =
    first_is_mode can.count i can.are_places.shares can.longer can.are_places.are_shares.each (subst (λ l. slice_get l 0 ≡ Some i) can.are_places.placed can.here)

second_owner : (i : ℕ) → CanOwn (mode ∷ target ∷ []) (codes "a" ∷ []) i → i ≡ 1
second_owner i can =
    second_is_target can.count i can.are_places.shares can.longer can.are_places.are_shares.each (subst (λ l. slice_get l 1 ≡ Some i) can.are_places.placed can.here)

pub not_target : CanOwn (mode ∷ target ∷ []) [] 1 → ⊥
not_target can = let same = first_owner 1 can in omega (arith, same)

pub owner_is_mode : AreOwners (mode ∷ target ∷ []) [] (0 ∷ [])
owner_is_mode = record {
  sound = λ i has. ⊎_elim (λ same. subst (λ n. CanOwn (mode ∷ target ∷ []) [] n) same owns_mode) (λ no. absurd (none i no)) (cons_cases 0 [] i has);
  complete = λ i can. subst (λ n. Contains (0 ∷ []) n) (sym (first_owner i can)) (contains_first 0 []);
  in_order = tt;
}

pub owner_is_target : AreOwners (mode ∷ target ∷ []) (codes "a" ∷ []) (1 ∷ [])
owner_is_target = record {
  sound = λ i has. ⊎_elim (λ same. subst (λ n. CanOwn (mode ∷ target ∷ []) (codes "a" ∷ []) n) same owns_target) (λ no. absurd (none i no)) (cons_cases 1 [] i has);
  complete = λ i can. subst (λ n. Contains (1 ∷ []) n) (sym (second_owner i can)) (contains_first 1 []);
  in_order = tt;
}

-- ---- `MODE`

no_second : (count i : ℕ) (shares : List ℕ) → 1 < count → AllZip (λ p n. CanTake p.count n) (mode ∷ []) shares → slice_get (take count (owners 0 shares)) 1 ≡ Some i → ⊥
no_second zero i shares longer each is = omega (arith, longer)
no_second (suc zero) i shares longer each is = omega (arith, longer)
no_second (suc (suc n)) i [] longer each is = each
no_second (suc (suc n)) i (k ∷ []) longer each is =
    let one : k ≡ 1 = each.0 in none_is i (subst (λ m. slice_get (take (suc (suc n)) (owners 0 (m ∷ []))) 1 ≡ Some i) one is)
no_second (suc (suc n)) i (k ∷ m ∷ shares) longer each is = each.1

pub past_mode : (i : ℕ) → CanOwn (mode ∷ []) (codes "a" ∷ []) i → ⊥
past_mode i can =
    no_second can.count i can.are_places.shares can.longer can.are_places.are_shares.each (subst (λ l. slice_get l 1 ≡ Some i) can.are_places.placed can.here)

pub no_owner : AreOwners (mode ∷ []) (codes "a" ∷ []) []
no_owner = record { sound = λ i has. absurd (none i has); complete = λ i can. absurd (past_mode i can); in_order = tt }

-- ---- `MODE [FILE]...`, where MODE has a list

pub owns_file : CanOwn (mode_in_list ∷ files ∷ []) (codes "fast" ∷ []) 1
owns_file = record {
  count = 2;
  longer = lit< tt;
  within = tt;
  places = 0 ∷ 1 ∷ [];
  are_places = record { shares = 1 ∷ 1 ∷ []; are_shares = greedy_are_shares (mode_in_list ∷ files ∷ []) 1 tt; placed = refl };
  none = refl;
  here = refl;
}

pub no_owner_after_fats : AreOwners (mode_in_list ∷ files ∷ []) (codes "fats" ∷ []) []
no_owner_after_fats = record { sound = λ i has. absurd (none i has); complete = λ i can. absurd (not_owned i can); in_order = tt }
  where
    not_owned : (i : ℕ) → CanOwn (mode_in_list ∷ files ∷ []) (codes "fats" ∷ []) i → ⊥
    not_owned i can =
        not_first can.count can.are_places.shares (let longer = can.longer in omega (arith, longer)) can.are_places.are_shares.each
        (subst (λ places. refused_word (mode_in_list ∷ files ∷ []) places (codes "fats" ∷ []) ≡ None) can.are_places.placed can.none)

-- ---- `[OLD] NEW DEST`, where OLD has a list

owns_dest : CanOwn (old_in_list ∷ new ∷ dest ∷ []) (codes "b" ∷ []) 2
owns_dest = record {
  count = 2;
  longer = lit< tt;
  within = lit≤ tt;
  places = 1 ∷ 2 ∷ [];
  are_places = record { shares = 0 ∷ 1 ∷ 1 ∷ []; are_shares = greedy_are_shares (old_in_list ∷ new ∷ dest ∷ []) 0 (lit≤ tt); placed = refl };
  none = refl;
  here = refl;
}

second_is_dest : (count i : ℕ) (shares : List ℕ) → 1 < count → AllZip (λ p n. CanTake p.count n) (old_in_list ∷ new ∷ dest ∷ []) shares
    → refused_word (old_in_list ∷ new ∷ dest ∷ []) (take count (owners 0 shares)) (codes "b" ∷ []) ≡ None → slice_get (take count (owners 0 shares)) 1 ≡ Some i → i ≡ 2
second_is_dest zero i shares longer each taken is = absurd (omega (arith, longer))
second_is_dest (suc zero) i shares longer each taken is = absurd (omega (arith, longer))
second_is_dest (suc (suc n)) i [] longer each taken is = absurd each
second_is_dest (suc (suc n)) i (k ∷ []) longer each taken is = absurd each.1
second_is_dest (suc (suc n)) i (k ∷ l ∷ []) longer each taken is = absurd each.1.1
second_is_dest (suc (suc n)) i (zero ∷ l ∷ m ∷ []) longer each taken is =
    let new_has : l ≡ 1 = each.1.0 in
    let dest_has : m ≡ 1 = each.1.1.0 in
    sym (some_is 2 i (subst (λ b. slice_get (take (suc (suc n)) (owners 0 (0 ∷ 1 ∷ b ∷ []))) 1 ≡ Some i) dest_has (subst (λ a. slice_get (take (suc (suc n)) (owners 0 (0 ∷ a ∷ m ∷ []))) 1 ≡ Some i) new_has is)))
second_is_dest (suc (suc n)) i (suc k ∷ l ∷ m ∷ []) longer each taken is = absurd (some_none (0, codes "b") taken)
second_is_dest (suc (suc n)) i (k ∷ l ∷ m ∷ x ∷ shares) longer each taken is = absurd each.1.1.1

pub owner_is_dest : AreOwners (old_in_list ∷ new ∷ dest ∷ []) (codes "b" ∷ []) (2 ∷ [])
owner_is_dest = record {
  sound = λ i has. ⊎_elim (λ same. subst (λ n. CanOwn (old_in_list ∷ new ∷ dest ∷ []) (codes "b" ∷ []) n) same owns_dest) (λ no. absurd (none i no)) (cons_cases 2 [] i has);
  complete = λ i can. subst (λ n. Contains (2 ∷ []) n) (sym (is_dest i can)) (contains_first 2 []);
  in_order = tt;
}
  where
    is_dest : (i : ℕ) → CanOwn (old_in_list ∷ new ∷ dest ∷ []) (codes "b" ∷ []) i → i ≡ 2
    is_dest i can =
        second_is_dest can.count i can.are_places.shares can.longer can.are_places.are_shares.each
        (subst (λ places. refused_word (old_in_list ∷ new ∷ dest ∷ []) places (codes "b" ∷ []) ≡ None) can.are_places.placed can.none)
        (subst (λ l. slice_get l 1 ≡ Some i) can.are_places.placed can.here)
