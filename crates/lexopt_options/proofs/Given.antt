-- The keys that are given to positionals.
use Rattle.lexopt_options.proofs.Common.{below_more, length-append, set, if◌then◌else◌, take-append-drop, ◌≡◌, ◌≤◌, ◌<◌, ◌+◌, ℕ, suc, Bool, true, false, List, [], ◌∷◌, length, take, drop, map, get_or}
use Rattle.lexopt_options.proofs.Common.{filter, Option, Some, slice_get, refl, sym, ap, subst, ◌∙◌, arith, AllZip, drop_all, get_or_default, get_or-set_other, get_or-set_same, take_more, IsWithin}
use Rattle.lexopt_options.proofs.Common.{most, some_places, ArePlaces, positional_view, Declared, Positional}
use Rattle.lexopt_options.proofs.ReadKeys.{keys_append}
use Rattle.lexopt_options_spec.specs.Legal as legal
use Rattle.lexopt_options.specs.declared.parsed.Parsed.{Parsed}
use Rattle.lexopt_options.specs.declared.parsed.Parsed.TheVariants as parsed
use Rattle.lexopt_options.specs.Keys.{AreParsedAs, HasKey, HaveKeys, IsGiven, IsParsedAs, IsSame, is_positional, positional_keys}
use Rattle.lexopt_options.proofs.Owners.{places_length, places_some}

abbrev pub word_count : {F V P M S : Type 0} → List (Parsed F V P M S) → ℕ
word_count xs = length (positional_keys xs)

pub counted : {F V P M S : Type 0} (xs : List (Parsed F V P M S)) → length (filter (λ x. is_positional x) xs) ≡ word_count xs
counted [] = refl
counted (parsed.Positional key word ∷ xs) = ap suc (counted xs)
counted (x ∷ xs) = counted xs

-- the key that is found for a positional
pub given_one : {F V P M S : Type 0} (positionals : List (Positional P)) (places : List ℕ) (n : ℕ) (own : Parsed F V P M S) (old other : P) (word : _) (found : Option P) → own ≡ parsed.Positional old word → found ≡ Some other
    → ((key : P) × (i : ℕ) × (found ≡ Some key) × (slice_get places n ≡ Some i) × HasKey positionals i key) → IsGiven positionals places n own (parsed.Positional other word)
given_one {F} {V} {P} {M} {S} positionals places n own old other word found own_is found_is (key, i, is, at, has) =
    let e : Some key ≡ Some other = sym is ∙ found_is in
    let same : key ≡ other = cc in
    subst (λ (x : Parsed F V P M S). IsGiven positionals places n x (parsed.Positional other word)) (sym own_is) (other, i, refl, at, subst (HasKey positionals i) same has)

-- ---- from each to all

-- the second is the first with its key, where n words come before it
abbrev pub Gives : {F V P M S : Type 0} → List (Positional P) → ℕ → ℕ → Parsed F V P M S → Parsed F V P M S → Type 0
Gives positionals count n x y = IsSame x y × ((places : List ℕ) → ArePlaces (map positional_view positionals) count places → IsGiven positionals places n x y)

abbrev pub EachGives : {F V P M S : Type 0} → List (Positional P) → ℕ → ℕ → List (Parsed F V P M S) → List (Parsed F V P M S) → Type 0
EachGives positionals count n [] [] = Unit {0}
EachGives positionals count n (x ∷ xs) (y ∷ ys) = Gives positionals count n x y × EachGives positionals count (word_count (x ∷ []) + n) xs ys
EachGives positionals count n xs ys = ⊥

parsed_so : {F V P M S : Type 0} (options : List (Declared F V M S)) (s : legal.Parsed) (x y : Parsed F V P M S) → IsSame x y → IsParsedAs options s x → IsParsedAs options s y
parsed_so options s (parsed.Positional key word) y same is = subst (IsParsedAs options s) (sym same.1) is
parsed_so options s x y same is = subst (IsParsedAs options s) (sym same) is

-- what was read is still the same
pub parsed_still : {F V P M S : Type 0} (positionals : List (Positional P)) (count n : ℕ) (options : List (Declared F V M S)) (l : List legal.Parsed) (xs ys : List (Parsed F V P M S)) → EachGives positionals count n xs ys
    → AreParsedAs options l xs → AreParsedAs options l ys
parsed_still positionals count n options [] [] [] each are = tt
parsed_still positionals count n options (s ∷ l) (x ∷ xs) (y ∷ ys) each are =
    (parsed_so options s x y each.0.0 are.0, parsed_still positionals count (word_count (x ∷ []) + n) options l xs ys each.1 are.1)
parsed_still positionals count n options l xs ys each are = search

word_cons : {F V P M S : Type 0} (x : Parsed F V P M S) (xs : List (Parsed F V P M S)) → word_count (x ∷ xs) ≡ word_count (x ∷ []) + word_count xs
word_cons x xs = ap length (keys_append (x ∷ []) xs) ∙ length-append (positional_keys (x ∷ [])) (positional_keys xs)

each_gives : {F V P M S : Type 0} (positionals : List (Positional P)) (count n : ℕ) (xs ys : List (Parsed F V P M S)) → length ys ≡ length xs
    → ((i : ℕ) (d : Parsed F V P M S) → i < length xs → Gives positionals count (word_count (take i xs) + n) (get_or xs i d) (get_or ys i d)) → EachGives positionals count n xs ys
each_gives positionals count n [] [] same at = tt
each_gives positionals count n (x ∷ xs) (y ∷ ys) same at = (
  subst (λ k. Gives positionals count k x y) (omega arith) (at 0 x (omega arith)),
  each_gives positionals count (word_count (x ∷ []) + n) xs ys (omega (arith, same))
      (λ i d below. subst (λ k. Gives positionals count k (get_or xs i d) (get_or ys i d)) (let e = word_cons x (take i xs) in omega (arith, e)) (at (suc i) d (omega (arith, below)))),
)
each_gives positionals count n xs ys same at = absurd (omega (arith, same))

-- the keys that were given, from the word at this index on
given_keys : {F V P M S : Type 0} (positionals : List (Positional P)) (count : ℕ) (places : List ℕ) (n : ℕ) (xs ys : List (Parsed F V P M S)) → ArePlaces (map positional_view positionals) count places → EachGives positionals count n xs ys → word_count xs + n ≡ length places
    → AllZip (HasKey positionals) (drop n places) (positional_keys ys)
given_keys positionals count places n [] [] are given all = subst (λ l. AllZip (HasKey positionals) l []) (sym (drop_all n places (omega (arith, all)))) tt
given_keys positionals count places n (x ∷ xs) (y ∷ ys) are given all =
    one x (given.0.1 places are) (given_keys positionals count places (word_count (x ∷ []) + n) xs ys are given.1 (let e = word_cons x xs in omega (arith, e, all)))
  where
    keys_of : (k : Parsed _ _ _ _ _) → y ≡ k → positional_keys (k ∷ ys) ≡ positional_keys (y ∷ ys)
    keys_of k is = ap (λ z. positional_keys (z ∷ ys)) (sym is)

    one : (x : Parsed _ _ _ _ _) → IsGiven positionals places n x y → AllZip (HasKey positionals) (drop (word_count (x ∷ []) + n) places) (positional_keys ys)
        → AllZip (HasKey positionals) (drop n places) (positional_keys (y ∷ ys))
    one (parsed.Positional key word) (k, i, is, at, has) rest =
        subst (AllZip (HasKey positionals) (drop n places)) (keys_of (parsed.Positional k word) is)
        (subst (λ l. AllZip (HasKey positionals) l (k ∷ positional_keys ys)) (sym (places_some places n i at ∙ ap (λ m. i ∷ drop m places) (omega arith))) (has, rest))
    one x is rest = subst (AllZip (HasKey positionals) (drop n places)) (keys_of x is) (subst (λ m. AllZip (HasKey positionals) (drop m places) (positional_keys ys)) (omega arith) rest)
given_keys positionals count places n xs ys are given all = absurd given

-- there are as many positionals as before
same_count : {F V P M S : Type 0} (positionals : List (Positional P)) (count n : ℕ) (xs ys : List (Parsed F V P M S)) → EachGives positionals count n xs ys → word_count ys ≡ word_count xs
same_count positionals count n [] [] same = refl
same_count positionals count n (x ∷ xs) (y ∷ ys) same = one x same.0.0 (same_count positionals count (word_count (x ∷ []) + n) xs ys same.1)
  where
    keys_of : (k : Parsed _ _ _ _ _) → y ≡ k → word_count (y ∷ ys) ≡ word_count (k ∷ ys)
    keys_of k is = ap (λ z. word_count (z ∷ ys)) is

    one : (x : Parsed _ _ _ _ _) → IsSame x y → word_count ys ≡ word_count xs → word_count (y ∷ ys) ≡ word_count (x ∷ xs)
    one (parsed.Positional key word) (k, is) rest = keys_of (parsed.Positional k word) is ∙ ap suc rest
    one x is rest = keys_of x is ∙ rest
same_count positionals count n xs ys same = absurd same

-- ---- one after another

-- each positional before this index has its key, and the others are as they were
pub record AreDone {F V P M S : Type 0} (positionals : List (Positional P)) (count : ℕ) (xs ys : List (Parsed F V P M S)) (index word : ℕ) : Type 0 where
  pub counted : word ≡ word_count (take index xs)
  pub gives : (i : ℕ) → i < index → (d : Parsed F V P M S) → Gives positionals count (word_count (take i xs) + 0) (get_or xs i d) (get_or ys i d)
  pub later : (i : ℕ) → index ≤ i → (d : Parsed F V P M S) → get_or ys i d ≡ get_or xs i d

-- one more word, if this is a positional
abbrev pub after : Bool → ℕ → ℕ
after true n = n + 1
after false n = n

one_counted : {F V P M S : Type 0} (x : Parsed F V P M S) (b : Bool) → is_positional x ≡ b → word_count (x ∷ []) ≡ length (if b then x ∷ [] else [])
one_counted x b is = sym (counted (x ∷ [])) ∙ ap (λ c. length (if c then x ∷ [] else [])) is

one_after : {F V P M S : Type 0} (x : Parsed F V P M S) (b : Bool) (n : ℕ) → is_positional x ≡ b → after b n ≡ word_count (x ∷ []) + n
one_after x true n is = let e = one_counted x true is in omega (arith, e)
one_after x false n is = let e = one_counted x false is in omega (arith, e)

take_count : {F V P M S : Type 0} (n : ℕ) (xs : List (Parsed F V P M S)) → word_count (take n xs) ≤ word_count xs
take_count n xs =
    let whole = ap word_count (sym (take-append-drop n xs)) ∙ ap length (keys_append (take n xs) (drop n xs)) ∙ length-append (positional_keys (take n xs)) (positional_keys (drop n xs)) in
    omega (arith, whole)

taken_more : {F V P M S : Type 0} (xs : List (Parsed F V P M S)) (index : ℕ) (x : Parsed F V P M S) → index < length xs → x ≡ get_or xs index x → word_count (take (index + 1) xs) ≡ word_count (x ∷ []) + word_count (take index xs)
taken_more xs index x within is =
    ap word_count (take_more xs index x within) ∙ ap length (keys_append (take index xs) (get_or xs index x ∷ [])) ∙ length-append (positional_keys (take index xs)) (positional_keys (get_or xs index x ∷ []))
    ∙ ap (λ y. word_count (take index xs) + word_count (y ∷ [])) (sym is) ∙ omega arith

pub done_none : {F V P M S : Type 0} (positionals : List (Positional P)) (count : ℕ) (xs : List (Parsed F V P M S)) → AreDone positionals count xs xs 0 0
done_none positionals count xs = record {
  counted = refl;
  gives = λ i below. absurd (omega (arith, below));
  later = λ i past d. refl;
}

old_at : {F V P M S : Type 0} (positionals : List (Positional P)) (count : ℕ) (xs ys : List (Parsed F V P M S)) (index word : ℕ) (old : Parsed F V P M S) → AreDone positionals count xs ys index word
    → old ≡ get_or ys index old → old ≡ get_or xs index old
old_at positionals count xs ys index word old done old_is = old_is ∙ done.later index (omega arith) old

-- a positional whose key is not given yet is one more word
pub word_below : {F V P M S : Type 0} (positionals : List (Positional P)) (count : ℕ) (xs ys : List (Parsed F V P M S)) (index word : ℕ) (old : Parsed F V P M S) → AreDone positionals count xs ys index word → index < length xs
    → old ≡ get_or ys index old → is_positional old ≡ true → word < word_count xs
word_below positionals count xs ys index word old done within old_is is =
    let more = taken_more xs index old within (old_at positionals count xs ys index word old done old_is) in
    let one = one_counted old true is in
    let less = take_count (index + 1) xs in
    omega (arith, more, one, less, done.counted)

pub done_more : {F V P M S : Type 0} (positionals : List (Positional P)) (count : ℕ) (xs ys : List (Parsed F V P M S)) (index word word_now : ℕ) (old new : Parsed F V P M S) (b : Bool)
    → AreDone positionals count xs ys index word → index < length xs → length ys ≡ length xs → old ≡ get_or ys index old → count ≡ word_count xs → b ≡ is_positional old → IsSame old new
    → ((places : List ℕ) → ArePlaces (map positional_view positionals) count places → (is_positional old ≡ true → word < count) → IsGiven positionals places word old new)
    → word_now ≡ after b word → AreDone positionals count xs (set ys index new) (index + 1) word_now
done_more {F} {V} {P} {M} {S} positionals count xs ys index word word_now old new b done within same_length old_is counted b_is same given now_is = record {
  counted = now;
  gives = below_more _ _
      (λ i below d. subst (Gives positionals count (word_count (take i xs) + 0) (get_or xs i d)) (sym (get_or-set_other ys index i new d (omega (arith, below)))) (done.gives i below d))
      (λ d. subst (λ x. Gives positionals count (word_count (take index xs) + 0) x (get_or (set ys index new) index d)) (sym (at d))
      (subst (Gives positionals count (word_count (take index xs) + 0) old) (sym (set_is d)) (subst (λ n. Gives positionals count n old new) (omega (arith, done.counted)) (same, own))));
  later = λ i past d. get_or-set_other ys index i new d (omega (arith, past)) ∙ done.later i (omega (arith, past)) d;
}
  where
    at_old : old ≡ get_or xs index old
    at_old = old_at positionals count xs ys index word old done old_is

    at : (d : Parsed F V P M S) → get_or xs index d ≡ old
    at d = get_or_default xs index d old within ∙ sym at_old

    set_is : (d : Parsed F V P M S) → get_or (set ys index new) index d ≡ new
    set_is d = get_or-set_same ys index new d (omega (arith, same_length, within))

    more : word_count (take (index + 1) xs) ≡ word_count (old ∷ []) + word_count (take index xs)
    more = taken_more xs index old within at_old

    own : (places : List ℕ) → ArePlaces (map positional_view positionals) count places → IsGiven positionals places word old new
    own places are = given places are (λ is. subst (λ n. word < n) (sym counted) (word_below positionals count xs ys index word old done within old_is is))

    now : word_now ≡ word_count (take (index + 1) xs)
    now = now_is ∙ one_after old b word (sym b_is) ∙ ap (λ n. word_count (old ∷ []) + n) done.counted ∙ sym more

-- at the end each positional has its key
pub all_given : {F V P M S : Type 0} (positionals : List (Positional P)) (count : ℕ) (xs ys : List (Parsed F V P M S)) (index word : ℕ) → AreDone positionals count xs ys index word → length ys ≡ length xs → length xs ≤ index
    → EachGives positionals count 0 xs ys
all_given positionals count xs ys index word done same_length all = each_gives positionals count 0 xs ys same_length (λ i d below. done.gives i (omega (arith, below, all)) d)

pub have_keys : {F V P M S : Type 0} (positionals : List (Positional P)) (xs ys : List (Parsed F V P M S)) → EachGives positionals (word_count xs) 0 xs ys → IsWithin (word_count xs) (most (map positional_view positionals))
    → HaveKeys positionals ys
have_keys positionals xs ys given within =
    let some = some_places (map positional_view positionals) (word_count xs) within in
    record {
      places = some.0;
      are_places = subst (λ n. ArePlaces (map positional_view positionals) n some.0) (sym (same_count positionals (word_count xs) 0 xs ys given)) some.1;
      have = given_keys positionals (word_count xs) some.0 0 xs ys some.1 given (let e = places_length (map positional_view positionals) (word_count xs) some.0 some.1 in omega (arith, e));
    }
