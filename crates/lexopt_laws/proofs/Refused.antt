-- An option refuses the first value that is not in its list.
use Rattle.std.proofs.Common.{◌≡◌, ◌≢◌, ◌==◌, ◌||◌, ℕ, zero, suc, Bool, true, false, not, cond, nat_lt, List, [], ◌∷◌, ◌++◌, length, position, slice_get, unwrap_or, option_and_then, Some, None, refl, sym, ap, subst, ◌∙◌, arith, ⊎_elim}
use Rattle.std.specs.Cmp.Lexicographic.{pointwise}
use Rattle.std.specs.List.{All, Contains, find, list_any, position_or_len}
use Rattle.std.specs.Option.{option_map}
use Rattle.std.proofs.lemmas.Bool.{and_parts, eqb-true, false≢true, lt-ltb, or_left, or_right, true≢false}
use Rattle.std.proofs.lemmas.List.Elements.{All-cons, All-head, All-nil, All-tail}
use Rattle.std.proofs.lemmas.List.Folds.{find_at}
use Rattle.std.proofs.lemmas.Option.{same_Some, slice_get_cases}
use Rattle.lexopt_options_spec.specs.Declaration.{Declared, Words, accepts, files, directories, text, listed}
use Rattle.lexopt_options_spec.specs.Legal.{Parsed, option, several, positional, accepts_at, is_option, refused_value}
use Rattle.lexopt_options_spec.proofs.Tables.{pointwise_refl}
use Rattle.lexopt_laws.specs.ListedValues.{IsFirstOutside, values_of}

-- ---- the first element that passes a test

first_found : {X : Type 0} (p : X → Bool) (xs : List X) → option_and_then (λ n. slice_get xs n) (position p xs) ≡ find p xs
first_found {X = X} p xs = go (nat_lt place (length xs)) refl
  where
    place : ℕ
    place = position_or_len p xs

    go : (b : Bool) → nat_lt place (length xs) ≡ b → option_and_then (λ n. slice_get xs n) (cond (nat_lt place (length xs)) (Some place) None) ≡ find p xs
    go true is = ap (λ (b : Bool). option_and_then (λ n. slice_get xs n) (cond b (Some place) None)) is ∙ sym (find_at p xs)
    go false is = ap (λ (b : Bool). option_and_then (λ n. slice_get xs n) (cond b (Some place) None)) is ∙ ⊎_elim
        (λ here. absurd (true≢false (sym (lt-ltb place (length xs) here.1) ∙ is)))
        (λ past. sym (find_at p xs ∙ past.1))
        (slice_get_cases xs place).1

-- the option does not accept the value
abbrev fails : List Declared → ℕ → List ℕ → Bool
fails options i value = not (accepts_at options i value)

one_found : (b : Bool) (value : List ℕ) → cond b None (Some value) ≡ cond (not b) (Some value) None
one_found true value = refl
one_found false value = refl

refused_is : (options : List Declared) (i : ℕ) (s : Parsed) → is_option i s ≡ true → refused_value options s ≡ find (fails options i) (values_of s)
refused_is options i (option j None) of = refl
refused_is options i (option j (Some value)) of = one_found (accepts_at options j value) value ∙ ap (λ k. find (fails options k) (value ∷ [])) (eqb-true j i of)
refused_is options i (several j values) of = first_found (fails options j) values ∙ ap (λ k. find (fails options k) values) (eqb-true j i of)
refused_is options i (positional word) of = absurd (false≢true of)

-- ---- what is in a list

-- the test of an option with this list
abbrev pub is_in : List (List ℕ) → List ℕ → Bool
is_in list value = list_any (λ w. pointwise ◌==◌ w value) list

one_list : (xs ys : List ℕ) → pointwise ◌==◌ xs ys ≡ true → xs ≡ ys
one_list [] [] is = refl
one_list [] (y ∷ ys) is = absurd (false≢true is)
one_list (x ∷ xs) [] is = absurd (false≢true is)
one_list (x ∷ xs) (y ∷ ys) is =
    let parts = and_parts (x == y) (pointwise ◌==◌ xs ys) is in
    ap (λ z. z ∷ xs) (eqb-true x y parts.0) ∙ ap (λ zs. y ∷ zs) (one_list xs ys parts.1)

later : (w : List ℕ) (list : List (List ℕ)) (value : List ℕ) → Contains list value → Contains (w ∷ list) value
later w list value has = (suc has.0, (let below = has.1 in omega arith), has.2)

pub in_list : (list : List (List ℕ)) (value : List ℕ) → is_in list value ≡ true → Contains list value
in_list [] value is = absurd (false≢true is)
in_list (w ∷ list) value is = go (pointwise ◌==◌ w value) refl (in_list list value)
  where
    go : (b : Bool) → pointwise ◌==◌ w value ≡ b → (is_in list value ≡ true → Contains list value) → Contains (w ∷ list) value
    go true same rest = (0, omega arith, one_list w value same)
    go false other rest = later w list value (rest (sym (ap (λ (b : Bool). b || is_in list value) other) ∙ is))

pub found_in : (list : List (List ℕ)) (value : List ℕ) → Contains list value → is_in list value ≡ true
found_in [] value (n, below, same) = absurd (omega arith)
found_in (w ∷ list) value (zero, below, same) =
    or_left (pointwise ◌==◌ w value) (is_in list value) (subst (λ x. pointwise ◌==◌ w x ≡ true) same (pointwise_refl w))
found_in (w ∷ list) value (suc n, below, same) = or_right (pointwise ◌==◌ w value) (is_in list value) (found_in list value (n, omega arith, same))

-- ---- the first value that is not in a list

-- exactly the values in the list fail the test
abbrev Tests : List (List ℕ) → (List ℕ → Bool) → Type 0
Tests list p = (value : List ℕ) → p value ≡ not (is_in list value)

passes_in : (list : List (List ℕ)) (p : List ℕ → Bool) → Tests list p → (value : List ℕ) → Contains list value → p value ≡ false
passes_in list p tests value has = tests value ∙ ap not (found_in list value has)

passes_outside : (list : List (List ℕ)) (p : List ℕ → Bool) → Tests list p → (value : List ℕ) → ¬ Contains list value → p value ≡ true
passes_outside list p tests value outside = go (is_in list value) refl
  where
    go : (b : Bool) → is_in list value ≡ b → p value ≡ true
    go true is = absurd (outside (in_list list value is))
    go false is = tests value ∙ ap not is

found_outside : (list : List (List ℕ)) (p : List ℕ → Bool) → Tests list p → (values : List (List ℕ)) (value : List ℕ) → find p values ≡ Some value → IsFirstOutside list values value
found_outside list p tests [] value is = absurd (let e : None ≡ Some value = is in cc)
found_outside list p tests (v ∷ values) value is = go (is_in list v) refl (found_outside list p tests values value)
  where
    go : (b : Bool) → is_in list v ≡ b → (find p values ≡ Some value → IsFirstOutside list values value) → IsFirstOutside list (v ∷ values) value
    go true there others =
        let rest = others (sym (ap (λ (b : Bool). cond b (Some v) (find p values)) (tests v ∙ ap not there)) ∙ is) in
        record {
          before = v ∷ rest.before;
          after = rest.after;
          values_are = ap (λ l. v ∷ l) rest.values_are;
          listed_before = All-cons (Contains list) v rest.before (in_list list v there) rest.listed_before;
          outside = rest.outside;
        }
    go false other others =
        let same = same_Some v value (sym (ap (λ (b : Bool). cond b (Some v) (find p values)) (tests v ∙ ap not other)) ∙ is) in
        record {
          before = [];
          after = values;
          values_are = ap (λ w. w ∷ values) same;
          listed_before = All-nil (Contains list);
          outside = λ has. true≢false (sym (found_in list v (subst (Contains list) (sym same) has)) ∙ other);
        }

outside_found : (list : List (List ℕ)) (p : List ℕ → Bool) → Tests list p → (before after : List (List ℕ)) (value : List ℕ) → All (Contains list) before → ¬ Contains list value
    → find p (before ++ value ∷ after) ≡ Some value
outside_found list p tests [] after value inside outside = ap (λ (b : Bool). cond b (Some value) (find p after)) (passes_outside list p tests value outside)
outside_found list p tests (v ∷ before) after value inside outside =
    ap (λ (b : Bool). cond b (Some v) (find p (before ++ value ∷ after))) (passes_in list p tests v (All-head (Contains list) v before inside))
    ∙ outside_found list p tests before after value (All-tail (Contains list) v before inside) outside

none_outside : (list : List (List ℕ)) (p : List ℕ → Bool) → Tests list p → (values : List (List ℕ)) → find p values ≡ None → All (Contains list) values
none_outside list p tests [] none = All-nil (Contains list)
none_outside list p tests (v ∷ values) none = go (is_in list v) refl (none_outside list p tests values)
  where
    go : (b : Bool) → is_in list v ≡ b → (find p values ≡ None → All (Contains list) values) → All (Contains list) (v ∷ values)
    go true there rest = All-cons (Contains list) v values (in_list list v there)
        (rest (sym (ap (λ (b : Bool). cond b (Some v) (find p values)) (tests v ∙ ap not there)) ∙ none))
    go false other rest = absurd (let e : Some v ≡ None = sym (ap (λ (b : Bool). cond b (Some v) (find p values)) (tests v ∙ ap not other)) ∙ none in cc)

all_in : (list : List (List ℕ)) (p : List ℕ → Bool) → Tests list p → (values : List (List ℕ)) → All (Contains list) values → find p values ≡ None
all_in list p tests [] all = refl
all_in list p tests (v ∷ values) all =
    ap (λ (b : Bool). cond b (Some v) (find p values)) (passes_in list p tests v (All-head (Contains list) v values all)) ∙ all_in list p tests values (All-tail (Contains list) v values all)

-- ---- an option with a list

tests_of : (options : List Declared) (o : Declared) (i : ℕ) (list : List (List ℕ)) → slice_get options i ≡ Some o → o.words ≡ listed list → Tests list (fails options i)
tests_of options o i list here words value =
    ap (λ x. not (unwrap_or (option_map (λ p. accepts p.words value) x) true)) here ∙ ap (λ w. not (accepts w value)) words

pub refused_first : (options : List Declared) (o : Declared) (i : ℕ) (list : List (List ℕ)) (s : Parsed) (value : List ℕ) → slice_get options i ≡ Some o → o.words ≡ listed list → is_option i s ≡ true
    → refused_value options s ≡ Some value → IsFirstOutside list (values_of s) value
refused_first options o i list s value here words of refused =
    found_outside list (fails options i) (tests_of options o i list here words) (values_of s) value (sym (refused_is options i s of) ∙ refused)

pub first_refused : (options : List Declared) (o : Declared) (i : ℕ) (list : List (List ℕ)) (s : Parsed) (value : List ℕ) → slice_get options i ≡ Some o → o.words ≡ listed list → is_option i s ≡ true
    → IsFirstOutside list (values_of s) value → refused_value options s ≡ Some value
first_refused options o i list s value here words of first =
    refused_is options i s of ∙ ap (find (fails options i)) first.values_are
    ∙ outside_found list (fails options i) (tests_of options o i list here words) first.before first.after value first.listed_before first.outside

pub none_refused : (options : List Declared) (o : Declared) (i : ℕ) (list : List (List ℕ)) (s : Parsed) → slice_get options i ≡ Some o → o.words ≡ listed list → is_option i s ≡ true
    → refused_value options s ≡ None → All (Contains list) (values_of s)
none_refused options o i list s here words of none =
    none_outside list (fails options i) (tests_of options o i list here words) (values_of s) (sym (refused_is options i s of) ∙ none)

pub all_listed : (options : List Declared) (o : Declared) (i : ℕ) (list : List (List ℕ)) (s : Parsed) → slice_get options i ≡ Some o → o.words ≡ listed list → is_option i s ≡ true
    → All (Contains list) (values_of s) → refused_value options s ≡ None
all_listed options o i list s here words of all = refused_is options i s of ∙ all_in list (fails options i) (tests_of options o i list here words) (values_of s) all

-- ---- an option without a list

none_found : (options : List Declared) (i : ℕ) (values : List (List ℕ)) → ((value : List ℕ) → accepts_at options i value ≡ true) → find (fails options i) values ≡ None
none_found options i [] takes = refl
none_found options i (value ∷ values) takes =
    ap (λ (b : Bool). cond (not b) (Some value) (find (fails options i) values)) (takes value) ∙ none_found options i values takes

-- if an option accepts any value, it refuses none
pub takes_any : (options : List Declared) (i : ℕ) (s : Parsed) → is_option i s ≡ true → ((value : List ℕ) → accepts_at options i value ≡ true) → refused_value options s ≡ None
takes_any options i s of takes = refused_is options i s of ∙ none_found options i (values_of s) takes

any_word : (words : Words) → ((list : List (List ℕ)) → words ≢ listed list) → (value : List ℕ) → accepts words value ≡ true
any_word files other value = refl
any_word directories other value = refl
any_word text other value = refl
any_word (listed list) other value = absurd (other list refl)

pub no_list : (options : List Declared) (o : Declared) (i : ℕ) (s : Parsed) → slice_get options i ≡ Some o → ((list : List (List ℕ)) → o.words ≢ listed list) → is_option i s ≡ true
    → refused_value options s ≡ None
no_list options o i s here other of =
    takes_any options i s of (λ value. ap (λ x. unwrap_or (option_map (λ p. accepts p.words value) x) true) here ∙ any_word o.words other value)
