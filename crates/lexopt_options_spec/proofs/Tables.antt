-- In the table of a sound declaration, each option has its own kind.
use Rattle.lexopt_options_spec.proofs.Common.{get_or, get_or-take, length-take-le, take, ◌<◌, position, nat_lt, length, if◌then◌else◌, ◌≡◌, ◌⊎◌, ℕ, ◌==◌, ◌||◌, ◌&&◌, suc, zero, Bool, true, false}
use Rattle.lexopt_options_spec.proofs.Common.{cond, List, [], ◌∷◌, Option, Some, None, refl, sym, ap, subst, ◌∙◌, arith, inl, inr, ⊎_elim, true≢false, and_from, cases_order, false_from_ne_true}
use Rattle.lexopt_options_spec.proofs.Common.{eq-eqb, eqb-true, lt-ltb, and_parts, or_cases, or_left, or_right, Any-from_list_any, list_any-append, list_any_at, list_any, pointwise, same_text}
use Rattle.std.proofs.lemmas.List.{get_or_default}
use Rattle.std.proofs.lemmas.List.Sums.{position_or_len_is}
use Rattle.std.specs.Prelude.{Any, Contains}
use Rattle.lexopt_line_spec.specs.Table.{Name, short, long, Kind, flag, one, optional, several, holds_in, kind}
use Rattle.lexopt_options_spec.specs.Declaration.{Declared, all_names, has_name, index_of, is_name, is_one_of, if_kind, shorts_in, longs_in, shorts_of, longs_of, table, is_sound, shares_name}
use Rattle.lexopt_options_spec.proofs.FaultLemmas.{faultless_at}

-- ---- names

pub pointwise_refl : (xs : List ℕ) → pointwise ◌==◌ xs xs ≡ true
pointwise_refl [] = refl
pointwise_refl (x ∷ xs) = ap (λ b. b && pointwise ◌==◌ xs xs) (eq-eqb x x refl) ∙ pointwise_refl xs

pub name_is : (name n : Name) → is_name name n ≡ true → n ≡ name
name_is (short c) (short d) is = ap (λ x. short x) (eqb-true d c is)
name_is (long name) (long n) is = ap (λ x. long x) (same_text n name (sym is))
name_is name n is = absurd (true≢false (sym is))

pub name_refl : (name : Name) → is_name name name ≡ true
name_refl (short c) = eq-eqb c c refl
name_refl (long name) = pointwise_refl name

-- what passes one of these names passes any of them
any_named : (name : Name) (p : Name → Bool) (names : List Name) → is_one_of names name ≡ true → p name ≡ true → list_any p names ≡ true
any_named name p [] among is = absurd (true≢false (sym among))
any_named name p (n ∷ ns) among is = ⊎_elim
    (λ here. or_left _ _ (subst (λ (x : Name). p x ≡ true) (sym (name_is name n here)) is))
    (λ later. or_right (p n) _ (any_named name p ns later is))
    (or_cases (is_name name n) (is_one_of ns name) among)

-- the option has its own names

pub short_named : (o : Declared) (c : ℕ) → o.short_name ≡ Some c → has_name (short c) o ≡ true
short_named o c is = subst (λ (s : Option ℕ). has_name (short c) (record o { short_name = s }) ≡ true) (sym is) (or_left _ _ (name_refl (short c)))

pub long_named : (o : Declared) (name : List ℕ) → o.long_name ≡ Some name → has_name (long name) o ≡ true
long_named o name is = subst (λ (l : Option (List ℕ)). has_name (long name) (record o { long_name = l }) ≡ true) (sym is) (beside o.short_name)
  where
    beside : (s : Option ℕ) → has_name (long name) (record o { short_name = s; long_name = Some name }) ≡ true
    beside None = or_left _ _ (name_refl (long name))
    beside (Some c) = or_left _ _ (name_refl (long name))

-- ---- the lists of the table

-- both kinds are the same, and not that of flags
abbrev is_kind : Kind → Kind → Bool
is_kind one one = true
is_kind optional optional = true
is_kind several several = true
is_kind k l = false

-- an option of this kind has this name
abbrev is_held : Kind → Name → Declared → Bool
is_held k name o = is_kind k o.kind && has_name name o

abbrev holds : Kind → List Declared → Name → Bool
holds k options name = holds_in (shorts_of k options) (longs_of k options) name

any_kind : {X : Type 0} (p : X → Bool) (k l : Kind) (xs : List X) → list_any p (if_kind k l xs) ≡ (is_kind k l && list_any p xs)
any_kind p one one xs = refl
any_kind p optional optional xs = refl
any_kind p several several xs = refl
any_kind p k l xs = refl

any_short : (c : ℕ) (names : List Name) → list_any (λ d. d == c) (shorts_in names) ≡ is_one_of names (short c)
any_short c [] = refl
any_short c (short d ∷ names) = ap (λ b. (d == c) || b) (any_short c names)
any_short c (long n ∷ names) = any_short c names

any_long : (name : List ℕ) (names : List Name) → list_any (λ m. pointwise ◌==◌ m name) (longs_in names) ≡ is_one_of names (long name)
any_long name [] = refl
any_long name (short d ∷ names) = any_long name names
any_long name (long n ∷ names) = ap (λ b. pointwise ◌==◌ n name || b) (any_long name names)

-- the lists of a kind have a name if and only if an option of the kind has it
holds_any : (k : Kind) (name : Name) (options : List Declared) → holds k options name ≡ list_any (is_held k name) options
holds_any k (short c) [] = refl
holds_any k (long name) [] = refl
holds_any k (short c) (o ∷ os) =
    list_any-append (λ d. d == c) (if_kind k o.kind (shorts_in (all_names o))) (shorts_of k os)
    ∙ ap (λ x. x || list_any (λ d. d == c) (shorts_of k os)) (any_kind (λ d. d == c) k o.kind (shorts_in (all_names o)) ∙ ap (λ b. is_kind k o.kind && b) (any_short c (all_names o)))
    ∙ ap (λ x. is_held k (short c) o || x) (holds_any k (short c) os)
holds_any k (long name) (o ∷ os) =
    list_any-append (λ m. pointwise ◌==◌ m name) (if_kind k o.kind (longs_in (all_names o))) (longs_of k os)
    ∙ ap (λ x. x || list_any (λ m. pointwise ◌==◌ m name) (longs_of k os)) (any_kind (λ m. pointwise ◌==◌ m name) k o.kind (longs_in (all_names o)) ∙ ap (λ b. is_kind k o.kind && b) (any_long name (all_names o)))
    ∙ ap (λ x. is_held k (long name) o || x) (holds_any k (long name) os)

-- ---- no two options have a name in common

-- an option has no name of one before it
names_apart : (options : List Declared) (name : Name) (j i : ℕ) (d : Declared) → is_sound options ≡ true → j < i → i < length options → has_name name (get_or options i d) ≡ true
    → has_name name (get_or options j d) ≡ false
names_apart options name j i d sound less within has = false_from_ne_true _ (λ there. true≢false (sym (list_any_at (shares_name o) (take i options) j d earlier (shared there)) ∙ alone))
  where
    o : Declared
    o = get_or options i d

    earlier : j < length (take i options)
    earlier = let all = length-take-le i options (omega (arith, within)) in omega (arith, all, less)

    alone : list_any (shares_name o) (take i options) ≡ false
    alone = (faultless_at options i d sound within).alone

    shared : has_name name (get_or options j d) ≡ true → shares_name o (get_or (take i options) j d) ≡ true
    shared there = ap (shares_name o) (get_or-take i options j d less) ∙ any_named name (λ n. has_name n (get_or options j d)) (all_names o) has there

-- the option at an index is the only one with its name
only_named : (options : List Declared) (name : Name) (i j : ℕ) (d : Declared) → is_sound options ≡ true → i < length options → j < length options → has_name name (get_or options i d) ≡ true
    → has_name name (get_or options j d) ≡ true → i ≡ j
only_named options name i j d sound i_in j_in a b = ⊎_elim
    (λ same. same)
    (λ other. absurd (⊎_elim
    (λ less. true≢false (sym a ∙ names_apart options name i j d sound less j_in b))
    (λ more. true≢false (sym b ∙ names_apart options name j i d sound more i_in a)) other))
    (cases_order i j)

-- ---- the option with a name

abbrev pub IsIn : Declared → List Declared → Type 0
IsIn o [] = ⊥
IsIn o (p ∷ ps) = (p ≡ o) ⊎ IsIn o ps

-- the only option with this name decides
held_by : (k : Kind) (name : Name) (options : List Declared) (i : ℕ) (o : Declared) → is_sound options ≡ true → i < length options → get_or options i o ≡ o → has_name name o ≡ true
    → list_any (is_held k name) options ≡ is_kind k o.kind
held_by k name options i o sound within at has = go (is_kind k o.kind) refl
  where
    go : (b : Bool) → is_kind k o.kind ≡ b → list_any (is_held k name) options ≡ b
    go true is = list_any_at (is_held k name) options i o within (ap (is_held k name) at ∙ and_from _ _ is has)
    go false is = false_from_ne_true _ (λ any.
        let there : Any (λ x. is_held k name x ≡ true) options = Any-from_list_any (is_held k name) options any in
        let parts = and_parts (is_kind k there.1.kind) (has_name name there.1) there.4 in
        let here = get_or_default options there.0 o there.1 there.2 ∙ there.3 in
        let same = only_named options name i there.0 o sound within there.2 (ap (has_name name) at ∙ has) (ap (has_name name) here ∙ parts.1) in
        true≢false (sym parts.0 ∙ ap (λ (x : Declared). is_kind k x.kind) (sym here ∙ ap (λ n. get_or options n o) (sym same) ∙ at) ∙ is))

pub contains_in : (os : List Declared) (o : Declared) → Contains os o → IsIn o os
contains_in [] o (k, below, at) = absurd (omega arith)
contains_in (q ∷ os) o (zero, below, at) = inl at
contains_in (q ∷ os) o (suc k, below, at) = inr (contains_in os o (k, omega arith, at))

chosen : (k : Kind) → cond (is_kind one k) one (cond (is_kind optional k) optional (cond (is_kind several k) several flag)) ≡ k
chosen flag = refl
chosen k = refl

-- in the table, the name of an option has the option's kind
pub kind_of_name : (options : List Declared) (o : Declared) → is_sound options ≡ true → Contains options o → (name : Name) → has_name name o ≡ true → kind (table options) name ≡ o.kind
unfolding kind
kind_of_name options o sound there name has =
    let held : (k : Kind) → holds k options name ≡ is_kind k o.kind = λ k. holds_any k name options ∙ held_by k name options there.0 o sound there.1 there.2 has in
    ap (λ b. cond b one (cond (holds optional options name) optional (cond (holds several options name) several flag))) (held one)
    ∙ ap (λ b. cond (is_kind one o.kind) one (cond b optional (cond (holds several options name) several flag))) (held optional)
    ∙ ap (λ b. cond (is_kind one o.kind) one (cond (is_kind optional o.kind) optional (cond b several flag))) (held several)
    ∙ chosen o.kind

-- ---- the index of a name

pub first_at : {X : Type 0} (p : X → Bool) (xs : List X) (i : ℕ) (d : X) → i < length xs → ((k : ℕ) → k < i → p (get_or xs k d) ≡ false) → p (get_or xs i d) ≡ true → position p xs ≡ Some i
first_at p xs i d within before here =
    ap (λ n. if nat_lt n (length xs) then Some n else None) (position_or_len_is p xs i d (omega (arith, within)) before (λ inside. here))
    ∙ ap (λ b. if b then Some i else None) (lt-ltb i (length xs) within)

-- an option of a sound list has the index of its name
pub index_there : (options : List Declared) (name : Name) (i : ℕ) (d : Declared) → is_sound options ≡ true → i < length options → has_name name (get_or options i d) ≡ true
    → index_of options name ≡ Some i
index_there options name i d sound within has = first_at (has_name name) options i d within (λ k less. names_apart options name k i d sound less within has) has
