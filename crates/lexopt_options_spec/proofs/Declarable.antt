-- The fault that the prover computes is the first one that there is.
use Rattle.lexopt_options_spec.proofs.Common.{list_all, list_any, starts_with, IsUtf8, list_any-append, same_Some, replacement, lossy_characters, equals, Name, short, long, encoded, AreText, IsText}
use Rattle.std.proofs.Common.{◌≡◌, ◌≢◌, ℕ, zero, suc, ◌+◌, ◌/◌, ◌%◌, Bool, true, false, nat_eq, ◌==◌, ◌||◌, ◌&&◌, List, [], ◌∷◌, ◌++◌, take, Option, Some, None, is_none, cond, encode_utf8, encode_utf8_all, refl, sym, ap, subst, ◌∙◌, arith, ⊎_elim}
use Rattle.std.proofs.Math.Bool.{or_comm, or-false}
use Rattle.std.specs.Prelude.{slice_get}
use Rattle.std.proofs.lemmas.Bool.{true≢false, and_parts, or_parts, or_left, or_right, or_cases, false_from_ne_true, cond_both, ltb-true, eqb-true, eq-eqb, ne_eqb}
use lib.Dec.{ltb}
use lib.Utf8.{encode}
use Rattle.lexopt_options_spec.specs.Declaration.{Declared, Reason, empty_name, equals_in_name, replacement_in_name, blank_or_control_in_name, all_names, or_else, has, has_name, is_blank_or_control, is_empty, is_one_of, name_fault, names_fault, shares_name, Beside, nothing, name_beside, is_plain_flag, label_fault, bad_label, fault, faults, is_sound, IsFirstFault}
use Rattle.lexopt_options_spec.specs.Declarable.{byte_fault, has_replacement, fault_beside, or_later, fault_from, first_fault}
use Rattle.lexopt_options_spec.proofs.Tables.{name_refl}

-- ---- U+FFFD by its bytes

has_after : (bs more : List ℕ) → has_replacement more ≡ true → has_replacement (bs ++ more) ≡ true
has_after [] more is = is
has_after (b ∷ bs) more is = or_right _ _ (has_after bs more is)

has_here : (more : List ℕ) → has_replacement (encode_utf8_all (replacement ∷ more)) ≡ true
unfolding encode
has_here more = refl

has_bytes : (cs : List ℕ) → has replacement cs ≡ true → has_replacement (encode_utf8_all cs) ≡ true
has_bytes [] is = absurd (true≢false (sym is))
has_bytes (c ∷ cs) is = ⊎_elim
    (λ here. subst (λ (x : ℕ). has_replacement (encode_utf8_all (x ∷ cs)) ≡ true) (sym (eqb-true c replacement here)) (has_here cs))
    (λ later. has_after (encode_utf8 c) (encode_utf8_all cs) (has_bytes cs later))
    (or_cases (c == replacement) (has replacement cs) is)

characters_of : (name : List ℕ) (utf8 : IsUtf8 name) → lossy_characters name ≡ utf8.0
characters_of name utf8 = ap lossy_characters (sym utf8.1.1) ∙ encoded utf8.0 utf8.1.0

-- a byte that is not the first of U+FFFD
passed : (b : ℕ) (more : List ℕ) → b ≢ 0xEF → has_replacement (b ∷ more) ≡ has_replacement more
passed b more other = let e : nat_eq 0xEF b ≡ false = ne_eqb 0xEF b (λ is. other (sym is)) in rw e refl

-- three bytes that are not those of U+FFFD
three_passed : (a b c : ℕ) (more : List ℕ) → (a ≡ 0xEF → b ≡ 0xBF → c ≡ 0xBD → ⊥) → b ≢ 0xEF → c ≢ 0xEF → has_replacement (a ∷ b ∷ c ∷ more) ≡ has_replacement more
three_passed a b c more other second third =
    let here : starts_with nat_eq (a ∷ b ∷ c ∷ more) (0xEF ∷ 0xBF ∷ 0xBD ∷ []) ≡ false = false_from_ne_true _ (λ is.
    let first = and_parts (nat_eq 0xEF a) (nat_eq 0xBF b && (nat_eq 0xBD c && true)) is in
    let rest = and_parts (nat_eq 0xBF b) (nat_eq 0xBD c && true) first.1 in
    let last = and_parts (nat_eq 0xBD c) true rest.1 in
    other (sym (eqb-true 0xEF a first.0)) (sym (eqb-true 0xBF b rest.0)) (sym (eqb-true 0xBD c last.0))) in
    ap (λ x. x || has_replacement (b ∷ c ∷ more)) here ∙ passed b (c ∷ more) second ∙ passed c more third

character_passed : (c : ℕ) (more : List ℕ) → c ≢ replacement → has_replacement (encode_utf8 c ++ more) ≡ has_replacement more
unfolding encode
character_passed c more other =
    let P : List ℕ → Type 0 = λ l. has_replacement (l ++ more) ≡ has_replacement more in
    let next : ℕ → ℕ = λ bits. 128 + bits % 64 in
    cond_both (ltb c 128) (c ∷ []) _ P
    (λ e. passed c more (let h = ltb-true c 128 e in omega arith))
    (λ e. cond_both (ltb c 2048) _ _ P
    (λ f. let h = ltb-true c 2048 f in passed (192 + c / 64) (next c ∷ more) (omega arith) ∙ passed (next c) more (omega arith))
    (λ f. cond_both (ltb c 65536) _ _ P
    (λ g. let h = ltb-true c 65536 g in three_passed (224 + c / 4096) (next (c / 64)) (next c) more (λ x y z. other (omega arith)) (omega arith) (omega arith))
    (λ g. passed (240 + c / 262144) (next (c / 4096) ∷ next (c / 64) ∷ next c ∷ more) (omega arith)
    ∙ passed (next (c / 4096)) (next (c / 64) ∷ next c ∷ more) (omega arith) ∙ passed (next (c / 64)) (next c ∷ more) (omega arith) ∙ passed (next c) more (omega arith))))

no_bytes : (cs : List ℕ) → has replacement cs ≡ false → has_replacement (encode_utf8_all cs) ≡ false
no_bytes [] none = refl
no_bytes (c ∷ cs) none =
    let parts = or_parts (c == replacement) (has replacement cs) none in
    character_passed c (encode_utf8_all cs) (λ is. true≢false (sym (eq-eqb c replacement is) ∙ parts.0)) ∙ no_bytes cs parts.1

-- U+FFFD is found in the bytes of a text exactly if it is one of its characters
same_by_bytes : (name : List ℕ) → IsUtf8 name → has_replacement name ≡ has replacement (lossy_characters name)
same_by_bytes name utf8 = by (has replacement (lossy_characters name)) refl
  where
    by : (b : Bool) → has replacement (lossy_characters name) ≡ b → has_replacement name ≡ has replacement (lossy_characters name)
    by true is = subst (λ (l : List ℕ). has_replacement l ≡ true) utf8.1.1
        (has_bytes utf8.0 (subst (λ (l : List ℕ). has replacement l ≡ true) (characters_of name utf8) is)) ∙ sym is
    by false is = subst (λ (l : List ℕ). has_replacement l ≡ false) utf8.1.1
        (no_bytes utf8.0 (subst (λ (l : List ℕ). has replacement l ≡ false) (characters_of name utf8) is)) ∙ sym is

-- ---- one option

same_one : (name : Name) → IsText name → byte_fault name ≡ name_fault name
same_one (short c) text = refl
same_one (long name) text = ap (λ (b : Bool). cond (is_empty name) (Some empty_name) (cond (has equals name) (Some equals_in_name)
    (cond b (Some replacement_in_name) (cond (list_any is_blank_or_control name) (Some blank_or_control_in_name) None)))) (same_by_bytes name text)

same_names : (names : List Name) → ((name : Name) → is_one_of names name ≡ true → IsText name) → names_fault byte_fault names ≡ names_fault name_fault names
same_names [] text = refl
same_names (n ∷ ns) text =
    ap (λ (x : Option Reason). or_else x (names_fault byte_fault ns)) (same_one n (text n (or_left _ _ (name_refl n))))
    ∙ ap (λ (x : Option Reason). or_else (name_fault n) x) (same_names ns (λ name there. text name (or_right _ _ there)))

later_text : (o : Declared) (os : List Declared) → AreText (o ∷ os) → AreText os
later_text o os text = λ name there. text name (or_right _ _ there)

-- ---- options in another order

-- the same options, in any order
abbrev Same : List Declared → List Declared → Type 0
Same others before = (f : Declared → Bool) → list_any f others ≡ list_any f before

one_more : (others before : List Declared) (o : Declared) → Same others before → Same (o ∷ others) (before ++ o ∷ [])
one_more others before o same = λ f. ap (λ b. f o || b) (same f) ∙ or_comm (f o) (list_any f before) ∙ ap (λ b. list_any f before || b) (sym (or-false (f o))) ∙ sym (list_any-append f before (o ∷ []))

same_label : (others before : List Declared) → Same others before → (b : Beside) (name : Option Name) → label_fault others b name ≡ label_fault before b name
same_label others before same nothing name = refl
same_label others before same b None = refl
same_label others before same b (Some name) = ap (λ found. cond found None (Some bad_label)) (same (λ o. is_plain_flag o && has_name name o))

same_fault : (others before : List Declared) (o : Declared) → ((name : Name) → has_name name o ≡ true → IsText name) → Same others before → fault_beside others o ≡ fault before o
same_fault others before o text same =
    rw (same_names (all_names o) text, same_label others before same o.beside (name_beside o.beside o.short_name o.long_name), same (shares_name o)) refl

-- ---- the first fault

-- the first of these reasons, where the first place has this index
abbrev first_of : ℕ → List (Option Reason) → Option (ℕ × Reason)
first_of n [] = None
first_of n (f ∷ fs) = or_later n f (first_of (suc n) fs)

same_first : (n : ℕ) (others before os : List Declared) → AreText os → Same others before → fault_from n others os ≡ first_of n (faults before os)
same_first n others before [] text same = refl
same_first n others before (o ∷ os) text same =
    ap (λ (f : Option Reason). or_later n f (fault_from (suc n) (o ∷ others) os)) (same_fault others before o (λ name there. text name (or_left _ _ there)) same)
    ∙ ap (λ (later : Option (ℕ × Reason)). or_later n (fault before o) later)
    (same_first (suc n) (o ∷ others) (before ++ o ∷ []) os (later_text o os text) (one_more others before o same))

computed : (options : List Declared) → AreText options → first_fault options ≡ first_of 0 (faults [] options)
computed options text = same_first 0 [] [] options text (λ f. refl)

all_none : (n : ℕ) (fs : List (Option Reason)) → first_of n fs ≡ None → list_all is_none fs ≡ true
all_none n [] is = refl
all_none n (None ∷ fs) is = all_none (suc n) fs is
all_none n (Some r ∷ fs) is = absurd (let e : Some (n, r) ≡ None = is in cc)

none_first : (n : ℕ) (fs : List (Option Reason)) → list_all is_none fs ≡ true → first_of n fs ≡ None
none_first n [] is = refl
none_first n (None ∷ fs) is = none_first (suc n) fs is
none_first n (Some r ∷ fs) is = absurd (true≢false (sym is))

-- this is the reason at the place k, and no place before it has one
abbrev IsFirstAt : List (Option Reason) → ℕ → Reason → Type 0
IsFirstAt fs k r = (slice_get fs k ≡ Some (Some r)) × (list_all is_none (take k fs) ≡ true)

found_at : (n : ℕ) (fs : List (Option Reason)) (i : ℕ) (r : Reason) → first_of n fs ≡ Some (i, r) → (k : ℕ) × (i ≡ k + n) × IsFirstAt fs k r
found_at n [] i r is = absurd (let e : None ≡ Some (i, r) = is in cc)
found_at n (None ∷ fs) i r is =
    let later = found_at (suc n) fs i r is in
    (suc later.0, omega (arith, later.1), later.2)
found_at n (Some q ∷ fs) i r is =
    let both = same_Some (n, q) (i, r) is in
    let same : n ≡ i = ap (λ (p : ℕ × Reason). p.0) both in
    (zero, omega (arith, same), (ap (λ (p : ℕ × Reason). Some (Some p.1)) both, refl))

-- ---- both ways

pub declarable_sound : (options : List Declared) → AreText options → first_fault options ≡ None → is_sound options ≡ true
declarable_sound options text none = all_none 0 (faults [] options) (sym (computed options text) ∙ none)

pub sound_declarable : (options : List Declared) → AreText options → is_sound options ≡ true → first_fault options ≡ None
sound_declarable options text sound = computed options text ∙ none_first 0 (faults [] options) sound

pub fault_first : (options : List Declared) (index : ℕ) (reason : Reason) → AreText options → first_fault options ≡ Some (index, reason) → IsFirstFault options index reason
fault_first options index reason text is =
    let found = found_at 0 (faults [] options) index reason (sym (computed options text) ∙ is) in
    let here : index ≡ found.0 = omega (arith, found.1) in
    subst (λ (k : ℕ). IsFirstFault options k reason) (sym here) record { here = found.2.0; before = found.2.1 }

pub ruleset both_ways = (declarable_sound, sound_declarable, fault_first)
