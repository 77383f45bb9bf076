-- What is read of each option of a list, with defaults.
use Rattle.std.proofs.Common.{◌≡◌, ◌<◌, ◌+◌, ◌==◌, ◌++◌, ℕ, zero, suc, Bool, true, false, List, [], ◌∷◌, map, filter, cond, Option, Some, None, slice_get, refl, ap, ◌∙◌, append-nil, append_assoc, arith}
use Rattle.std.specs.Option.{option_to_list}
use Rattle.std.proofs.lemmas.Bool.{eq-eqb, ne_eqb, or_parts}
use Rattle.std.proofs.lemmas.List.Elements.{filter-append}
use Rattle.std.proofs.lemmas.Option.{same_Some}
use Rattle.lexopt_options_spec.specs.Declaration.{Declared}
use Rattle.lexopt_options_spec.specs.Legal.{Parsed, default_beside, defaults_beside, is_option, occurs, option, positional_words, with_defaults}
use Rattle.lexopt_options_spec.proofs.Defaults.{beside, no_default, none_beside}

none_found : (i : ℕ) (l : List Parsed) → occurs i l ≡ false → filter (is_option i) l ≡ []
none_found i [] none = refl
none_found i (s ∷ l) none =
    let parts = or_parts (is_option i s) (occurs i l) none in
    ap (λ b. cond b (s ∷ filter (is_option i) l) (filter (is_option i) l)) parts.0 ∙ none_found i l parts.1

-- ---- the default of one option

own : (l : List Parsed) (i n : ℕ) (default : Option (List ℕ)) → (n == i) ≡ true → filter (is_option i) (beside l n default) ≡ beside l n default
own l i n None is = elim (occurs n l) as (λ (b : Bool). filter (is_option i) (cond b [] []) ≡ cond b [] []) [ true ↦ refl | false ↦ refl ]
own l i n (Some value) is = elim (occurs n l) as (λ (b : Bool). filter (is_option i) (cond b [] (option n (Some value) ∷ [])) ≡ cond b [] (option n (Some value) ∷ [])) [
  | true ↦ refl
  | false ↦ ap (λ (b : Bool). cond b (option n (Some value) ∷ []) []) is
]

other : (l : List Parsed) (i n : ℕ) (default : Option (List ℕ)) → (n == i) ≡ false → filter (is_option i) (beside l n default) ≡ []
other l i n None is = ap (filter (is_option i)) (none_beside l n)
other l i n (Some value) is = elim (occurs n l) as (λ (b : Bool). filter (is_option i) (cond b [] (option n (Some value) ∷ [])) ≡ []) [
  | true ↦ refl
  | false ↦ ap (λ (b : Bool). cond b (option n (Some value) ∷ []) []) is
]

-- ---- the defaults of all options

other_first : (l : List Parsed) (i n : ℕ) (o : Declared) (os : List Declared) → (n == i) ≡ false → filter (is_option i) (defaults_beside l n (o ∷ os)) ≡ filter (is_option i) (defaults_beside l (suc n) os)
other_first l i n o os is =
    filter-append (is_option i) (default_beside l n o) (defaults_beside l (suc n) os)
    ∙ ap (λ m. m ++ filter (is_option i) (defaults_beside l (suc n) os)) (other l i n o.default is)

before : (l : List Parsed) (i n : ℕ) (os : List Declared) → i < n → filter (is_option i) (defaults_beside l n os) ≡ []
before l i n [] below = refl
before l i n (o ∷ os) below =
    let later : i < suc n = omega (arith, below) in
    other_first l i n o os (ne_eqb n i (λ is. absurd (omega (arith, is, below)))) ∙ before l i (suc n) os later

there : (l : List Parsed) (i n k : ℕ) (os : List Declared) (o : Declared) → i ≡ n + k → slice_get os k ≡ Some o → filter (is_option i) (defaults_beside l n os) ≡ default_beside l i o
there l i n zero [] o place is = absurd (let e : None ≡ Some o = is in cc)
there l i n (suc k) [] o place is = absurd (let e : None ≡ Some o = is in cc)
there l i n zero (p ∷ os) o place is =
    let same : n ≡ i = omega (arith, place) in
    let past : i < suc n = omega (arith, same) in
    filter-append (is_option i) (default_beside l n p) (defaults_beside l (suc n) os)
    ∙ ap (λ m. m ++ filter (is_option i) (defaults_beside l (suc n) os)) (own l i n p.default (eq-eqb n i same))
    ∙ ap (λ m. default_beside l n p ++ m) (before l i (suc n) os past) ∙ append-nil (default_beside l n p)
    ∙ ap (λ q. default_beside l n q) (same_Some p o is) ∙ ap (λ j. default_beside l j o) same
there l i n (suc k) (p ∷ os) o place is =
    let later : i ≡ suc n + k = omega (arith, place) in
    other_first l i n p os (ne_eqb n i (λ same. absurd (omega (arith, same, place)))) ∙ there l i (suc n) k os o later is

nowhere : (l : List Parsed) (i n k : ℕ) (os : List Declared) → i ≡ n + k → slice_get os k ≡ None → filter (is_option i) (defaults_beside l n os) ≡ []
nowhere l i n k [] place is = refl
nowhere l i n zero (p ∷ os) place is = absurd (let e : Some p ≡ None = is in cc)
nowhere l i n (suc k) (p ∷ os) place is =
    let later : i ≡ suc n + k = omega (arith, place) in
    other_first l i n p os (ne_eqb n i (λ same. absurd (omega (arith, same, place)))) ∙ nowhere l i (suc n) k os later is

-- ---- what is read

read_of : (options : List Declared) (l : List Parsed) (i : ℕ) (o : Declared) → slice_get options i ≡ Some o → filter (is_option i) (with_defaults options l) ≡ default_beside l i o ++ filter (is_option i) l
read_of options l i o is =
    let place : i ≡ 0 + i = omega arith in
    filter-append (is_option i) (defaults_beside l 0 options) l ∙ ap (λ m. m ++ filter (is_option i) l) (there l i 0 i options o place is)

pub given : (options : List Declared) (l : List Parsed) (i : ℕ) → occurs i l ≡ true → filter (is_option i) (with_defaults options l) ≡ filter (is_option i) l
given options l i occurs_there = by (slice_get options i) refl
  where
    by : (found : Option Declared) → slice_get options i ≡ found → filter (is_option i) (with_defaults options l) ≡ filter (is_option i) l
    by None is =
        let place : i ≡ 0 + i = omega arith in
        filter-append (is_option i) (defaults_beside l 0 options) l ∙ ap (λ m. m ++ filter (is_option i) l) (nowhere l i 0 i options place is)
    by (Some o) is =
        read_of options l i o is
        ∙ ap (λ (b : Bool). cond b [] (map (λ (value : List ℕ). option i (Some value)) (option_to_list o.default)) ++ filter (is_option i) l) occurs_there

pub by_default : (options : List Declared) (l : List Parsed) (i : ℕ) (o : Declared) (value : List ℕ) → slice_get options i ≡ Some o → o.default ≡ Some value → occurs i l ≡ false
    → filter (is_option i) (with_defaults options l) ≡ option i (Some value) ∷ []
by_default options l i o value is default_is none =
    read_of options l i o is ∙ ap (λ m. default_beside l i o ++ m) (none_found i l none) ∙ append-nil (default_beside l i o)
    ∙ ap (beside l i) default_is ∙ ap (λ (b : Bool). cond b [] (option i (Some value) ∷ [])) none

pub without_default : (options : List Declared) (l : List Parsed) (i : ℕ) (o : Declared) → slice_get options i ≡ Some o → o.default ≡ None → filter (is_option i) (with_defaults options l) ≡ filter (is_option i) l
without_default options l i o is none = read_of options l i o is ∙ ap (λ m. m ++ filter (is_option i) l) (no_default l i o none)

no_word : (l m : List Parsed) (n : ℕ) (default : Option (List ℕ)) → positional_words (beside l n default ++ m) ≡ positional_words m
no_word l m n None = ap (λ x. positional_words (x ++ m)) (none_beside l n)
no_word l m n (Some value) = elim (occurs n l) as (λ (b : Bool). positional_words (cond b [] (option n (Some value) ∷ []) ++ m) ≡ positional_words m) [ true ↦ refl | false ↦ refl ]

no_words : (l m : List Parsed) (n : ℕ) (os : List Declared) → positional_words (defaults_beside l n os ++ m) ≡ positional_words m
no_words l m n [] = refl
no_words l m n (o ∷ os) =
    ap positional_words (append_assoc (default_beside l n o) (defaults_beside l (suc n) os) m)
    ∙ no_word l (defaults_beside l (suc n) os ++ m) n o.default ∙ no_words l m (suc n) os

pub same_words : (options : List Declared) (l : List Parsed) → positional_words (with_defaults options l) ≡ positional_words l
same_words options l = no_words l l 0 options
