-- The defaults of the options that are not in a list.
use Rattle.lexopt_options_spec.proofs.Common.{list_any, false≢true, or_parts, Declared}
use Rattle.std.proofs.Common.{◌≡◌, ◌+◌, ◌++◌, ℕ, suc, Bool, true, false, List, [], ◌∷◌, map, length, cond, Option, Some, None, refl, sym, ap, ◌∙◌, append-nil, append_assoc, add-zero, arith}
use Rattle.std.specs.Option.{is_some, option_to_list}
use Rattle.lexopt_options_spec.specs.Legal.{Parsed, default_beside, defaults_beside, occurs, option, positional_count, with_defaults}
use Rattle.lexopt_options_spec.proofs.Lists.{count_append}

-- the option at this index with this default, if there is one and the option is not in the list
abbrev pub beside : List Parsed → ℕ → Option (List ℕ) → List Parsed
beside l i default = cond (occurs i l) [] (map (λ (value : List ℕ). option i (Some value)) (option_to_list default))

pub none_beside : (l : List Parsed) (i : ℕ) → beside l i None ≡ []
none_beside l i = elim (occurs i l) as (λ (b : Bool). cond {A = List Parsed} b [] [] ≡ []) [ true ↦ refl | false ↦ refl ]

pub no_default : (l : List Parsed) (i : ℕ) (o : Declared) → o.default ≡ None → default_beside l i o ≡ []
no_default l i o none = ap (beside l i) none ∙ none_beside l i

no_more_defaults : (options : List Declared) (l : List Parsed) (i : ℕ) → list_any (λ o. is_some o.default) options ≡ false → defaults_beside l i options ≡ []
no_more_defaults [] l i none = refl
no_more_defaults (o ∷ os) l i none =
    let parts = or_parts (is_some o.default) (list_any (λ p. is_some p.default) os) none in
    ap (λ m. m ++ defaults_beside l (suc i) os) (no_default l i o (is_none o.default parts.0)) ∙ no_more_defaults os l (suc i) parts.1
  where
    is_none : (value : Option (List ℕ)) → is_some value ≡ false → value ≡ None
    is_none None is = refl
    is_none (Some x) is = absurd (false≢true (sym is))

-- if no option has a default, what is read is the list
pub no_defaults : (options : List Declared) (l : List Parsed) → list_any (λ o. is_some o.default) options ≡ false → with_defaults options l ≡ l
no_defaults options l none = ap (λ m. m ++ l) (no_more_defaults options l 0 none)

pub defaults_append : (l : List Parsed) (n : ℕ) (os : List Declared) (o : Declared) → defaults_beside l n (os ++ o ∷ []) ≡ defaults_beside l n os ++ default_beside l (n + length os) o
defaults_append l n [] o = append-nil (default_beside l n o) ∙ ap (λ k. default_beside l k o) (sym (add-zero n))
defaults_append l n (p ∷ os) o =
    let same : suc n + length os ≡ n + length (p ∷ os) = omega arith in
    ap (λ m. default_beside l n p ++ m) (defaults_append l (suc n) os o)
    ∙ ap (λ k. default_beside l n p ++ (defaults_beside l (suc n) os ++ default_beside l k o)) same
    ∙ sym (append_assoc (default_beside l n p) (defaults_beside l (suc n) os) (default_beside l (n + length (p ∷ os)) o))

no_positional : (l : List Parsed) (i : ℕ) (default : Option (List ℕ)) → positional_count (beside l i default) ≡ 0
no_positional l i None = ap positional_count (none_beside l i)
no_positional l i (Some value) = elim (occurs i l) as (λ (b : Bool). positional_count (cond b [] (option i (Some value) ∷ [])) ≡ 0) [ true ↦ refl | false ↦ refl ]

-- defaults are no positionals
pub no_positionals : (l : List Parsed) (n : ℕ) (os : List Declared) → positional_count (defaults_beside l n os) ≡ 0
no_positionals l n [] = refl
no_positionals l n (o ∷ os) =
    let here = no_positional l n o.default in
    let later = no_positionals l (suc n) os in
    omega (arith, count_append (default_beside l n o) (defaults_beside l (suc n) os), here, later)
