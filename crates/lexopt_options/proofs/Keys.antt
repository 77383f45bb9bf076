-- What is read, by keys.
use Rattle.lexopt_options.proofs.Common.{◌≡◌, ◌<◌, ℕ, List, [], ◌∷◌, ◌++◌, map, length, Option, Some, None, Vec, slice_get, refl, ap, ◌∙◌, arith, length-map, position-Some, slice_get-map, Name}
use Rattle.lexopt_options.proofs.Common.{has_name, index_of, Declared, options_of, Options}
use Rattle.std.specs.Option.{option_map}
use Rattle.std.specs.Prelude.{option_and_then}
use Rattle.lexopt_options_spec.specs.Declaration as spec
use Rattle.lexopt_options_spec.specs.Asking.{all_but_last, asked_at, asked_by, first_asked, or_asked}
use Rattle.lexopt_options_spec.specs.Legal as legal
use Rattle.lexopt_declaration.specs.Models.{asked_of, kind_of, option_view}
use Rattle.lexopt_declaration.specs.declared.declaration.Kind.{Kind}
use Rattle.lexopt_declaration.specs.declared.declaration.Kind.TheVariants as kind
use Rattle.lexopt_options.specs.declared.parsed.Asked.TheVariants as asked
use Rattle.lexopt_options.specs.declared.parsed.Parsed.{Parsed}
use Rattle.lexopt_options.specs.declared.parsed.Parsed.TheVariants as parsed
use Rattle.lexopt_options.specs.declared.parsed.ByKey.TheVariants as told
use Rattle.lexopt_options.specs.Keys.{AreParsedAs, HasKind, IsParsedAs, IsByKey}

-- ---- the option at an index

pub has_kind : {F V M S : Type 0} (options : List (Declared F V M S)) (i : ℕ) (o : Declared F V M S) (k : Kind F V M S) → slice_get options i ≡ Some o → o.kind ≡ k → HasKind options i k
has_kind options i o k at k_is = ap (option_map (λ p. p.kind)) at ∙ ap (λ x. Some x) k_is

kinds_are : {F V M S : Type 0} (o : Option (Declared F V M S)) (k : Kind F V M S) → option_map (λ p. p.kind) o ≡ Some k
    → (option_map (λ p. p.kind) (option_map option_view o) ≡ Some (kind_of k)) × (option_and_then (λ p. p.asks) (option_map option_view o) ≡ asked_of k)
kinds_are None k is = absurd (let e : None ≡ Some k = is in cc)
kinds_are (Some o) k is = let e : o.kind ≡ k = cc in (ap (λ x. Some (kind_of x)) e, ap asked_of e)

asked_is : {F V M S : Type 0} (options : List (Declared F V M S)) (i : ℕ) (k : Kind F V M S) → HasKind options i k → asked_at (map option_view options) i ≡ asked_of k
asked_is options i k has = ap (option_and_then (λ p. p.asks)) (slice_get-map option_view options i) ∙ (kinds_are (slice_get options i) k has).1

-- an option that was found is among the options
pub found_within : {F V M S : Type 0} (options : List (Declared F V M S)) (name : Name) (i : ℕ) → index_of (map option_view options) name ≡ Some i → i < length options
found_within [] name i found = absurd (let e : None ≡ Some i = found in cc)
found_within (o ∷ os) name i found =
    omega (arith, (position-Some (has_name name) (map option_view (o ∷ os)) i (option_view o) found).0, length-map (o ∷ os) option_view)

-- ---- what one thing means

pub tells_flag : {F V P M S : Type 0} (own : Options F V P M S) (i : ℕ) (o : Declared F V M S) (key : F) → slice_get (options_of own) i ≡ Some o → o.kind ≡ kind.Flag key
    → IsByKey {P = P} (options_of own) (legal.option i None) (told.Parsed (parsed.Flag key))
tells_flag own i o key at is = let has = has_kind (options_of own) i o (kind.Flag key) at is in (asked_is (options_of own) i (kind.Flag key) has, (i, refl, has))

pub tells_value : {F V P M S : Type 0} (own : Options F V P M S) (i : ℕ) (o : Declared F V M S) (key : V) (p : _) (word : _) → slice_get (options_of own) i ≡ Some o → o.kind ≡ kind.Value key p
    → IsByKey {P = P} (options_of own) (legal.option i (Some word)) (told.Parsed (parsed.Value key word))
tells_value own i o key p word at is = let has = has_kind (options_of own) i o (kind.Value key p) at is in (asked_is (options_of own) i (kind.Value key p) has, (i, p, refl, has))

pub tells_maybe : {F V P M S : Type 0} (own : Options F V P M S) (i : ℕ) (o : Declared F V M S) (key : M) (p : _) (value : _) → slice_get (options_of own) i ≡ Some o → o.kind ≡ kind.Maybe key p
    → IsByKey {P = P} (options_of own) (legal.option i value) (told.Parsed (parsed.Maybe key value))
tells_maybe own i o key p value at is = let has = has_kind (options_of own) i o (kind.Maybe key p) at is in (asked_is (options_of own) i (kind.Maybe key p) has, (i, p, refl, has))

pub tells_values : {F V P M S : Type 0} (own : Options F V P M S) (i : ℕ) (o : Declared F V M S) (key : S) (p : _) (words : Vec _ _) → slice_get (options_of own) i ≡ Some o → o.kind ≡ kind.Values key p
    → IsByKey {P = P} (options_of own) (legal.several i words.items) (told.Parsed (parsed.Values key words))
tells_values own i o key p words at is = let has = has_kind (options_of own) i o (kind.Values key p) at is in (asked_is (options_of own) i (kind.Values key p) has, (i, p, refl, has))

pub tells_help : {F V P M S : Type 0} (own : Options F V P M S) (i : ℕ) (o : Declared F V M S) → slice_get (options_of own) i ≡ Some o → o.kind ≡ kind.Help
    → IsByKey {P = P} (options_of own) (legal.option i None) (told.Asked asked.Help)
tells_help own i o at is = asked_is (options_of own) i kind.Help (has_kind (options_of own) i o kind.Help at is)

pub tells_brief_help : {F V P M S : Type 0} (own : Options F V P M S) (i : ℕ) (o : Declared F V M S) → slice_get (options_of own) i ≡ Some o → o.kind ≡ kind.BriefHelp
    → IsByKey {P = P} (options_of own) (legal.option i None) (told.Asked asked.BriefHelp)
tells_brief_help own i o at is = asked_is (options_of own) i kind.BriefHelp (has_kind (options_of own) i o kind.BriefHelp at is)

pub tells_version : {F V P M S : Type 0} (own : Options F V P M S) (i : ℕ) (o : Declared F V M S) (text : _) → slice_get (options_of own) i ≡ Some o → o.kind ≡ kind.Version text
    → IsByKey {P = P} (options_of own) (legal.option i None) (told.Asked (asked.Version text))
tells_version own i o text at is = asked_is (options_of own) i (kind.Version text) (has_kind (options_of own) i o (kind.Version text) at is)

-- ---- what a list means

none_both : (a b : Option spec.Asked) → or_asked a b ≡ None → (a ≡ None) × (b ≡ None)
none_both None b is = (refl, is)
none_both (Some a) b is = absurd (let e : Some a ≡ None = is in cc)

pub asked_none : (options : List spec.Declared) (l m : List legal.Parsed) → first_asked options l ≡ None → first_asked options (l ++ m) ≡ first_asked options m
asked_none options [] m none = refl
asked_none options (s ∷ l) m none =
    let both = none_both (asked_by options s) (first_asked options l) none in
    ap (λ a. or_asked a (first_asked options (l ++ m))) both.0 ∙ asked_none options l m both.1

pub asked_here : (options : List spec.Declared) (l m : List legal.Parsed) (s : legal.Parsed) (a : spec.Asked) → first_asked options l ≡ None → asked_by options s ≡ Some a
    → first_asked options (l ++ s ∷ m) ≡ Some a
asked_here options l m s a none is = asked_none options l (s ∷ m) none ∙ ap (λ x. or_asked x (first_asked options m)) is

pub asked_more : (options : List spec.Declared) (l : List legal.Parsed) (s : legal.Parsed) → first_asked options l ≡ None → asked_by options s ≡ None → first_asked options (l ++ s ∷ []) ≡ None
asked_more options l s none is = asked_none options l (s ∷ []) none ∙ ap (λ x. or_asked x None) is

pub parsed_more : {F V P M S : Type 0} (options : List (Declared F V M S)) (l : List legal.Parsed) (parsed : List (Parsed F V P M S)) (s : legal.Parsed) (own : Parsed F V P M S) → AreParsedAs options l parsed → IsParsedAs options s own
    → AreParsedAs options (l ++ s ∷ []) (parsed ++ own ∷ [])
parsed_more options [] [] s own are is = (is, tt)
parsed_more options (x ∷ l) (y ∷ parsed) s own are is = (are.0, parsed_more options l parsed s own are.1 is)
parsed_more options l parsed s own are is = absurd are

-- if nothing asks for anything, nothing before the last does
pub none_before : (options : List spec.Declared) (l : List legal.Parsed) → first_asked options l ≡ None → first_asked options (all_but_last l) ≡ None
none_before options (s ∷ t ∷ l) none =
    let both = none_both (asked_by options s) (first_asked options (t ∷ l)) none in
    ap (λ a. or_asked a (first_asked options (all_but_last (t ∷ l)))) both.0 ∙ none_before options (t ∷ l) both.1
none_before options l none = refl

pub parsed_length : {F V P M S : Type 0} (options : List (Declared F V M S)) (l : List legal.Parsed) (xs : List (Parsed F V P M S)) → AreParsedAs options l xs → length l ≡ length xs
parsed_length options [] [] are = refl
parsed_length options (s ∷ l) (x ∷ xs) are = let rest = parsed_length options l xs are.1 in omega (arith, rest)
parsed_length options l xs are = absurd are
