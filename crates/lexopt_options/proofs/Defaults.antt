-- What a legal line means: the defaults of the options that were not read, and what was read.
use Rattle.std.proofs.Common.{◌≡◌, ◌<◌, ◌≤◌, ◌+◌, ◌||◌, ◌++◌, ℕ, zero, suc, Bool, true, false, List, [], ◌∷◌, map, length, take, get_or, cond, Option, Some, None, slice_get, unwrap_or, refl, sym, ap, subst, ◌∙◌, append-nil, arith}
use Rattle.std.specs.Borrow.{Bor}
use Rattle.std.specs.List.{AllZip, list_any}
use Rattle.std.specs.Option.{is_some, option_map, option_to_list}
use Rattle.std.proofs.lemmas.Bool.{false≢true, or_left, or_right}
use Rattle.std.proofs.lemmas.List.{length-map, length-take-le, map-append, nil_from_length, take_all, take_more}
use Rattle.lexopt_line_spec.specs.Table.{flag, one, optional, several}
use Rattle.lexopt_options_spec.specs.Declaration as spec
use Rattle.lexopt_options_spec.specs.Declaration.{has, is_sound}
use Rattle.lexopt_options_spec.specs.Legal as legal
use Rattle.lexopt_options_spec.specs.Legal.{default_beside, defaults_beside, is_required, occurs}
use Rattle.lexopt_options_spec.specs.Places.{ArePlaces}
use Rattle.lexopt_options_spec.proofs.Defaults.{beside, defaults_append, no_default, no_defaults, no_positionals}
use Rattle.lexopt_options_spec.proofs.Sound.{default_fits}
use Rattle.lexopt_declaration.specs.Models.{kind_of, option_view, positional_view}
use Rattle.lexopt_declaration.specs.declared.declaration.Declared.{Declared}
use Rattle.lexopt_declaration.specs.declared.declaration.Kind.{Kind}
use Rattle.lexopt_declaration.specs.declared.declaration.Kind.TheVariants as kind
use Rattle.lexopt_declaration.specs.declared.declaration.Positional.{Positional}
use Rattle.lexopt_options.specs.declared.parsed.Parsed.{Parsed}
use Rattle.lexopt_options.specs.declared.parsed.Parsed.TheVariants as parsed
use Rattle.lexopt_options.specs.Keys.{AreParsedAs, AreReadAs, HasKey, HaveKeys, positional_keys}
use Rattle.lexopt_options.specs.Reading.{AreSeen, is_noted, is_noted_at}
use Rattle.lexopt_options.proofs.Accepted.{view_there}
use Rattle.lexopt_options.proofs.Keys.{has_kind}
use Rattle.lexopt_options.proofs.ReadKeys.{keys_append, keys_count}

-- ---- options whose default the end of a line may need

pub noted_is : (options : List spec.Declared) (i : ℕ) (o : spec.Declared) → slice_get options i ≡ Some o → is_noted_at options i ≡ is_noted o
noted_is options i o at = ap (λ x. unwrap_or (option_map is_noted x) false) at

some_view : (value : Option (Bor (List ℕ))) → is_some (option_map (λ x. x.now) value) ≡ is_some value
some_view None = refl
some_view (Some x) = refl

pub required_noted : (options : List spec.Declared) (i : ℕ) → is_required options i ≡ true → is_noted_at options i ≡ true
required_noted [] i is = absurd (false≢true is)
required_noted (o ∷ os) zero is = or_left o.required _ is
required_noted (o ∷ os) (suc i) is = required_noted os i is

default_noted : (options : List spec.Declared) (i : ℕ) (o : spec.Declared) (value : List ℕ) → slice_get options i ≡ Some o → o.default ≡ Some value → is_noted_at options i ≡ true
default_noted options i o value at is = noted_is options i o at ∙ or_right o.required _ (or_left (is_some o.default) _ (ap is_some is))

-- ---- one option

-- what is added to the defaults for this option
abbrev pub IsAdded : {F V P M S : Type 0} → List (Declared F V M S) → List legal.Parsed → ℕ → Declared F V M S → List (Parsed F V P M S) → List (Parsed F V P M S) → Type 0
IsAdded {F} {V} {P} {M} {S} options l i o before after = (own : List (Parsed F V P M S)) × (after ≡ before ++ own) × AreParsedAs options (default_beside l i (option_view o)) own

nothing_added : {F V P M S : Type 0} (options : List (Declared F V M S)) (l : List legal.Parsed) (i : ℕ) (o : Declared F V M S) (before : List (Parsed F V P M S)) → default_beside l i (option_view o) ≡ [] → IsAdded options l i o before before
nothing_added {P = P} options l i o before none = ([], sym (append-nil before), subst (λ m. AreParsedAs {P = P} options m []) (sym none) tt)

pub added_none : {F V P M S : Type 0} (options : List (Declared F V M S)) (l : List legal.Parsed) (i : ℕ) (o : Declared F V M S) (before : List (Parsed F V P M S)) → o.default ≡ None → IsAdded options l i o before before
added_none options l i o before none = nothing_added options l i o before (no_default l i (option_view o) (ap (option_map (λ x. x.now)) none))

module _ {F V M S : Type 0} (options : List (Declared F V M S)) (l : List legal.Parsed) (i : ℕ) (o : Declared F V M S) (value : Bor (List ℕ)) (seen : List ℕ) (sound : is_sound (map option_view options) ≡ true)
    (at : slice_get options i ≡ Some o) (default : o.default ≡ Some value) (are : AreSeen (map option_view options) l seen) where
  view_default : (option_view o).default ≡ Some value.now
  view_default = ap (option_map (λ x. x.now)) default

  -- the option is in the list exactly if its index was noted
  seen_so : has i seen ≡ occurs i l
  seen_so = are i (default_noted (map option_view options) i (option_view o) value.now (view_there options i o at) view_default)

  pub added_seen : {P : Type 0} (before : List (Parsed F V P M S)) → has i seen ≡ true → IsAdded options l i o before before
  added_seen before is = nothing_added options l i o before (ap (λ (b : Bool). cond b [] (map (λ (v : List ℕ). legal.option i (Some v)) (option_to_list (option_view o).default))) (sym seen_so ∙ is))

  pub added_value : {P : Type 0} (before after : List (Parsed F V P M S)) (key : V) (placeholder : _) (word : List ℕ) → has i seen ≡ false → o.kind ≡ kind.Value key placeholder → word ≡ value.now → after ≡ before ++ parsed.Value key word ∷ []
      → IsAdded options l i o before after
  added_value {P = P} before after key placeholder word is k_is word_is added =
      let one_is : default_beside l i (option_view o) ≡ legal.option i (Some value.now) ∷ [] = ap (beside l i) view_default
      ∙ ap (λ (b : Bool). cond b [] (legal.option i (Some value.now) ∷ [])) (sym seen_so ∙ is) in (
        parsed.Value key word ∷ [],
        added,
        subst (λ m. AreParsedAs {P = P} options m (parsed.Value key word ∷ [])) (sym one_is)
            ((i, placeholder, ap (λ w. legal.option i (Some w)) (sym word_is), has_kind options i o (kind.Value key placeholder) at k_is), tt),
      )

  -- an option with a default has one value
  pub one_value : (key : V) × (placeholder : _) × (o.kind ≡ kind.Value key placeholder)
  one_value = by o.kind ((default_fits (map option_view options) i (option_view o) value.now sound (view_there options i o at) view_default).0)
    where
      by : (k : Kind F V M S) → kind_of k ≡ one → (key : V) × (placeholder : _) × (k ≡ kind.Value key placeholder)
      by (kind.Value key placeholder) is = (key, placeholder, refl)
      by (kind.Flag key) is = absurd (let e : flag ≡ one = is in cc)
      by (kind.Maybe key placeholder) is = absurd (let e : optional ≡ one = is in cc)
      by (kind.Values key placeholder) is = absurd (let e : several ≡ one = is in cc)
      by kind.Help is = absurd (let e : flag ≡ one = is in cc)
      by kind.BriefHelp is = absurd (let e : flag ≡ one = is in cc)
      by (kind.Version text) is = absurd (let e : flag ≡ one = is in cc)

-- ---- all options

parsed_append : {F V P M S : Type 0} (options : List (Declared F V M S)) (l m : List legal.Parsed) (xs ys : List (Parsed F V P M S)) → AreParsedAs options l xs → AreParsedAs options m ys → AreParsedAs options (l ++ m) (xs ++ ys)
parsed_append options [] m [] ys are more = more
parsed_append options [] m (x ∷ xs) ys are more = absurd are
parsed_append options (s ∷ l) m [] ys are more = absurd are
parsed_append options (s ∷ l) m (x ∷ xs) ys are more = (are.0, parsed_append options l m xs ys are.1 more)

taken_more : {F V M S : Type 0} (options : List (Declared F V M S)) (l : List legal.Parsed) (i : ℕ) (o : Declared F V M S) → i < length options → o ≡ get_or options i o
    → defaults_beside l 0 (map option_view (take (i + 1) options)) ≡ defaults_beside l 0 (map option_view (take i options)) ++ default_beside l i (option_view o)
taken_more options l i o within is =
    let before = map option_view (take i options) in
    let many : 0 + length before ≡ i = omega (arith, length-map (take i options) option_view, length-take-le i options (let e : i ≤ length options = omega (arith, within) in e)) in
    ap (λ os. defaults_beside l 0 (map option_view os)) (take_more options i o within ∙ ap (λ x. take i options ++ x ∷ []) (sym is))
    ∙ ap (defaults_beside l 0) (map-append option_view (take i options) (o ∷ []))
    ∙ defaults_append l 0 before (option_view o) ∙ ap (λ k. defaults_beside l 0 before ++ default_beside l k (option_view o)) many

-- the defaults of the options before this one are added
abbrev pub AreAdded : {F V P M S : Type 0} → List (Declared F V M S) → List legal.Parsed → ℕ → List (Parsed F V P M S) → Type 0
AreAdded options l i defaults = AreParsedAs options (defaults_beside l 0 (map option_view (take i options))) defaults

pub added_more : {F V P M S : Type 0} (options : List (Declared F V M S)) (l : List legal.Parsed) (i : ℕ) (o : Declared F V M S) (before after : List (Parsed F V P M S)) → i < length options → o ≡ get_or options i o
    → AreAdded options l i before → IsAdded options l i o before after → AreAdded options l (i + 1) after
added_more options l i o before after within is are (own, after_is, own_are) =
    subst (AreAdded options l (i + 1)) (sym after_is)
    (subst (λ m. AreParsedAs options m (before ++ own)) (sym (taken_more options l i o within is)) (parsed_append options (defaults_beside l 0 (map option_view (take i options))) (default_beside l i (option_view o)) before own are own_are))

pub all_added : {F V P M S : Type 0} (options : List (Declared F V M S)) (l : List legal.Parsed) (i : ℕ) (defaults : List (Parsed F V P M S)) → length options ≤ i → AreAdded options l i defaults
    → AreParsedAs options (defaults_beside l 0 (map option_view options)) defaults
all_added options l i defaults all are = subst (λ os. AreParsedAs options (defaults_beside l 0 (map option_view os)) defaults) (take_all i options all) are

-- ---- the whole list

pub after_all : {F V P M S : Type 0} (options : List (Declared F V M S)) (l : List legal.Parsed) (defaults own all : List (Parsed F V P M S)) → AreParsedAs options (defaults_beside l 0 (map option_view options)) defaults → AreParsedAs options l own
    → all ≡ defaults ++ own → AreReadAs options l all × (positional_keys all ≡ positional_keys own)
after_all {F} {V} {P} {M} {S} options l defaults own all are own_are is =
    let before = defaults_beside l 0 (map option_view options) in
    let none = nil_from_length (positional_keys defaults) (keys_count options before defaults are ∙ no_positionals l 0 (map option_view options)) in (
      subst (AreParsedAs options (before ++ l)) (sym is) (parsed_append options before l defaults own are own_are),
      ap positional_keys is ∙ keys_append defaults own ∙ ap (λ (ks : List P). ks ++ positional_keys own) none,
    )

any_view : {F V M S : Type 0} (options : List (Declared F V M S)) → list_any (λ o. is_some o.default) (map option_view options) ≡ list_any (λ o. is_some o.default) options
any_view [] = refl
any_view (o ∷ os) = ap (λ b. b || list_any (λ p. is_some p.default) (map option_view os)) (some_view o.default) ∙ ap (λ b. is_some o.default || b) (any_view os)

pub as_read : {F V P M S : Type 0} (options : List (Declared F V M S)) (l : List legal.Parsed) (own : List (Parsed F V P M S)) → list_any (λ o. is_some o.default) options ≡ false → AreParsedAs options l own → AreReadAs options l own
as_read options l own none are = subst (λ m. AreParsedAs options m own) (sym (no_defaults (map option_view options) l (any_view options ∙ none))) are

pub keys_same : {F V P M S : Type 0} (positionals : List (Positional P)) (all own : List (Parsed F V P M S)) → positional_keys all ≡ positional_keys own → HaveKeys positionals own → HaveKeys positionals all
keys_same positionals all own same have = record {
  places = have.places;
  are_places = subst (λ ks. ArePlaces (map positional_view positionals) (length ks) have.places) (sym same) have.are_places;
  have = subst (AllZip (HasKey positionals) have.places) (sym same) have.have;
}
