-- What is read from a line, by the keys of a declaration.
use Rattle.std.specs.Prelude.{◌≡◌, ℕ, Bool, true, false, List, [], ◌∷◌, Some, None, length, map, option_map, slice_get}
use Rattle.std.specs.List.{AllZip}
use Rattle.lexopt_options_spec.specs.Declaration as spec
use Rattle.lexopt_options_spec.specs.Declaration.{for_brief_help, for_help, for_version}
use Rattle.lexopt_options_spec.specs.Asking.{asked_by}
use Rattle.lexopt_options_spec.specs.Legal as legal
use Rattle.lexopt_options_spec.specs.Legal.{IsWithin, most, with_defaults}
use Rattle.lexopt_options_spec.specs.Places.{ArePlaces}
use Rattle.lexopt_declaration.specs.Models.{option_view, positional_view}
use Rattle.lexopt_declaration.specs.declared.declaration.Declared.{Declared}
use Rattle.lexopt_declaration.specs.declared.declaration.Kind.{Kind}
use Rattle.lexopt_declaration.specs.declared.declaration.Kind.TheVariants as kind
use Rattle.lexopt_declaration.specs.declared.declaration.Positional.{Positional}
use Rattle.lexopt_options.specs.declared.parsed.Asked.{Asked}
use Rattle.lexopt_options.specs.declared.parsed.Asked.TheVariants as asked
use Rattle.lexopt_options.specs.declared.parsed.Parsed.{Parsed}
use Rattle.lexopt_options.specs.declared.parsed.Parsed.TheVariants as parsed
use Rattle.lexopt_options.specs.declared.parsed.ByKey.{ByKey}
use Rattle.lexopt_options.specs.declared.parsed.ByKey.TheVariants as told

-- the option at this index is of this kind, with its key
abbrev pub HasKind : {F V M S : Type 0} → List (Declared F V M S) → ℕ → Kind F V M S → Type 0
HasKind options i k = option_map (λ o. o.kind) (slice_get options i) ≡ Some k

-- an option that was read by its index is this option by its key; a positional that was read is
-- this word, with any key
abbrev pub IsParsedAs : {F V P M S : Type 0} → List (Declared F V M S) → legal.Parsed → Parsed F V P M S
    → Type 0
IsParsedAs options s (parsed.Flag key) =
    (i : ℕ) × (s ≡ legal.option i None) × HasKind options i (kind.Flag key)
IsParsedAs options s (parsed.Value key word) = (i : ℕ) × (placeholder : _)
    × (s ≡ legal.option i (Some word)) × HasKind options i (kind.Value key placeholder)
IsParsedAs options s (parsed.Maybe key value) = (i : ℕ) × (placeholder : _)
    × (s ≡ legal.option i value) × HasKind options i (kind.Maybe key placeholder)
IsParsedAs options s (parsed.Values key values) = (i : ℕ) × (placeholder : _)
    × (s ≡ legal.several i values.items) × HasKind options i (kind.Values key placeholder)
IsParsedAs options s (parsed.Positional key word) = s ≡ legal.positional word

-- each of these in turn
abbrev pub AreParsedAs : {F V P M S : Type 0} → List (Declared F V M S) → List legal.Parsed
    → List (Parsed F V P M S) → Type 0
AreParsedAs options l parsed = AllZip (IsParsedAs options) l parsed

-- the same for a legal line that means this list: the defaults of the options that are not in it come
-- before it
abbrev pub AreReadAs : {F V P M S : Type 0} → List (Declared F V M S) → List legal.Parsed
    → List (Parsed F V P M S) → Type 0
AreReadAs options l parsed = AreParsedAs options (with_defaults (map option_view options) l) parsed

-- the keys of the positionals, in order
abbrev pub positional_keys : {F V P M S : Type 0} → List (Parsed F V P M S) → List P
positional_keys [] = []
positional_keys (parsed.Positional key word ∷ l) = key ∷ positional_keys l
positional_keys (s ∷ l) = positional_keys l

-- the words of the positionals, in order
abbrev pub parsed_words : {F V P M S : Type 0} → List (Parsed F V P M S) → List (List ℕ)
parsed_words [] = []
parsed_words (parsed.Positional key word ∷ l) = word ∷ parsed_words l
parsed_words (s ∷ l) = parsed_words l

-- the positional at this index has this key
abbrev pub HasKey : {P : Type 0} → List (Positional P) → ℕ → P → Type 0
HasKey positionals i key = option_map (λ p. p.key) (slice_get positionals i) ≡ Some key

-- each positional that was read has the key of the declared one that it belongs to
pub record HaveKeys {F V P M S : Type 0} (positionals : List (Positional P))
    (parsed : List (Parsed F V P M S)) : Type 0 where
  pub places : List ℕ
  pub are_places : ArePlaces (map positional_view positionals) (length (positional_keys parsed)) places
  pub have : AllZip (HasKey positionals) places (positional_keys parsed)

-- each of these is the key of the first positional
abbrev pub AllFirst : {P : Type 0} → List (Positional P) → List P → Type 0
AllFirst positionals [] = Unit {0}
AllFirst positionals (key ∷ keys) = HasKey positionals 0 key × AllFirst positionals keys

-- there are no more positionals than the declaration allows, and each has the key of the first
-- declared one
pub record CanHaveKeys {F V P M S : Type 0} (positionals : List (Positional P))
    (parsed : List (Parsed F V P M S)) : Type 0 where
  pub within : IsWithin (length (positional_keys parsed)) (most (map positional_view positionals))
  pub firsts : AllFirst positionals (positional_keys parsed)

abbrev pub is_positional : {F V P M S : Type 0} → Parsed F V P M S → Bool
is_positional (parsed.Positional key word) = true
is_positional s = false

-- both are the same, except perhaps for the key of a positional
abbrev pub IsSame : {F V P M S : Type 0} → Parsed F V P M S → Parsed F V P M S → Type 0
IsSame (parsed.Positional key word) y = (k : _) × (y ≡ parsed.Positional k word)
IsSame x y = y ≡ x

-- and that key is the key of the declared positional that the word at this index belongs to
abbrev pub IsGiven : {F V P M S : Type 0} → List (Positional P) → List ℕ → ℕ → Parsed F V P M S
    → Parsed F V P M S → Type 0
IsGiven positionals places n (parsed.Positional key word) y = (k : _) × (i : ℕ)
    × (y ≡ parsed.Positional k word) × (slice_get places n ≡ Some i) × HasKey positionals i k
IsGiven positionals places n x y = y ≡ x

abbrev pub asked_view : Asked → spec.Asked
asked_view asked.Help = for_help
asked_view asked.BriefHelp = for_brief_help
asked_view (asked.Version text) = for_version text.now

-- what an option means
abbrev pub IsByKey : {F V P M S : Type 0} → List (Declared F V M S) → legal.Parsed → ByKey F V P M S
    → Type 0
IsByKey options s (told.Parsed own) =
    (asked_by (map option_view options) s ≡ None) × IsParsedAs options s own
IsByKey options s (told.Asked a) = asked_by (map option_view options) s ≡ Some (asked_view a)
