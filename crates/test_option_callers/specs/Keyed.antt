-- The option to which a key, a role or the names in an error belong, by plain data.
use Rattle.std.specs.Prelude.{◌≡◌, ◌≢◌, ℕ, Bool, true, false, List, Option, Some, None, option_map}
use Rattle.std.specs.Prelude.{option_and_then, position, slice_get, Result, Ok, Err, IsUtf8}
use Rattle.std.specs.List.{AllZip}
use Rattle.anyhow.specs.declared.error.Error.{Error as Cause}
use Rattle.lexopt_words.specs.Conversions.{IsNotUnicode, IsParsed}
use Rattle.lexopt_words.specs.declared.error.Error.{Error}
use Rattle.lexopt_words.specs.declared.error.Error.TheVariants.{OutOfMemory}
use Rattle.lexopt_options_spec.specs.Legal as legal
use Rattle.lexopt_declaration.specs.declared.declaration.Declared.{Declared}
use Rattle.lexopt_declaration.specs.declared.declaration.Kind.{Kind}
use Rattle.lexopt_declaration.specs.declared.declaration.Kind.TheVariants as kind
use Rattle.lexopt_declaration.specs.declared.declaration.Names.{Names}
use Rattle.lexopt_options.specs.declared.complete.Joined.{Joined}
use Rattle.lexopt_options.specs.declared.complete.Role.{Role}
use Rattle.lexopt_options.specs.declared.complete.Role.TheVariants as role
use Rattle.lexopt_options.specs.declared.refused.Line.{Line}
use Rattle.lexopt_options.specs.declared.refused.Line.TheVariants as line
use Rattle.lexopt_options.specs.declared.parsed.Parsed.{Parsed}
use Rattle.lexopt_options.specs.declared.parsed.Parsed.TheVariants as parsed
use Rattle.lexopt_options.specs.declared.usage.UsageError.{UsageError}
use Rattle.lexopt_options.specs.declared.usage.UsageError.TheVariants as usage

-- ---- the first option of a kind

abbrev pub asks_for_help : {F V M S : Type 0} → Kind F V M S → Bool
asks_for_help (kind.Flag key) = false
asks_for_help (kind.Value key placeholder) = false
asks_for_help (kind.Maybe key placeholder) = false
asks_for_help (kind.Values key placeholder) = false
asks_for_help kind.Help = true
asks_for_help kind.BriefHelp = false
asks_for_help (kind.Version text) = false

abbrev pub has_value : {F V M S : Type 0} → (V → V → Bool) → V → Kind F V M S → Bool
has_value eq key (kind.Flag own) = false
has_value eq key (kind.Value own placeholder) = eq own key
has_value eq key (kind.Maybe own placeholder) = false
has_value eq key (kind.Values own placeholder) = false
has_value eq key kind.Help = false
has_value eq key kind.BriefHelp = false
has_value eq key (kind.Version text) = false

abbrev pub has_maybe : {F V M S : Type 0} → (M → M → Bool) → M → Kind F V M S → Bool
has_maybe eq key (kind.Flag own) = false
has_maybe eq key (kind.Value own placeholder) = false
has_maybe eq key (kind.Maybe own placeholder) = eq own key
has_maybe eq key (kind.Values own placeholder) = false
has_maybe eq key kind.Help = false
has_maybe eq key kind.BriefHelp = false
has_maybe eq key (kind.Version text) = false

abbrev pub has_values : {F V M S : Type 0} → (S → S → Bool) → S → Kind F V M S → Bool
has_values eq key (kind.Flag own) = false
has_values eq key (kind.Value own placeholder) = false
has_values eq key (kind.Maybe own placeholder) = false
has_values eq key (kind.Values own placeholder) = eq own key
has_values eq key kind.Help = false
has_values eq key kind.BriefHelp = false
has_values eq key (kind.Version text) = false

-- the names of the first option whose kind passes the test
abbrev pub first_names : {F V M S : Type 0} → (Kind F V M S → Bool) → List (Declared F V M S)
    → Option Names
first_names test options = option_and_then (λ i. option_map (λ o. o.names) (slice_get options i))
    (position (λ o. test o.kind) options)

-- ---- keys

-- the option of this index has this kind, with its key
abbrev pub KindIs : {F V M S : Type 0} → List (Declared F V M S) → ℕ → Kind F V M S → Type 0
KindIs options i k = option_map (λ o. o.kind) (slice_get options i) ≡ Some k

-- an option with a key is the option of some index, which was declared with that key
abbrev pub HasKey : {F V P M S : Type 0} → List (Declared F V M S) → legal.Parsed → Parsed F V P M S
    → Type 0
HasKey options s (parsed.Flag key) =
    (i : ℕ) × (s ≡ legal.option i None) × KindIs options i (kind.Flag key)
HasKey options s (parsed.Value key word) = (i : ℕ) × (placeholder : _)
    × (s ≡ legal.option i (Some word)) × KindIs options i (kind.Value key placeholder)
HasKey options s (parsed.Maybe key value) = (i : ℕ) × (placeholder : _)
    × (s ≡ legal.option i value) × KindIs options i (kind.Maybe key placeholder)
HasKey options s (parsed.Values key values) = (i : ℕ) × (placeholder : _)
    × (s ≡ legal.several i values.items) × KindIs options i (kind.Values key placeholder)
HasKey options s (parsed.Positional key word) = s ≡ legal.positional word

-- Each option of the line has its key, also before a mistake. A refusal has the names of the first
-- option that asks for the help.
abbrev pub HaveKeys : {F V P M S : Type 0} → List (Declared F V M S) → Line F V P M S → Type 0
HaveKeys options (line.Parsed own) = (l : List legal.Parsed) × AllZip (HasKey options) l own.items
HaveKeys options (line.Asked asked) = Unit {0}
HaveKeys options (line.Refused r) = (l : List legal.Parsed)
    × AllZip (HasKey options) l r.before.items × (r.help ≡ first_names asks_for_help options)

-- ---- completion of a typed word

-- the option of a joined value, if there is one, is one of the options
abbrev pub IsKnown : {F V M S : Type 0} → List (Declared F V M S) → Option (Joined F V M S) → Type 0
IsKnown options None = Unit {0}
IsKnown options (Some joined) = (i : ℕ) × (slice_get options i ≡ Some joined.option.now)

abbrev pub IsKnownRole : {F V M S : Type 0} → List (Declared F V M S) → Option (Role F V M S)
    → Type 0
IsKnownRole options None = Unit {0}
IsKnownRole options (Some (role.Value option)) = (i : ℕ) × (slice_get options i ≡ Some option.now)
IsKnownRole options (Some role.Argument) = Unit {0}

-- ---- a value that is converted

abbrev pub Converts : {T E : Type 0} → (List ℕ → Result T E → Type 0) → (E → Cause → Type 0)
    → List ℕ → Result T Error → Type 0
Converts gives converts word answer = (IsUtf8 word → (read : Result _ _) × gives word read
    × IsParsed converts word read answer) × ((IsUtf8 word → ⊥) → IsNotUnicode word answer)

-- the value; or the error with these names; or that memory ran out
abbrev pub IsConverted : {T E : Type 0} → Option Names → (List ℕ → Result T E → Type 0)
    → (E → Cause → Type 0) → List ℕ → Result T UsageError → Type 0
IsConverted names gives converts word (Ok value) = Converts gives converts word (Ok value)
IsConverted names gives converts word (Err (usage.Invalid option error)) = (option ≡ names)
    × (error ≢ OutOfMemory) × Converts gives converts word (Err error)
IsConverted names gives converts word (Err (usage.Text text)) = ⊥
IsConverted names gives converts word (Err (usage.Formatted text)) = ⊥
IsConverted names gives converts word (Err usage.OutOfMemory) =
    Converts gives converts word (Err OutOfMemory)
