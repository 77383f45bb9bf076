-- What is wrong with a line, as contracts see it.
use Rattle.std.specs.Prelude.{◌≡◌, ℕ, List, Some, map, slice_get, string_bytes}
use Rattle.std.specs.Borrow.{Bor}
use Rattle.lexopt_spec.specs.UnreadLine.{Tail}
use Rattle.lexopt_options_spec.specs.Declaration.{Declaration, Declared, Positional, listed}
use Rattle.lexopt_options_spec.specs.Nearest.{IsHint}
use Rattle.lexopt_options_spec.specs.Stops as stops
use Rattle.lexopt_options_spec.specs.Stops.{placeholder_at, required_placeholder}
use Rattle.lexopt_declaration.specs.Models.{long_name, short_name}
use Rattle.lexopt_declaration.specs.declared.declaration.Names.{Names}
use Rattle.lexopt_options.specs.Names.{name_view}
use Rattle.lexopt_options.specs.declared.mistake.Mistake.{Mistake}
use Rattle.lexopt_options.specs.declared.mistake.Mistake.TheVariants.{UnknownOption}
use Rattle.lexopt_options.specs.declared.mistake.Mistake.TheVariants.{UnexpectedValue, MissingValue}
use Rattle.lexopt_options.specs.declared.mistake.Mistake.TheVariants.{InvalidArgument, InvalidValue}
use Rattle.lexopt_options.specs.declared.mistake.Mistake.TheVariants.{UnexpectedArgument}
use Rattle.lexopt_options.specs.declared.mistake.Mistake.TheVariants.{MissingArgument, MissingOption}
use Rattle.lexopt_options.specs.declared.mistake.Mistake.TheVariants.{MissingCommand, UnknownCommand}
use Rattle.lexopt_options.specs.declared.mistake.Mistake.TheVariants.{Exclusive, InvalidVariable}

-- the option at this index has these names
abbrev pub AreNames : List Declared → ℕ → Names → Type 0
AreNames options index names = (o : Declared) × (slice_get options index ≡ Some o)
    × (o.short_name ≡ short_name names) × (o.long_name ≡ long_name names)

-- the option at this index accepts these values
abbrev pub AreValues : List Declared → ℕ → List (Bor (List ℕ)) → Type 0
AreValues options index values = (o : Declared) × (slice_get options index ≡ Some o)
    × (o.words ≡ listed (map (λ value. value.now) values))

-- the positional at this index has this placeholder, and accepts these words
abbrev pub AreWords : List Positional → ℕ → List ℕ → List (Bor (List ℕ)) → Type 0
AreWords positionals index placeholder values = (p : Positional)
    × (slice_get positionals index ≡ Some p) × (p.placeholder ≡ placeholder)
    × (p.words ≡ listed (map (λ value. value.now) values))

-- this mistake is that of the definitions
abbrev pub IsMistake : Declaration → Mistake → stops.Mistake → Type 0
IsMistake d (UnknownOption name hints) m = (left : Tail)
    × (m ≡ stops.unknown_option (name_view name) left)
    × IsHint d.options (name_view name) left (map (λ hint. hint.now) hints.items)
IsMistake d (UnexpectedValue option value) m =
    m ≡ stops.unexpected_value (string_bytes option) value
IsMistake d (MissingValue option placeholder) m = (index : ℕ)
    × (m ≡ stops.missing_value index (string_bytes option))
    × (placeholder.now ≡ placeholder_at d.options index)
IsMistake d (InvalidValue option value values) m = (index : ℕ)
    × (m ≡ stops.invalid_value index value) × AreNames d.options index option
    × AreValues d.options index values.now
IsMistake d (UnexpectedArgument word) m = m ≡ stops.unexpected_argument word
IsMistake d (InvalidArgument placeholder word values) m = (index : ℕ)
    × (m ≡ stops.invalid_argument index word)
    × AreWords d.positionals index placeholder.now values.now
IsMistake d (MissingArgument placeholder) m = (count : ℕ) × (m ≡ stops.missing_argument count)
    × (placeholder.now ≡ required_placeholder d.positionals count)
IsMistake d (MissingOption names) m = (index : ℕ) × (m ≡ stops.missing_option index)
    × AreNames d.options index names
IsMistake d (Exclusive names others) m = (index : ℕ) × (other : ℕ)
    × (m ≡ stops.exclusive_options index other) × AreNames d.options index names
    × AreNames d.options other others
IsMistake d (MissingCommand names) m = ⊥
IsMistake d (UnknownCommand word rest hints) m = ⊥
IsMistake d (InvalidVariable name) m = ⊥
