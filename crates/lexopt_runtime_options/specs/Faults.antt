-- What cannot be declared, as contracts see it.
use Rattle.std.specs.Prelude.{◌≡◌, ℕ, true, List, Some, map, option_map}
use Rattle.std.specs.Prelude.{slice_get}
use Rattle.std.specs.Borrow.{Bor}
use Rattle.lexopt_options_spec.specs.Declaration as spec
use Rattle.lexopt_options_spec.specs.Declaration.{IsFirstBadList, IsFirstFault, IsSecondRepeated}
use Rattle.lexopt_options_spec.specs.Declaration.{are_clear, is_sound}
use Rattle.lexopt_declaration.specs.declared.declaration.Declaration.{Declaration}
use Rattle.lexopt_declaration.specs.declared.declaration.Declared.{Declared}
use Rattle.lexopt_declaration.specs.declared.declaration.Names.{Names}
use Rattle.lexopt_declaration.specs.declared.declaration.Positional.{Positional}
use Rattle.lexopt_declaration.specs.Lookups.{names_at}
use Rattle.lexopt_declaration.specs.Models.{option_view, positional_view}
use Rattle.lexopt_runtime_options.specs.declared.faults.DeclarationError.{DeclarationError}
use Rattle.lexopt_runtime_options.specs.declared.faults.DeclarationError.TheVariants as error
use Rattle.lexopt_runtime_options.specs.declared.faults.Reason.{Reason}
use Rattle.lexopt_runtime_options.specs.declared.faults.Reason.TheVariants.{DashName, EmptyName}
use Rattle.lexopt_runtime_options.specs.declared.faults.Reason.TheVariants.{EqualsInName}
use Rattle.lexopt_runtime_options.specs.declared.faults.Reason.TheVariants.{ReplacementInName}
use Rattle.lexopt_runtime_options.specs.declared.faults.Reason.TheVariants.{BlankOrControlInName}
use Rattle.lexopt_runtime_options.specs.declared.faults.Reason.TheVariants.{BadPlaceholder}
use Rattle.lexopt_runtime_options.specs.declared.faults.Reason.TheVariants.{BadList, BadDefault, BadLabel}
use Rattle.lexopt_runtime_options.specs.declared.faults.Reason.TheVariants.{BadExclusive, SameName}

-- why an option cannot be declared
abbrev pub reason_view : Reason → spec.Reason
reason_view DashName = spec.dash_name
reason_view EmptyName = spec.empty_name
reason_view EqualsInName = spec.equals_in_name
reason_view ReplacementInName = spec.replacement_in_name
reason_view BlankOrControlInName = spec.blank_or_control_in_name
reason_view BadPlaceholder = spec.bad_placeholder
reason_view BadList = spec.bad_list
reason_view BadDefault = spec.bad_default
reason_view BadLabel = spec.bad_label
reason_view BadExclusive = spec.bad_exclusive
reason_view SameName = spec.same_name

-- the option with these names is the first that cannot be declared after those before it, for this
-- reason
abbrev pub IsOptionError : {F V M S : Type 0} → List (Declared F V M S) → Names → Reason → Type 0
IsOptionError options names reason = (index : ℕ)
    × IsFirstFault (map option_view options) index (reason_view reason)
    × (names_at options (Some index) ≡ Some names)

-- the positional with this placeholder is the second that may occur more than once
abbrev pub IsPositionalError : {P : Type 0} → List (Positional P) → Bor (List ℕ) → Type 0
IsPositionalError positionals placeholder = (index : ℕ)
    × IsSecondRepeated (map positional_view positionals) index
    × (option_map (λ p. p.placeholder) (slice_get positionals index) ≡ Some placeholder)

-- the positional with this placeholder is the first whose list cannot be declared
abbrev pub IsListError : {P : Type 0} → List (Positional P) → Bor (List ℕ) → Type 0
IsListError positionals placeholder = (index : ℕ)
    × IsFirstBadList (map positional_view positionals) index
    × (option_map (λ p. p.placeholder) (slice_get positionals index) ≡ Some placeholder)

-- the declaration has such an option; or no such option, but a positional with one of these faults
abbrev pub IsDeclarationError : {F V P M S : Type 0} → Declaration F V P M S → DeclarationError
    → Type 0
IsDeclarationError d (error.Option names reason) = IsOptionError d.options.now names reason
IsDeclarationError d (error.Positional placeholder) =
    (is_sound (map option_view d.options.now) ≡ true)
    × IsPositionalError d.positionals.now placeholder
IsDeclarationError d (error.BadList placeholder) =
    (is_sound (map option_view d.options.now) ≡ true)
    × (are_clear (map positional_view d.positionals.now) ≡ true)
    × IsListError d.positionals.now placeholder
