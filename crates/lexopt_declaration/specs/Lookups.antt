-- The option at an index, by the types of the code.
use Rattle.std.specs.Prelude.{ℕ, Bool, true, false, List, Option, Some, None, option_map, position}
use Rattle.std.specs.Prelude.{slice_get}
use Rattle.std.specs.List.{list_any}
use Rattle.lexopt_options_spec.specs.Declaration.{share}
use Rattle.lexopt_declaration.specs.Models.{names_list}
use Rattle.lexopt_declaration.specs.declared.declaration.Declared.{Declared}
use Rattle.lexopt_declaration.specs.declared.declaration.Kind.{Kind}
use Rattle.lexopt_declaration.specs.declared.declaration.Kind.TheVariants.{Help}
use Rattle.lexopt_declaration.specs.declared.declaration.Names.{Names}

-- the names of the option at this index
abbrev pub names_at : {F V M S : Type 0} → List (Declared F V M S) → Option ℕ → Option Names
names_at options None = None
names_at options (Some i) = option_map (λ o. o.names) (slice_get options i)

-- one of the option's further names is one of these
abbrev pub has_alias : {F V M S : Type 0} → Names → Declared F V M S → Bool
has_alias names o = list_any (λ a. share (names_list names) (names_list a)) o.aliases.now

abbrev pub is_help : {F V M S : Type 0} → Kind F V M S → Bool
is_help Help = true
is_help kind = false

-- the names of the first option that asks for the help
abbrev pub help_names : {F V M S : Type 0} → List (Declared F V M S) → Option Names
help_names options = names_at options (position (λ o. is_help o.kind) options)
