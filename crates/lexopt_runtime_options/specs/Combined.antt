-- A declaration with the options of several groups.
use Rattle.std.specs.Prelude.{List, ◌++◌, map}
use Rattle.std.specs.List.{flat_map}
use Rattle.lexopt_options_spec.specs.Declaration as spec
use Rattle.lexopt_runtime_options.specs.declared.combined.Combined.{Combined}
use Rattle.lexopt_declaration.specs.Declarations.{declaration_view}
use Rattle.lexopt_declaration.specs.Models.{option_view}
use Rattle.lexopt_declaration.specs.declared.declaration.Group.{Group}
use Rattle.lexopt_declaration.specs.declared.declaration.Declaration.{Declaration}
use Rattle.lexopt_declaration.specs.declared.declaration.Declared.{Declared}
use Rattle.lexopt_declaration.specs.declared.declaration.Positional.{Positional}

-- the options of the declaration, and then those of the groups, in order
abbrev pub all_options : {F V P M S : Type 0} → Declaration F V P M S
    → List (Group F V M S) → List (Declared F V M S)
all_options d groups = d.options.now ++ flat_map (λ group. group.options.now) groups

-- the declaration, with these options in place of its own
abbrev pub with_options : {F V P M S A B C D : Type 0} → Declaration F V P M S
    → List (Declared A B C D) → spec.Declaration
with_options d options = record (declaration_view d) {
  options = map option_view options;
}

-- all options
abbrev pub options_of : {F V P M S : Type 0} → Combined F V P M S → List (Declared F V M S)
options_of c = c.options.items

abbrev pub positionals_of : {F V P M S : Type 0} → Combined F V P M S → List (Positional P)
positionals_of c = c.frame.positionals.now

-- the whole declaration
abbrev pub declaration_of : {F V P M S : Type 0} → Combined F V P M S → spec.Declaration
declaration_of c = with_options c.frame (options_of c)
