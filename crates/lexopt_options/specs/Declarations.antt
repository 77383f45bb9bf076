-- What a program declares, as contracts see it.
use Rattle.std.specs.Prelude.{List}
use Rattle.lexopt_options_spec.specs.Declaration.{Declaration}
use Rattle.lexopt_declaration.specs.Declarations.{declaration_view}
use Rattle.lexopt_declaration.specs.declared.declaration.Declared.{Declared}
use Rattle.lexopt_declaration.specs.declared.declaration.Positional.{Positional}
use Rattle.lexopt_options.specs.declared.options.Options.{Options}

-- what is declared, for a program of this name
abbrev pub declaration_of : {F V P M S : Type 0} → Options F V P M S → Declaration
declaration_of o = record (declaration_view o.declaration.now) {
  program = o.program.now;
}

-- the options of the declaration
abbrev pub options_of : {F V P M S : Type 0} → Options F V P M S → List (Declared F V M S)
options_of o = o.declaration.now.options.now

-- the positionals of the declaration
abbrev pub positionals_of : {F V P M S : Type 0} → Options F V P M S → List (Positional P)
positionals_of o = o.declaration.now.positionals.now
