-- What a program declares, as contracts see it.
use Rattle.std.specs.Prelude.{map}
use Rattle.lexopt_options_spec.specs.Declaration as spec
use Rattle.lexopt_declaration.specs.Models.{option_view, positional_view}
use Rattle.lexopt_declaration.specs.declared.declaration.Declaration.{Declaration}

abbrev pub declaration_view : {F V P M S : Type 0} → Declaration F V P M S → spec.Declaration
declaration_view d = record {
  program = d.program.now;
  about = d.about.now;
  usage = map (λ text. text.now) d.usage.now;
  options = map option_view d.options.now;
  positionals = map positional_view d.positionals.now;
  epilogue = map (λ paragraph. paragraph.now) d.epilogue.now;
  short_equals = d.short_equals;
}
