use Rattle.lexopt_declaration.proofs.Common.{take, AreAllText, names_list}
use Rattle.std.specs.List.{flat_map}
use Rattle.lexopt_declaration.proofs.declaration.option_is_text.Given as goal

abbrev pub invariant-loop-names : goal.invariant-loop-names
invariant-loop-names g l = AreAllText (flat_map names_list (take l.names-index l.option.aliases.now))
