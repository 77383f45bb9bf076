use Rattle.lexopt_declaration.proofs.Common.{map, take, AreText, option_view}
use Rattle.lexopt_declaration.proofs.declaration.are_text.Given as goal

abbrev pub invariant-loop-option : goal.invariant-loop-option
invariant-loop-option g l = AreText (map option_view (take l.option-index l.options))
