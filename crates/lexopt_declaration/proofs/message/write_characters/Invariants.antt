use Rattle.lexopt_declaration.proofs.Common.{flat_map, HasWritten, IsPlainFormatter, escaped}
use Rattle.lexopt_declaration.proofs.message.write_characters.Given as goal

abbrev pub invariant-loop-character : goal.invariant-loop-character
invariant-loop-character g l =
    IsPlainFormatter l.fn.f → HasWritten g.W.Write.write_str_gives l.fn.f (flat_map escaped l.yielded) l.f
