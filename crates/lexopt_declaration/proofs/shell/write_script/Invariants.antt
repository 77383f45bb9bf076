use Rattle.lexopt_declaration.proofs.Common.{flat_map, HasWritten, IsPlainFormatter, script_character}
use Rattle.lexopt_declaration.proofs.shell.write_script.Given as goal

abbrev pub invariant-loop-character : goal.invariant-loop-character
invariant-loop-character g l = IsPlainFormatter l.fn.f
    → HasWritten g.W.Write.write_str_gives l.fn.f (flat_map (script_character l.program l.variable) l.yielded) l.f
