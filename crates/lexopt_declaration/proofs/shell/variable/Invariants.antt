use Rattle.lexopt_declaration.proofs.Common.{◌≡◌, ◌++◌, codes, map, string_bytes, take, variable_byte}
use Rattle.lexopt_declaration.proofs.shell.variable.Given as goal

abbrev pub invariant-loop-byte : goal.invariant-loop-byte
invariant-loop-byte l = string_bytes l.name ≡ codes "_" ++ map variable_byte (take l.byte-index l.program)
