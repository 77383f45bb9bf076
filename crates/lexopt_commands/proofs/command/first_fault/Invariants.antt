use Rattle.lexopt_commands.proofs.Common.{◌≡◌, [], first_fault, names_of}
use Rattle.lexopt_commands.proofs.FirstFaults.{found_from}
use Rattle.lexopt_commands.proofs.command.first_fault.Given as goal

abbrev pub invariant-loop-index : goal.invariant-loop-index
invariant-loop-index g l = first_fault [] (names_of l.commands) ≡ found_from l.commands l.index
