use Rattle.lexopt_commands.proofs.Common.{◌≡◌, map, take, names_of}
use Rattle.lexopt_commands.proofs.read.names_of.Given as goal

abbrev pub invariant-loop-command : goal.invariant-loop-command
invariant-loop-command g l = map (λ name. name.now) l.names.items ≡ names_of (take l.command-index l.commands)
