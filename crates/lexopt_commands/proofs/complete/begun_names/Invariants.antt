use Rattle.lexopt_commands.proofs.Common.{◌≡◌, string_bytes, take, flat_map, begun_line}
use Rattle.lexopt_commands.proofs.complete.begun_names.Given as goal

abbrev pub invariant-loop-command : goal.invariant-loop-command
invariant-loop-command g l = string_bytes l.text ≡ flat_map (begun_line l.typed) (take l.command-index l.commands)
