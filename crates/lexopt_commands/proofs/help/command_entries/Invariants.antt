use Rattle.std.proofs.Common.{string_bytes, take}
use Rattle.lexopt_commands.proofs.Entries.{AreEntries}
use Rattle.lexopt_commands.proofs.help.command_entries.Given as goal

abbrev pub invariant-loop-command : goal.invariant-loop-command
invariant-loop-command g l = AreEntries l.width (take l.command-index l.commands) (string_bytes l.text)
