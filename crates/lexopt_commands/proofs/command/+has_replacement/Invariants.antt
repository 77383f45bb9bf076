use Rattle.std.proofs.Common.{length}
use Rattle.lexopt_commands.proofs.command.+has_replacement.Given as goal

abbrev pub decreases-has_replacement : goal.decreases-has_replacement
decreases-has_replacement l = length l.name.now
