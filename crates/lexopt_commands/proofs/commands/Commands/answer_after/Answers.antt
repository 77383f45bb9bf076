use Rattle.std.proofs.Common.{refl}
use Rattle.lexopt_commands.proofs.commands.Commands.answer_after.Goals as goal

pub returns-in_ok-path-in-Command : goal.returns-in_ok-path-in-Command
returns-in_ok-path-in-Command g c = record {
  parsed = c.in-Command.parsed;
  name = c.in-Command.name;
  own = c.in-Command.own;
  read = rw c.in-Command.is at c.in_ok-parsed.ensures.line;
  by_path = c.in_ok-path-in-Command.ensures;
  general = c.in_ok-general-in-Command.ensures;
  line = refl;
}
