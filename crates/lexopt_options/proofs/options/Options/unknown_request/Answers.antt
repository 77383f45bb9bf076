use Rattle.std.proofs.Common.{refl}
use Rattle.lexopt_options.proofs.options.Options.unknown_request.Goals as goal

pub returns : goal.returns
returns g c = record {
  program = c.program-program.ensures;
  help = c.help_names.ensures;
  before = c.new.ensures.items;
  name = c.in_ok-variable.variable;
  variable = rw c.program-program.ensures at c.in_ok-variable.ensures;
  mistake = refl;
}
