use Rattle.std.proofs.Common.{refl}
use Rattle.lexopt_commands.proofs.Wholes.{same_command}
use Rattle.lexopt_commands.proofs.help.usage_of.Goals as goal

pub returns : goal.returns
returns g c = rw (same_command c.new.result c.args.options.now _ _ c.new.ensures.options c.new.ensures.rest refl refl) at c.usage.ensures
