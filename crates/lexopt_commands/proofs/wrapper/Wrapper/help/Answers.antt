use Rattle.lexopt_commands.proofs.Common.{arith, common_steps}
use Rattle.lexopt_commands.proofs.Wholes.{same_whole}
use Rattle.lexopt_commands.proofs.wrapper.Wrapper.help.Goals as goal

pub returns : goal.returns
returns g c = rw (same_whole c.args.self.now _ _ c.declaration.ensures (grind (arith, common_steps))) at c.help.ensures
