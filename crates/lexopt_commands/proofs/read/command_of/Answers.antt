use Rattle.lexopt_commands.proofs.read.command_of.Goals as goal

pub returns : goal.returns
returns g c = rw c.place_of.ensures at c.command_at.ensures
