use Rattle.lexopt_commands.proofs.commands.Commands.path_of.Goals as goal

pub returns : goal.returns
returns g c = rw (c.program-program.ensures, c.options.ensures.same) at c.format.ensures.ok
