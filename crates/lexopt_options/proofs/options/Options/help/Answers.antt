use Rattle.lexopt_options.proofs.options.Options.help.Goals as goal

pub returns : goal.returns
returns g c = rw c.named.ensures at c.help.ensures
