use Rattle.lexopt_options.proofs.options.Options.usage.Goals as goal

pub returns : goal.returns
returns g c = rw c.named.ensures at c.usage.ensures
