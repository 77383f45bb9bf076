use Rattle.lexopt_options.proofs.mistake.MistakeDisplay.fmt.Goals as goal

pub returns-in-Exclusive-clause-writes : goal.returns-in-Exclusive-clause-writes
returns-in-Exclusive-clause-writes g c = rw c.in-Exclusive.is c.write-in-Exclusive.ensures.writes
