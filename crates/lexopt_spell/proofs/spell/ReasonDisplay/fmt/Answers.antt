use Rattle.std.proofs.Common.{rules}
use Rattle.lexopt_spell.proofs.spell.ReasonDisplay.fmt.Goals as goal

pub returns-clause-writes : goal.returns-clause-writes
returns-clause-writes g c = search rules
