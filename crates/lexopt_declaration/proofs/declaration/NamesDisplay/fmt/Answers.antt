use Rattle.lexopt_declaration.proofs.Common.{arith, common_steps}
use Rattle.lexopt_declaration.proofs.declaration.NamesDisplay.fmt.Goals as goal

pub returns-in_ok-write_str-in-Short-clause-writes : goal.returns-in_ok-write_str-in-Short-clause-writes
returns-in_ok-write_str-in-Short-clause-writes g c = grind (arith, common_steps)

pub returns-in-Long-clause-writes : goal.returns-in-Long-clause-writes
returns-in-Long-clause-writes g c = grind (arith, common_steps)
