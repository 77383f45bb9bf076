use Rattle.std.proofs.Common.{rules}
use Rattle.lexopt_calls.proofs.run_error.RunErrorDisplay.fmt.Goals as goal

pub returns-in-BadLine-clause-writes : goal.returns-in-BadLine-clause-writes
returns-in-BadLine-clause-writes g c = search rules
