use Rattle.std.proofs.Common.{rules}
use Rattle.lexopt_calls.proofs.run_error.RunError.status.Goals as goal

pub returns-in-BadLine : goal.returns-in-BadLine
returns-in-BadLine c = search rules
