use Rattle.std.proofs.Common.{rules}
use Rattle.lexopt_options.proofs.read.is_full.Goals as goal

pub returns-in-Some : goal.returns-in-Some
returns-in-Some c = search rules
