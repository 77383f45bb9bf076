use Rattle.std.proofs.Common.{rules}
use Rattle.lexopt_calls.proofs.script.hexadecimal.Goals as goal

pub returns-in-65-to-70 : goal.returns-in-65-to-70
returns-in-65-to-70 c = search rules
