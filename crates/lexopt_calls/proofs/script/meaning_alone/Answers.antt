use Rattle.std.proofs.Common.{rules}
use Rattle.lexopt_calls.proofs.script.meaning_alone.Goals as goal

pub returns-in-empty : goal.returns-in-empty
returns-in-empty c = search rules
