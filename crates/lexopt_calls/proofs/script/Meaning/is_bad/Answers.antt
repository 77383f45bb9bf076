use Rattle.std.proofs.Common.{rules}
use Rattle.lexopt_calls.proofs.script.Meaning.is_bad.Goals as goal

pub returns-in-Word : goal.returns-in-Word
returns-in-Word c = search rules
