use Rattle.std.proofs.Common.{rules}
use Rattle.lexopt_words.proofs.error.ArgClone.clone.Goals as goal

pub returns-in-Long : goal.returns-in-Long
returns-in-Long c = search rules
