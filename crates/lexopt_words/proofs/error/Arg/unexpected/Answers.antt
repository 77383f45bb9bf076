use Rattle.std.proofs.Common.{rules}
use Rattle.lexopt_words.proofs.error.Arg.unexpected.Goals as goal

pub returns-in-Ok : goal.returns-in-Ok
returns-in-Ok c = search rules
