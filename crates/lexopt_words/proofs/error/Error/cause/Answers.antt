use Rattle.std.proofs.Common.{rules}
use Rattle.lexopt_words.proofs.error.Error.cause.Goals as goal

pub returns-in-ParsingFailed : goal.returns-in-ParsingFailed
returns-in-ParsingFailed c = search rules
