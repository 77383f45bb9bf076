use Rattle.std.proofs.Common.{rules}
use Rattle.lexopt_words.proofs.message.write_missing_value.Goals as goal

pub returns-in-Some : goal.returns-in-Some
returns-in-Some g c = search rules
