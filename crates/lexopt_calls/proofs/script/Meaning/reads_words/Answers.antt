use Rattle.std.proofs.Common.{rules}
use Rattle.lexopt_calls.proofs.script.Meaning.reads_words.Goals as goal

pub returns-in-Items : goal.returns-in-Items
returns-in-Items c = search rules
