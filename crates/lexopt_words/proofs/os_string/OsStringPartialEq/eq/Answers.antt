use Rattle.std.proofs.Common.{rules}
use Rattle.lexopt_words.proofs.os_string.OsStringPartialEq.eq.Goals as goal

pub returns : goal.returns
returns c = search rules
