use Rattle.std.proofs.Common.{rules}
use Rattle.lexopt_words.proofs.os_string.OsStringHash.hash.Goals as goal

pub returns : goal.returns
returns g c = search rules
