use Rattle.std.proofs.Common.{rules}
use Rattle.lexopt_words.proofs.os_string.OsString.from_bytes.Goals as goal

pub returns : goal.returns
returns c = search rules
