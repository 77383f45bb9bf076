use Rattle.std.proofs.Common.{rules}
use Rattle.lexopt_words.proofs.error.ErrorDebug.fmt.Goals as goal

pub returns : goal.returns
returns g c = search rules
