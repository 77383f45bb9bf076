use Rattle.std.proofs.Common.{rules}
use Rattle.lexopt_words.proofs.value_ext.OsStringValueExt.string.Goals as goal

pub returns-in-Err : goal.returns-in-Err
returns-in-Err c = search rules
