use Rattle.std.proofs.Common.{rules}
use Rattle.lexopt_items.proofs.text.write_long.Goals as goal

pub returns : goal.returns
returns g c = search rules
