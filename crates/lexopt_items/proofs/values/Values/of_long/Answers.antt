use Rattle.std.proofs.Common.{rules}
use Rattle.lexopt_items.proofs.values.Values.of_long.Goals as goal

pub returns-in-All : goal.returns-in-All
returns-in-All c = search rules
