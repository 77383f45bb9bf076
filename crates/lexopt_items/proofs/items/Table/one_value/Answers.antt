use Rattle.std.proofs.Common.{rules}
use Rattle.lexopt_items.proofs.items.Table.one_value.Goals as goal

pub returns : goal.returns
returns c = search rules
