use Rattle.std.proofs.Common.{map}
use Rattle.lexopt_line_spec.specs.Readings.{MeansUpTo}
use Rattle.lexopt_line_spec.specs.Bound.{bound}
use Rattle.lexopt_items.specs.Items.{item_view, table_view}
use Rattle.lexopt_items.proofs.items.read_items_left.Given as goal

abbrev pub invariant-loop-items : goal.invariant-loop-items
invariant-loop-items l = MeansUpTo (table_view l.table) l.initial.parser (map item_view l.items.items) l.parser

abbrev pub decreases-loop-items : goal.decreases-loop-items
decreases-loop-items l = bound l.parser
