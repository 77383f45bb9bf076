use Rattle.std.proofs.Common.{map}
use Rattle.lexopt_items.specs.Items.{item_view, table_view}
use Rattle.lexopt_base.proofs.Refusals.{handed_on}
use Rattle.lexopt_items.proofs.ReadsItems.{refused_later, end_read}
use Rattle.lexopt_items.proofs.items.read_items_left.Goals as goal

pub returns-in_err-read_item-clause-err : goal.returns-in_err-read_item-clause-err
returns-in_err-read_item-clause-err c =
    handed_on c.from_residual.result c.in_err-read_item.field-0.0 _ c.from_residual.ensures.1
    (refused_later (table_view c.args.table.now) c.args.parser.now c.loop-items.parser (map item_view c.loop-items.items.items) _ c.loop-items.invariant c.in_err-read_item.ensures.err)

pub returns-clause-ok : goal.returns-clause-ok
returns-clause-ok c =
    end_read (table_view c.args.table.now) c.args.parser.now c.loop-items.parser c.read_item.new.parser (map item_view c.loop-items.items.items) _ c.in_ok-read_item.field-0 c.if-branch.false
    c.loop-items.invariant c.in_ok-read_item.ensures.ok
