use Rattle.std.proofs.Common.{sym, ◌∙◌}
use Rattle.lexopt_line_spec.specs.Table.{long}
use Rattle.lexopt_items.specs.Items.{table_view}
use Rattle.lexopt_items.proofs.ReadsItems.{is_one, is_optional, is_several, is_flag}
use Rattle.lexopt_items.proofs.kinds.kind_of_long.Goals as goal

pub returns-then-holds : goal.returns-then-holds
returns-then-holds c = is_one (table_view c.args.table.now) (long c.args.name.now) (sym c.holds.ensures ∙ c.if-holds.true)

pub returns-then-holds-2 : goal.returns-then-holds-2
returns-then-holds-2 c =
    is_optional (table_view c.args.table.now) (long c.args.name.now) (sym c.holds.ensures ∙ c.if-holds.false)
    (sym c.holds-else-holds.ensures ∙ c.if-holds-2.true)

pub returns-then-holds-3 : goal.returns-then-holds-3
returns-then-holds-3 c =
    is_several (table_view c.args.table.now) (long c.args.name.now) (sym c.holds.ensures ∙ c.if-holds.false)
    (sym c.holds-else-holds.ensures ∙ c.if-holds-2.false) (sym c.holds-else-holds-2.ensures ∙ c.if-holds-3.true)

pub returns-else-holds-3 : goal.returns-else-holds-3
returns-else-holds-3 c =
    is_flag (table_view c.args.table.now) (long c.args.name.now) (sym c.holds.ensures ∙ c.if-holds.false)
    (sym c.holds-else-holds.ensures ∙ c.if-holds-2.false) (sym c.holds-else-holds-2.ensures ∙ c.if-holds-3.false)
