use Rattle.std.proofs.Common.{sym, ◌∙◌}
use Rattle.lexopt_items.specs.Items.{item_view}
use Rattle.lexopt_spell.proofs.After.{row_asked, no_row}
use Rattle.lexopt_spell.proofs.added.separator_is_due.Goals as goal

pub returns-then-are_no_options : goal.returns-then-are_no_options
returns-then-are_no_options c = row_asked item_view c.args.items.now c.are_plain.result (sym c.are_no_options.ensures ∙ c.if-are_no_options.true) c.are_plain.ensures

pub returns-else-are_no_options : goal.returns-else-are_no_options
returns-else-are_no_options c = no_row item_view c.args.items.now c.are_no_options.result c.if-are_no_options.false (sym c.are_no_options.ensures ∙ c.if-are_no_options.false)
