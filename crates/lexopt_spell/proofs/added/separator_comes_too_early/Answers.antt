use Rattle.std.proofs.Common.{sym, ◌∙◌}
use Rattle.lexopt_items.specs.Items.{item_view}
use Rattle.lexopt_spell.proofs.After.{others_asked}
use Rattle.lexopt_spell.proofs.added.separator_comes_too_early.Goals as goal

pub returns-then-is_no_option : goal.returns-then-is_no_option
returns-then-is_no_option c =
    others_asked item_view c.args.items.now c.first-item.result c.are_no_options.result c.in-len1-up.len_at_least c.first-item.is (sym c.is_no_option.ensures ∙ c.if-is_no_option.true)
    c.are_no_options.ensures
