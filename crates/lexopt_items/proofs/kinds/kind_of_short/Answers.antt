use Rattle.std.proofs.Common.{◌==◌, sym, ap, ◌∙◌}
use Rattle.std.specs.List.{list_any}
use Rattle.lexopt_line_spec.specs.Table.{short}
use Rattle.lexopt_items.specs.Items.{table_view}
use Rattle.lexopt_items.proofs.ReadsItems.{is_one, is_optional, is_several, is_flag}
use Rattle.lexopt_items.proofs.kinds.kind_of_short.Goals as goal

pub returns-then-contains : goal.returns-then-contains
returns-then-contains c =
    is_one (table_view c.args.table.now) (short c.args.option) (sym (c.contains.ensures.value ∙ ap (list_any (λ d. d == c.args.option)) c.deref.ensures.value) ∙ c.if-contains.true)

pub returns-then-contains-2 : goal.returns-then-contains-2
returns-then-contains-2 c =
    is_optional (table_view c.args.table.now) (short c.args.option)
    (sym (c.contains.ensures.value ∙ ap (list_any (λ d. d == c.args.option)) c.deref.ensures.value) ∙ c.if-contains.false)
    (sym (c.contains-else-contains.ensures.value ∙ ap (list_any (λ d. d == c.args.option)) c.deref-else-contains.ensures.value) ∙ c.if-contains-2.true)

pub returns-then-contains-3 : goal.returns-then-contains-3
returns-then-contains-3 c =
    is_several (table_view c.args.table.now) (short c.args.option)
    (sym (c.contains.ensures.value ∙ ap (list_any (λ d. d == c.args.option)) c.deref.ensures.value) ∙ c.if-contains.false)
    (sym (c.contains-else-contains.ensures.value ∙ ap (list_any (λ d. d == c.args.option)) c.deref-else-contains.ensures.value) ∙ c.if-contains-2.false)
    (sym (c.contains-else-contains-2.ensures.value ∙ ap (list_any (λ d. d == c.args.option)) c.deref-else-contains-2.ensures.value) ∙ c.if-contains-3.true)

pub returns-else-contains-3 : goal.returns-else-contains-3
returns-else-contains-3 c =
    is_flag (table_view c.args.table.now) (short c.args.option)
    (sym (c.contains.ensures.value ∙ ap (list_any (λ d. d == c.args.option)) c.deref.ensures.value) ∙ c.if-contains.false)
    (sym (c.contains-else-contains.ensures.value ∙ ap (list_any (λ d. d == c.args.option)) c.deref-else-contains.ensures.value) ∙ c.if-contains-2.false)
    (sym (c.contains-else-contains-2.ensures.value ∙ ap (list_any (λ d. d == c.args.option)) c.deref-else-contains-2.ensures.value) ∙ c.if-contains-3.false)
