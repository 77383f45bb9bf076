use Rattle.std.proofs.Common.{◌≡◌, List, ℕ, subst, sym, string_bytes}
use Rattle.lexopt_spec.specs.Steps as steps
use Rattle.lexopt_line_spec.specs.Table.{Item, kind, short, long, positional}
use Rattle.lexopt_items.specs.Items.{ReadsItem, kind_view, table_view, values_view}
use Rattle.lexopt_base.specs.declared.parser.Found.TheVariants as found
use Rattle.lexopt_base.proofs.Refusals.{handed_on, named}
use Rattle.lexopt_items.proofs.ReadsItems.{gave, option_read, option_refused, positional_read, next_refused, joins}
use Rattle.lexopt_items.proofs.items.read_item.Goals as goal

pub returns-in_ok-values-in-Short-clause-ok : goal.returns-in_ok-values-in-Short-clause-ok
returns-in_ok-values-in-Short-clause-ok c =
    let is : c.in_ok-option.field-0 ≡ (found.Short c.in-Short.option) = cc in
    joins (table_view c.args.table.now) c.args.parser.now c.read_values.new.parser _ _ _ c.add.result
    (subst (λ (i : Item). ReadsItem (table_view c.args.table.now) c.args.parser.now i c.read_values.new.parser) (sym c.of_short.ensures)
    (option_read (table_view c.args.table.now) c.args.parser.now c.advance.new.self c.read_values.new.parser (short c.in-Short.option) (kind_view c.kind_of_short.result)
    (values_view c.in_ok-values-in-Short.values) c.kind_of_short.ensures (gave _ _ _ _ c.in_ok-option.ensures is) c.in_ok-values-in-Short.ensures.ok)) c.add.ensures.ok

pub returns-in_ok-values-in-Long-clause-ok : goal.returns-in_ok-values-in-Long-clause-ok
returns-in_ok-values-in-Long-clause-ok c =
    let is : c.in_ok-option.field-0 ≡ found.Long = cc in
    let step = named _ _ c.long_name.result.now (gave _ _ _ _ c.in_ok-option.ensures is) c.long_name.ensures in
    let name = string_bytes c.in_ok-name-in-Long.name in
    let copied = subst (λ (n : List ℕ). steps.Next c.args.parser.now (steps.long n) c.advance.new.self) (sym c.in_ok-name-in-Long.ensures.ok) step in
    let known = subst (λ (n : List ℕ). kind_view c.kind_of_long-kind.result ≡ kind (table_view c.args.table.now) (long n)) c.deref.ensures c.kind_of_long-kind.ensures in
    joins (table_view c.args.table.now) c.args.parser.now c.read_values-in-Long.new.parser _ _ _ c.add-in-Long.result
    (subst (λ (i : Item). ReadsItem (table_view c.args.table.now) c.args.parser.now i c.read_values-in-Long.new.parser) (sym c.of_long.ensures)
    (option_read (table_view c.args.table.now) c.args.parser.now c.advance.new.self c.read_values-in-Long.new.parser (long name)
    (kind_view c.kind_of_long-kind.result) (values_view c.in_ok-values-in-Long.values) known copied c.in_ok-values-in-Long.ensures.ok)) c.add-in-Long.ensures.ok

pub returns-in-Value-clause-ok : goal.returns-in-Value-clause-ok
returns-in-Value-clause-ok c =
    let is : c.in_ok-option.field-0 ≡ (found.Value c.in-Value.word) = cc in
    joins (table_view c.args.table.now) c.args.parser.now c.advance.new.self _ _ (positional c.in-Value.word) c.add-in-Value.result
    (positional_read (table_view c.args.table.now) c.args.parser.now c.advance.new.self c.in-Value.word (gave _ _ _ _ c.in_ok-option.ensures is)) c.add-in-Value.ensures.ok

pub returns-in_err-option-clause-err : goal.returns-in_err-option-clause-err
returns-in_err-option-clause-err c =
    handed_on c.from_residual.result c.in_err-option.field-0.0 _ c.from_residual.ensures.1
    (next_refused (table_view c.args.table.now) c.args.parser.now c.advance.new.self c.in_err-option.field-0.0 c.in_err-option.ensures)

pub returns-in_err-values-in-Short-clause-err : goal.returns-in_err-values-in-Short-clause-err
returns-in_err-values-in-Short-clause-err c =
    let is : c.in_ok-option.field-0 ≡ (found.Short c.in-Short.option) = cc in
    handed_on c.from_residual-in_err-values-in-Short.result c.in_err-values-in-Short.field-0.0 _ c.from_residual-in_err-values-in-Short.ensures.1
    (option_refused (table_view c.args.table.now) c.args.parser.now c.advance.new.self _ (short c.in-Short.option) (kind_view c.kind_of_short.result) _ c.kind_of_short.ensures
    (gave _ _ _ _ c.in_ok-option.ensures is) c.in_err-values-in-Short.ensures.err)

pub returns-in_err-values-in-Long-clause-err : goal.returns-in_err-values-in-Long-clause-err
returns-in_err-values-in-Long-clause-err c =
    let is : c.in_ok-option.field-0 ≡ found.Long = cc in
    let step = named _ _ c.long_name.result.now (gave _ _ _ _ c.in_ok-option.ensures is) c.long_name.ensures in
    let name = string_bytes c.in_ok-name-in-Long.name in
    let copied = subst (λ (n : List ℕ). steps.Next c.args.parser.now (steps.long n) c.advance.new.self) (sym c.in_ok-name-in-Long.ensures.ok) step in
    let known = subst (λ (n : List ℕ). kind_view c.kind_of_long-kind.result ≡ kind (table_view c.args.table.now) (long n)) c.deref.ensures c.kind_of_long-kind.ensures in
    handed_on c.from_residual-in_err-values-in-Long.result c.in_err-values-in-Long.field-0.0 _ c.from_residual-in_err-values-in-Long.ensures.1
    (option_refused (table_view c.args.table.now) c.args.parser.now c.advance.new.self _ (long name) (kind_view c.kind_of_long-kind.result) _ known copied
    c.in_err-values-in-Long.ensures.err)
