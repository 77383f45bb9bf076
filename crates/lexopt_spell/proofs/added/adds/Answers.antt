use Rattle.std.proofs.Common.{rules, ◌≡◌, true, Err, sym, ap, subst, refl, ◌∙◌, map, string_bytes}
use lib.Utf8.{scalar}
use Rattle.lexopt_line_spec.specs.Table.{short, long, option, many, kind, Kind}
use Rattle.lexopt_line_spec.specs.Speller as rows
use Rattle.lexopt_items.specs.Items.{item_view, table_view}
use Rattle.lexopt_items.specs.declared.items.Item.{Item}
use Rattle.lexopt_spell.specs.Models.{AddedIs, FormIs, place_view}
use Rattle.lexopt_spell.proofs.AddedRows.{refused}
use Rattle.lexopt_spell.proofs.FormRows.{unformed, form_at}
use Rattle.lexopt_spell.proofs.added.adds.Goals as goal

pub returns-in_err-short_form-in-Short : goal.returns-in_err-short_form-in-Short
returns-in_err-short_form-in-Short c =
    let x = c.in-Short.option in
    let reason = c.in_err-short_form-in-Short.field-0.0 in
    let later = map item_view c.args.after.now in
    let t = table_view c.args.table.now in
    let is : c.from_residual.result ≡ Err reason = search rules in
    let character : scalar x ≡ true = search rules in
    refused t c.args.short_equals later (place_view c.args.place) (item_view c.args.item.now) c.from_residual.result reason is
    (rows.no_short_form x (place_view c.args.place) (item_view c.args.item.now) _ character
    (unformed c.args.short_equals (short x) item_view (kind t (short x)) _ c.args.item.now _ _ (sym c.kind_of_short-kind.ensures) c.in-Short.is
    (c.in_err-short_form-in-Short.ensures x later)))

pub returns-in_err-short_many_form-in-ShortMany : goal.returns-in_err-short_many_form-in-ShortMany
returns-in_err-short_many_form-in-ShortMany c =
    let x = c.in-ShortMany.option in
    let reason = c.in_err-short_many_form-in-ShortMany.field-0.0 in
    let later = map item_view c.args.after.now in
    let t = table_view c.args.table.now in
    let answer = c.from_residual-in_err-short_many_form-in-ShortMany.result in
    let is : answer ≡ Err reason = search rules in
    let character : scalar x ≡ true = search rules in
    subst (λ (i : Item). AddedIs t c.args.short_equals later (place_view c.args.place) (item_view i) answer) (sym c.in-ShortMany.is)
    (refused t c.args.short_equals later (place_view c.args.place) (many (short x) c.in-ShortMany.values.items) answer reason is
    (rows.no_short_form x (place_view c.args.place) (many (short x) c.in-ShortMany.values.items) _ character
    (unformed c.args.short_equals (short x) (many (short x)) (kind t (short x)) _ _ _ _ (sym c.kind_of_short-kind-in-ShortMany.ensures) (sym c.deref.ensures.value)
    (c.in_err-short_many_form-in-ShortMany.ensures c.args.short_equals x later c.joins_only_value-joins.ensures))))

pub returns-in-Long : goal.returns-in-Long
returns-in-Long c =
    let name = string_bytes c.in-Long.name in
    let later = map item_view c.args.after.now in
    let t = table_view c.args.table.now in
    let kind_is = c.kind_of_long-kind.ensures ∙ ap (λ n. kind t (long n)) c.deref-in-Long.ensures in
    subst (λ (i : Item). AddedIs t c.args.short_equals later (place_view c.args.place) (item_view i) c.long_added.result) (sym c.in-Long.is)
    (c.long_added.ensures t c.args.short_equals later (option (long name) c.in-Long.value) refl
    (subst (λ (k : Kind). FormIs c.args.short_equals later k (long name) (option (long name) c.in-Long.value) c.long_form.result) kind_is
    (c.long_form.ensures c.args.short_equals name later)))

pub returns-in-LongMany : goal.returns-in-LongMany
returns-in-LongMany c =
    let name = string_bytes c.in-LongMany.name in
    let later = map item_view c.args.after.now in
    let t = table_view c.args.table.now in
    let kind_is = c.kind_of_long-kind-in-LongMany.ensures ∙ ap (λ n. kind t (long n)) c.deref-in-LongMany.ensures in
    subst (λ (i : Item). AddedIs t c.args.short_equals later (place_view c.args.place) (item_view i) c.long_added-in-LongMany.result) (sym c.in-LongMany.is)
    (c.long_added-in-LongMany.ensures t c.args.short_equals later (many (long name) c.in-LongMany.values.items) refl
    (form_at c.args.short_equals later (long name) (many (long name)) _ _ _ _ c.long_many_form.result (sym kind_is) (sym c.deref-in-LongMany-2.ensures.value)
    (c.long_many_form.ensures c.args.short_equals name later)))
