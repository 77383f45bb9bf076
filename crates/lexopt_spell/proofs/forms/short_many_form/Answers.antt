use Rattle.std.proofs.Common.{refl, sym, ap, ◌∙◌, inl, inr}
use Rattle.lexopt_line_spec.specs.Table.{short, many}
use Rattle.lexopt_line_spec.specs.Speller as rows
use Rattle.lexopt_items.specs.Items.{kind_view}
use Rattle.lexopt_spell.proofs.FormRows.{formed, unformed, form_at, other_kind, empty, lone, no_others, some_others, not_lone, words_row, attached_words_row}
use Rattle.lexopt_spell.proofs.forms.short_many_form.Goals.{else-joins-via-then-joins+else-is_empty, else-joins-via-else-joins}
use Rattle.lexopt_spell.proofs.forms.short_many_form.Goals as goal

pub returns-in_default : goal.returns-in_default
returns-in_default c = λ short_equals x later both. rows.with_list (kind_view c.args.kind) (short x) c.args.values.now (other_kind c.args.kind c.in_default.not-Several)

pub returns-in_default-values : goal.returns-in_default-values
returns-in_default-values c = λ short_equals x later both.
    unformed short_equals (short x) (many (short x)) _ _ _ _ _ (ap kind_view c.in-Several.is) (empty c.args.values.now c.in_default-values.len_below) (rows.no_values_given (short x))

pub returns-then-is_empty : goal.returns-then-is_empty
returns-then-is_empty c = λ short_equals x later both.
    let joins = both.0 c.if-joins.true in
    let values = c.args.values.now in
    formed short_equals later (short x) (many (short x)) _ _ _ _ c.in_word.result _ (ap kind_view c.in-Several.is)
    (lone values c.first-item.result c.in-len1-up.len_at_least (no_others values (sym c.is_empty.ensures ∙ c.if-is_empty.true)) c.first-item.is) c.in_word.ensures
    (rows.lone_joined x c.first-item.result (refl, joins.0, joins.1))

pub returns-then-is_plain : goal.returns-then-is_plain
returns-then-is_plain c = λ short_equals x later both.
    let found = c.words_form.ensures in
    let values = c.args.values.now in
    form_at short_equals later (short x) (many (short x)) _ _ values values c.words_form.result (ap kind_view c.in-Several.is) refl
    (words_row short_equals later x values c.first-item.result c.words_form.result c.in-len1-up.len_at_least c.first-item.is (sym c.is_plain.ensures ∙ c.if-is_plain.true)
    (not_lone c.args.joins short_equals later values both
    (elim c.else-joins.branch [
      | else-joins-via-then-joins+else-is_empty w ↦ inr (some_others values c.in-len1-up.len_at_least (sym w.is_empty.ensures ∙ w.if-is_empty.false))
      | else-joins-via-else-joins w ↦ inl w.if-joins.false
    ]))
    (record { form = found.form; plain = found.plain; reason = found.reason; not_plain = found.not_plain }))

pub returns-else-is_plain : goal.returns-else-is_plain
returns-else-is_plain c = λ short_equals x later both.
    let found = c.attached_words_form.ensures in
    let values = c.args.values.now in
    form_at short_equals later (short x) (many (short x)) _ _ values values c.attached_words_form.result (ap kind_view c.in-Several.is) refl
    (attached_words_row short_equals later x values c.first-item.result c.first-item.result c.attached_words_form.result c.in-len1-up.len_at_least c.first-item.is c.first-item.is
    (sym c.is_plain.ensures ∙ c.if-is_plain.false)
    (not_lone c.args.joins short_equals later values both
    (elim c.else-joins.branch [
      | else-joins-via-then-joins+else-is_empty w ↦ inr (some_others values c.in-len1-up.len_at_least (sym w.is_empty.ensures ∙ w.if-is_empty.false))
      | else-joins-via-else-joins w ↦ inl w.if-joins.false
    ]))
    (record { form = found.form; plain = found.plain; reason = found.reason; not_plain = found.not_plain }))
