use Rattle.std.proofs.Common.{refl, ap}
use Rattle.lexopt_line_spec.specs.Table.{long, many}
use Rattle.lexopt_line_spec.specs.Speller as rows
use Rattle.lexopt_items.specs.Items.{kind_view}
use Rattle.lexopt_spell.proofs.FormRows.{formed, unformed, form_at, other_kind, empty, lone, long_words_row}
use Rattle.lexopt_spell.proofs.forms.long_many_form.Goals as goal

pub returns-in_default : goal.returns-in_default
returns-in_default c = λ short_equals x later. rows.with_list (kind_view c.args.kind) (long x) c.args.values.now (other_kind c.args.kind c.in_default.not-Several)

pub returns-in-empty : goal.returns-in-empty
returns-in-empty c = λ short_equals x later.
    unformed short_equals (long x) (many (long x)) _ _ _ _ _ (ap kind_view c.in-Several.is) (empty c.args.values.now c.in-empty.len_below) (rows.no_values_given (long x))

pub returns-in-len1 : goal.returns-in-len1
returns-in-len1 c = λ short_equals x later.
    formed short_equals later (long x) (many (long x)) _ _ _ _ c.in_word.result _ (ap kind_view c.in-Several.is)
    (lone c.args.values.now c.value-item.result c.in-len1.len_at_least c.in-len1.len_below c.value-item.is) c.in_word.ensures (rows.long_lone x c.value-item.result)

pub returns-in_default-values : goal.returns-in_default-values
returns-in_default-values c = λ short_equals x later.
    let found = c.words_form.ensures in
    form_at short_equals later (long x) (many (long x)) _ _ _ _ c.words_form.result (ap kind_view c.in-Several.is) refl
    (long_words_row short_equals later x c.args.values.now c.words_form.result c.in_default-values.len_at_least
    (record { form = found.form; plain = found.plain; reason = found.reason; not_plain = found.not_plain }))
