use Rattle.std.proofs.Common.{[], Some, refl, sym, inl, inr, ◌∙◌}
use Rattle.lexopt_line_spec.specs.Table.{short, option}
use Rattle.lexopt_line_spec.specs.Speller as rows
use Rattle.lexopt_spell.proofs.FormRows.{formed, unformed, empty, joined_row, begins_so, attached_row}
use Rattle.lexopt_spell.proofs.forms.attached_form.Goals.{else-short_equals-2-via-then-short_equals-2+else-first-eq61, else-short_equals-2-via-else-short_equals-2}
use Rattle.lexopt_spell.proofs.forms.attached_form.Goals as goal

pub returns-then-short_equals : goal.returns-then-short_equals
returns-then-short_equals c = λ x later.
    let v = c.args.value.now in
    formed c.args.short_equals later (short x) (λ w. option (short x) (Some w)) _ _ v v c.in_word.result _ refl refl c.in_word.ensures
    (joined_row c.args.short_equals later x v c.if-short_equals.true (inl (sym c.as_bytes.ensures ∙ empty _ c.in-empty.len_below)))

pub returns-else-short_equals : goal.returns-else-short_equals
returns-else-short_equals c = λ x later.
    unformed c.args.short_equals (short x) (λ w. option (short x) (Some w)) _ _ c.args.value.now [] _ refl (sym c.as_bytes.ensures ∙ empty _ c.in-empty.len_below)
    (rows.empty_off x c.if-short_equals.false)

pub returns-then-first-eq61 : goal.returns-then-first-eq61
returns-then-first-eq61 c = λ x later.
    let v = c.args.value.now in
    formed c.args.short_equals later (short x) (λ w. option (short x) (Some w)) _ _ v v c.in_word-then-first-eq61.result _ refl refl c.in_word-then-first-eq61.ensures
    (joined_row c.args.short_equals later x v c.if-short_equals-2.true (inr (begins_so v _ c.as_bytes.ensures c.in-len1-up.len_at_least c.if-first-eq61.true)))

pub returns-else-short_equals-2 : goal.returns-else-short_equals-2
returns-else-short_equals-2 c = λ x later.
    let v = c.args.value.now in
    formed c.args.short_equals later (short x) (λ w. option (short x) (Some w)) _ _ v v c.in_word-else-short_equals-2.result _ refl refl c.in_word-else-short_equals-2.ensures
    (attached_row c.args.short_equals later x v _ c.as_bytes.ensures c.in-len1-up.len_at_least
    (elim c.else-short_equals-2.branch [
      | else-short_equals-2-via-then-short_equals-2+else-first-eq61 w ↦ inr w.if-first-eq61.false
      | else-short_equals-2-via-else-short_equals-2 w ↦ inl w.if-short_equals-2.false
    ]))
