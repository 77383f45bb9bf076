use Rattle.lexopt_spell.specs.Models.{form_view}
use Rattle.lexopt_spell.proofs.AddedRows.{past_short, dash_row, short_row, goes_on_row}
use Rattle.lexopt_spell.proofs.added.short_added.Goals.{then-option-ne45, else-option-ne45+in-InCluster}
use Rattle.lexopt_spell.proofs.added.short_added.Goals as goal

pub returns-in-Ended : goal.returns-in-Ended
returns-in-Ended c = λ t short_equals later item form. past_short t short_equals later c.args.option c.args.place item (form_view c.args.form) c.ranges.option.0 c.in-Ended.is form

pub returns-in_default-2 : goal.returns-in_default-2
returns-in_default-2 c = λ t short_equals later item form.
    dash_row t short_equals later c.args.option c.args.place item (form_view c.args.form) c.if-option-ne45.false c.in_default-2.not-InCluster c.in_default.not-Ended form

pub returns : goal.returns
returns c = λ t short_equals later item form.
    elim c.if-option-ne45.branch [
      | then-option-ne45 w ↦ short_row t short_equals later c.args.option c.args.place item c.args.form c.if-option-ne45.word c.ranges.option.0 w.if-option-ne45.true c.in_default.not-Ended w.word-is form
      | else-option-ne45+in-InCluster w ↦
          goes_on_row t short_equals later c.args.option c.args.place item c.args.form c.if-option-ne45.word w.if-option-ne45.false w.in-InCluster.is w.word-is form
    ]
