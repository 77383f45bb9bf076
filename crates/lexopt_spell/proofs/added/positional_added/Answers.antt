use Rattle.std.proofs.Common.{◌≡◌, false, [], ◌∷◌, map, refl, sym, ◌∙◌, true≢false}
use Rattle.lexopt_spec.proofs.PlainFronts.{plain_holds}
use Rattle.lexopt_line_spec.specs.Table.{positional}
use Rattle.lexopt_line_spec.specs.Speller as rows
use Rattle.lexopt_line_spec.specs.Speller.{after_positional, ended}
use Rattle.lexopt_line_spec.proofs.SpellerRows.{off_plain}
use Rattle.lexopt_line_spec.proofs.SpellerAgrees.{row_needs}
use Rattle.lexopt_items.specs.Items.{item_view}
use Rattle.lexopt_spell.specs.Models.{place_view}
use Rattle.lexopt_spell.specs.declared.forms.Place.TheVariants.{AfterValues, AfterPositional, Ended}
use Rattle.lexopt_spell.proofs.AddedRows.{at_places, begins_row, row_open, row_calm}
use Rattle.lexopt_spell.proofs.added.positional_added.Goals.{in_default-via-in-AfterPositional+else-is_plain, in_default-via-in-Open+then-is_plain-2+else-not-separator_is_due, in_default-via-in-Open+else-is_plain-2, in_default-via-in_default}
use Rattle.lexopt_spell.proofs.added.positional_added.Goals.{in-Ended, in-AfterPositional, in-Open}
use Rattle.lexopt_spell.proofs.added.positional_added.Goals as goal

pub returns-in_default : goal.returns-in_default
returns-in_default c = λ t short_equals.
    let v = c.args.word.now in
    let later = map item_view c.args.after.now in
    let place = c.args.place in
    let words = c.from_ref.result.now in
    let are = c.from_ref.ensures.value in
    elim c.in_default.branch [
      | in_default-via-in-AfterPositional+else-is_plain w ↦
          at_places t short_equals later (positional v) _ words (v ∷ []) place AfterPositional Ended Ended w.in-AfterPositional.is are refl
          (rows.separator_before_word v after_positional (λ is. let e : after_positional ≡ ended = is in cc) (off_plain v (sym w.is_plain.ensures ∙ w.if-is_plain.false)))
      | in_default-via-in-Open+then-is_plain-2+else-not-separator_is_due w ↦
          at_places t short_equals later (positional v) _ words (v ∷ []) place place Ended Ended refl are refl
          (rows.separator_before_row v (place_view place) (begins_row place w.in-Open.is) (row_needs v later (w.separator_is_due.ensures.0 w.if-not-separator_is_due.false)))
      | in_default-via-in-Open+else-is_plain-2 w ↦
          at_places t short_equals later (positional v) _ words (v ∷ []) place place Ended Ended refl are refl
          (rows.separator_before_word v (place_view place) (row_open (place_view place) (begins_row place w.in-Open.is)) (off_plain v (sym w.if-is_plain-2.ensures)))
      | in_default-via-in_default w ↦
          at_places t short_equals later (positional v) _ words (v ∷ []) place AfterValues Ended Ended w.in_default.is are refl (rows.separator_after_values v)
    ]

pub returns : goal.returns
returns c = λ t short_equals.
    let v = c.args.word.now in
    let later = map item_view c.args.after.now in
    let place = c.args.place in
    let next = c.match-place.next in
    elim c.match-place.branch [
      | in-Ended w ↦ at_places t short_equals later (positional v) _ [] [] place Ended next Ended w.in-Ended.is refl w.next-is (rows.after_separator v)
      | in-AfterPositional w ↦
          at_places t short_equals later (positional v) _ [] [] place AfterPositional next AfterPositional w.in-AfterPositional.is refl w.next-is
          (rows.next_of_row v (plain_holds false v (sym w.if-is_plain.ensures)))
      | in-Open w ↦
          let plain = sym w.if-is_plain-2.ensures in
          at_places t short_equals later (positional v) _ [] [] place place next AfterPositional refl refl w.next-is
          (rows.first_of_row v (place_view place) (begins_row place w.in-Open.is) (plain_holds false v plain)
          (row_calm v later plain (λ need. true≢false (sym (w.separator_is_due.ensures.1 need) ∙ w.if-not-separator_is_due.true))))
    ]
