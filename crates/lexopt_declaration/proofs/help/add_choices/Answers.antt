use Rattle.std.proofs.Common.{◌+◌, ◌++◌, ◌∙◌, ap, drop, map, string_bytes, take}
use Rattle.std.proofs.lemmas.List.{map-append}
use Rattle.lexopt_options_spec.specs.Help.{choices, visible}
use Rattle.lexopt_declaration.specs.Models.{option_view}
use Rattle.lexopt_declaration.proofs.Marks.{choice_added, choice_passed}
use Rattle.lexopt_declaration.proofs.help.add_choices.Goals.{then-is_first_choice+in_ok-choice_mark+in_ok-push, else-is_first_choice}
use Rattle.lexopt_declaration.proofs.help.add_choices.Goals as goal

pub loop-index-preserved : goal.loop-index-preserved
loop-index-preserved g c =
    let options = c.args.options.now in
    let i = c.loop-index.index in
    elim c.if-is_first_choice.branch [
      | then-is_first_choice+in_ok-choice_mark+in_ok-push w ↦
          choice_added options i c.index-options-index.result c.is_first_choice.result _ (map string_bytes c.loop-index.marks.items) _ _ c.loop-index-test.true c.index-options-index.is c.is_first_choice.ensures w.if-is_first_choice.true
          (ap (λ m. map string_bytes m.items) w.marks-is ∙ ap (map string_bytes) w.in_ok-push.ensures.items ∙ map-append string_bytes _ _)
          w.in_ok-choice_mark.ensures c.loop-index.invariant
      | else-is_first_choice w ↦
          ap (λ m. map string_bytes m.items ++ choices (visible (map option_view (take (i + 1) options))) (visible (map option_view (drop (i + 1) options)))) w.marks-is
          ∙ choice_passed options i c.index-options-index.result c.is_first_choice.result _ (map string_bytes c.loop-index.marks.items) c.loop-index-test.true c.index-options-index.is c.is_first_choice.ensures w.if-is_first_choice.false c.loop-index.invariant
    ]
