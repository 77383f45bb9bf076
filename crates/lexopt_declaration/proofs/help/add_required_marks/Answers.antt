use Rattle.std.proofs.Common.{◌++◌, ◌∙◌, ◌∷◌, [], ap, map, string_bytes}
use Rattle.std.proofs.lemmas.List.{map-append}
use Rattle.lexopt_declaration.proofs.Marks.{mark_added, mark_passed}
use Rattle.lexopt_declaration.proofs.help.add_required_marks.Goals.{then-is_demanded+in_ok-option_mark+in_ok-push, else-is_demanded}
use Rattle.lexopt_declaration.proofs.help.add_required_marks.Goals as goal

pub loop-declared-preserved : goal.loop-declared-preserved
loop-declared-preserved g c = elim c.if-is_demanded.branch [
  | then-is_demanded+in_ok-option_mark+in_ok-push w ↦
      mark_added c.args.options.now c.loop-declared.declared-index c.declared-item.result c.is_demanded.result _ (map string_bytes c.loop-declared.marks.items) _ c.loop-declared-test.true c.declared-item.is c.is_demanded.ensures w.if-is_demanded.true
      (ap (λ m. map string_bytes m.items) w.marks-is ∙ ap (map string_bytes) w.in_ok-push.ensures.items ∙ map-append string_bytes _ _ ∙ ap (λ t. map string_bytes c.loop-declared.marks.items ++ t ∷ []) w.in_ok-option_mark.ensures)
      c.loop-declared.invariant
  | else-is_demanded w ↦
      ap (λ m. map string_bytes m.items) w.marks-is
      ∙ mark_passed c.args.options.now c.loop-declared.declared-index c.declared-item.result c.is_demanded.result _ (map string_bytes c.loop-declared.marks.items) c.loop-declared-test.true c.declared-item.is c.is_demanded.ensures w.if-is_demanded.false c.loop-declared.invariant
]
