use Rattle.std.proofs.Common.{ap, string_bytes, ◌∙◌}
use Rattle.lexopt_declaration.proofs.Marks.{others_added, others_passed}
use Rattle.lexopt_declaration.proofs.help.push_others.Goals.{then-has_text+in_ok-push_str+in_ok-push_mark, else-has_text}
use Rattle.lexopt_declaration.proofs.help.push_others.Goals as goal

pub loop-option-preserved : goal.loop-option-preserved
loop-option-preserved g c = elim c.if-has_text.branch [
  | then-has_text+in_ok-push_str+in_ok-push_mark w ↦
      others_added c.args.options.now _ c.loop-option.option-index c.option-item.result c.has_text.result _ (string_bytes c.loop-option.mark) (string_bytes w.push_str.new.self) _ c.loop-option-test.true c.option-item.is c.has_text.ensures w.if-has_text.true
      w.in_ok-push_str.ensures.bytes
      (ap string_bytes w.mark-is ∙ (rw (w.arity.ensures.kind, w.arity.ensures.placeholder) at w.in_ok-push_mark.ensures))
      c.loop-option.invariant
  | else-has_text w ↦
      ap string_bytes w.mark-is
      ∙ others_passed c.args.options.now _ c.loop-option.option-index c.option-item.result c.has_text.result _ (string_bytes c.loop-option.mark) c.loop-option-test.true c.option-item.is c.has_text.ensures w.if-has_text.false c.loop-option.invariant
]
