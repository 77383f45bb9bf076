use Rattle.lexopt_declaration.proofs.Common.{ℕ, map, sym, ap, ◌∙◌, drop, ◌+◌, required_placeholder, has_to_occur, count_view, positional_view}
use Rattle.lexopt_declaration.proofs.Counting.{none_left, passed, passed_over, this_one}
use Rattle.lexopt_declaration.proofs.positionals.argument_placeholder.Goals.{then-is_required+else-left-eq0, else-is_required}
use Rattle.lexopt_declaration.proofs.positionals.argument_placeholder.Goals as goal

pub returns-then-left-eq0 : goal.returns-then-left-eq0
returns-then-left-eq0 g c =
    ap (λ p. p.placeholder.now) c.positional-item.is ∙ this_one c.args.positionals.now c.loop-positional.positional-index c.loop-positional.left _ c.args.n c.loop-positional-test.true
    (sym (ap (λ p. has_to_occur (count_view p.count)) c.positional-item.is) ∙ sym c.is_required.ensures ∙ c.if-is_required.true) c.if-left-eq0.true c.loop-positional.invariant

pub loop-positional-preserved : goal.loop-positional-preserved
loop-positional-preserved g c = elim c.if-is_required.branch [
  | then-is_required+else-left-eq0 w ↦
      ap (λ (k : ℕ). required_placeholder (map positional_view (drop (c.loop-positional.positional-index + 1) c.args.positionals.now)) k) w.left-is
      ∙ passed c.args.positionals.now c.loop-positional.positional-index c.loop-positional.left _ c.loop-positional-test.true
      (sym (ap (λ p. has_to_occur (count_view p.count)) c.positional-item.is) ∙ sym c.is_required.ensures ∙ w.if-is_required.true) w.if-left-eq0.false ∙ c.loop-positional.invariant
  | else-is_required w ↦
      ap (λ (k : ℕ). required_placeholder (map positional_view (drop (c.loop-positional.positional-index + 1) c.args.positionals.now)) k) w.left-is
      ∙ passed_over c.args.positionals.now c.loop-positional.positional-index c.loop-positional.left _ c.loop-positional-test.true
      (sym (ap (λ p. has_to_occur (count_view p.count)) c.positional-item.is) ∙ sym c.is_required.ensures ∙ w.if-is_required.false) ∙ c.loop-positional.invariant
]

pub returns : goal.returns
returns g c = sym (none_left c.args.positionals.now c.loop-positional.positional-index c.loop-positional.left c.loop-positional-test.false) ∙ c.loop-positional.invariant
