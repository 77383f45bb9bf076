use Rattle.std.proofs.Common.{◌-◌, List, ℕ, drop, length, length-drop, sym, ap, ◌∙◌}
use Rattle.lexopt_spec.specs.UnreadLine.{pending, pending_in, rest_of}
use Rattle.lexopt_base.specs.Models.{tail_of}
use Rattle.lexopt_base.specs.declared.parser.State.{State}
use Rattle.lexopt_base.proofs.parser.Parser.pending.Goals as goal

pub returns-in-PendingValue-clause-value : goal.returns-in-PendingValue-clause-value
returns-in-PendingValue-clause-value c =
    let p = c.self.inside in (
      drop c.in-PendingValue.position p.words.current,
      ap pending (sym c.self.view_is) ∙ ap (λ (s : State). pending_in p.short_equals (tail_of p.words.current s)) c.in-PendingValue.is,
      length-drop c.in-PendingValue.position p.words.current ∙ ap (λ (w : List ℕ). length w - c.in-PendingValue.position) (sym c.current.ensures),
    )

pub returns-in-Shorts-clause-value : goal.returns-in-Shorts-clause-value
returns-in-Shorts-clause-value c =
    let p = c.self.inside in (
      drop c.pending_at-start.result.0 c.current-word.result.now,
      ap pending (sym c.self.view_is) ∙ ap (λ (s : State). pending_in p.short_equals (tail_of p.words.current s)) c.in-Shorts.is
          ∙ ap (λ (l : List ℕ). pending_in p.short_equals (rest_of (drop c.in-Shorts.position l))) (sym c.current-word.ensures) ∙ c.pending_at-start.ensures.value,
      length-drop c.pending_at-start.result.0 c.current-word.result.now,
    )
