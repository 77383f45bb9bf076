use Rattle.std.proofs.Common.{◌≡◌, refl, sym, ap, ◌∙◌, true≢false}
use Rattle.lexopt_spec.specs.UnreadLine.{Tail, pending_in}
use Rattle.lexopt_spec.specs.Views.{gives_pending, after_pending}
use Rattle.lexopt_spec.proofs.ViewLemmas.{takes_normal, stops_there}
use Rattle.lexopt_base.specs.Stages.{stage_of}
use Rattle.lexopt_base.proofs.States.{flag_in}
use Rattle.lexopt_base.proofs.values.ValuesIter.another.Goals.{then-is_last, else-is_last}
use Rattle.lexopt_base.proofs.values.ValuesIter.another.Goals as goal

pub returns-in-Some-clause-item : goal.returns-in-Some-clause-item
returns-in-Some-clause-item c =
    let found = c.take_value-value.ensures in
    let flag : c.in-Some.pending.is_joined ≡ found.0 = ap flag_in (sym c.in-Some.ensures.value.1 ∙ found.1) in
    gives_pending c.take_value-value.result found.0 (ap stage_of c.requires) found.1 refl found.2
    (elim c.if-is_last.branch [
      | then-is_last w ↦ ap stage_of w.self-is ∙ ap after_pending (sym w.if-is_last.true ∙ flag)
      | else-is_last w ↦ ap stage_of w.self-is ∙ ap after_pending (sym w.if-is_last.false ∙ flag)
    ])

pub returns-then-has_plain_word-clause-item : goal.returns-then-has_plain_word-clause-item
returns-then-has_plain_word-clause-item c =
    let u = c.args.self.now.parser.now in
    takes_normal _ u c.take_word.result c.take_word.new.self (ap stage_of c.requires)
    (ap (λ (t : Tail). pending_in u.short_equals t) c.in_default.ensures.value) (c.has_plain_word.ensures.0 c.if-has_plain_word.true) c.take_word.ensures

pub returns-clause-item : goal.returns-clause-item
returns-clause-item c =
    let u = c.args.self.now.parser.now in
    stops_there _ u (ap stage_of c.requires)
    (ap (λ (t : Tail). pending_in u.short_equals t) c.in_default.ensures.value) (λ normal. true≢false (sym (c.if-has_plain_word.ensures.1 normal)))
