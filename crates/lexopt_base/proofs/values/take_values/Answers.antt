use Rattle.std.proofs.Common.{Some, [], ◌∷◌, ◌++◌, ◌+◌, refl, ◌∙◌, arith, add-one}
use Rattle.std.proofs.lemmas.Result.{IfOk-from_err}
use Rattle.lexopt_spec.proofs.ViewLemmas.{ValueItems-more, values_no_more}
use Rattle.lexopt_base.proofs.values.take_values.Goals.{else-loop-asked-test, then-loop-asked-test+in-None}
use Rattle.lexopt_base.proofs.values.take_values.Goals as goal

pub returns-in_err-push-in-Some-clause-items : goal.returns-in_err-push-in-Some-clause-items
returns-in_err-push-in-Some-clause-items c = (
  c.loop-asked._asked + 1,
  c.loop-asked.items.items ++ c.in-Some.value ∷ [],
  omega arith,
  rw add-one (ValueItems-more _ _ _ _ _ _ _ _ (Some c.in-Some.value) c.loop-asked.invariant.1 c.in-Some.ensures.steps.1),
  IfOk-from_err c.from_residual.result _ c.from_residual.ensures.0,
)

pub loop-asked-preserved : goal.loop-asked-preserved
loop-asked-preserved c = (
  c.in-Some.ensures.steps.0 ∙ c.loop-asked.invariant.0,
  rw (add-one, c.in_ok-push-in-Some.ensures.items) (ValueItems-more _ _ _ _ _ _ _ _ (Some c.in-Some.value) c.loop-asked.invariant.1 c.in-Some.ensures.steps.1),
)

pub returns-clause-items : goal.returns-clause-items
returns-clause-items c = elim c.loop-asked-test.branch [
  | else-loop-asked-test w ↦ (c.loop-asked._asked, c.loop-asked.items.items, omega arith, rw w.view-is c.loop-asked.invariant.1, (omega arith, refl))
  | then-loop-asked-test+in-None w ↦ (
    c.args.count,
    c.loop-asked.items.items,
    omega arith,
    rw w.view-is (values_no_more _ _ _ _ _ _ _ _ _ (omega arith) c.loop-asked.invariant.1 w.in-None.ensures.steps.1),
    (refl, refl),
  )
]
