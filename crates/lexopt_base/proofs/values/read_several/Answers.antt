use Rattle.std.proofs.Common.{arith, subst, sym, ◌<◌, rules, length, List, ℕ, inr}
use Rattle.lexopt_spec.specs.UnreadLine.{UnreadLine}
use Rattle.lexopt_spec.specs.Steps.{items}
use Rattle.lexopt_spec.specs.Runs.{Step, values}
use Rattle.lexopt_base.proofs.Refusals.{err_told, handed_on}
use Rattle.lexopt_base.proofs.ValueCalls.{values_made}
use Rattle.lexopt_base.proofs.values.read_several.Goals as goal

pub returns-clause-ok : goal.returns-clause-ok
returns-clause-ok c =
    let h = c.in_ok-take_values.ensures.items in
    let came = c.in_ok-take_values.field-0 in
    let view = c.in_ok-view.ensures.view in
    let made = values_made h.0 c.args.parser.now c.in_ok-view.view.parser.now _ _ _ h.1 view.3 view.1 view.2 h.3 in
    let small = came.small in
    let within = came.ok in
    let all = h.4.0 in (
      h.0,
      (let few : length came.items < h.0 = omega arith in few),
      subst (λ (l : UnreadLine). Step (values h.0) c.args.parser.now (items came.items) l) (search rules)
          (subst (λ (l : List (List ℕ)). Step (values h.0) c.args.parser.now (items l) c.take_values.new.view.parser.now) (sym h.4.1) made),
    )

pub returns-in_err-view-clause-err : goal.returns-in_err-view-clause-err
returns-in_err-view-clause-err c =
    let told = err_told c.begin_values.result c.in_err-view.field-0.0 _ c.in_err-view.was c.begin_values.follows.holds-at-none in
    handed_on c.from_residual.result c.in_err-view.field-0.0 _ c.from_residual.ensures.1 (inr (1, told 1))
