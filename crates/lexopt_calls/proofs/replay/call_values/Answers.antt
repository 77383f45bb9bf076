use Rattle.std.proofs.Common.{arith, rules, ap, refl, subst}
use Rattle.std.proofs.lemmas.Result.{IfOk-from_err}
use Rattle.lexopt_spec.specs.UnreadLine.{UnreadLine}
use Rattle.lexopt_spec.specs.Steps.{items}
use Rattle.lexopt_spec.specs.Runs.{Step, values}
use Rattle.lexopt_base.specs.Replies.{error_reply}
use Rattle.lexopt_calls.specs.Replies.{reply_view}
use Rattle.lexopt_base.proofs.Refusals.{err_told}
use Rattle.lexopt_calls.proofs.StepReplies.{refusal_given, some_reply}
use Rattle.lexopt_base.proofs.ValueCalls.{values_made}
use Rattle.lexopt_calls.proofs.replay.call_values.Goals as goal

pub returns-in_err-take_values-in-Ok : goal.returns-in_err-take_values-in-Ok
returns-in_err-take_values-in-Ok c =
    let h = c.in_err-take_values-in-Ok.ensures.items in
    let made = values_made h.0 c.args.parser.now c.in-Ok.view.parser.now _ _ _ h.1 c.in-Ok.ensures.view.3 c.in-Ok.ensures.view.1 c.in-Ok.ensures.view.2 h.3 in (
      h.0,
      items h.1,
      h.2,
      subst (λ (l : UnreadLine). Step (values h.0) c.args.parser.now (items h.1) l) (search rules) made,
      IfOk-from_err c.from_residual.result _ c.from_residual.ensures.0,
    )

pub returns-in_ok-take_values-in-Ok : goal.returns-in_ok-take_values-in-Ok
returns-in_ok-take_values-in-Ok c =
    let h = c.in_ok-take_values-in-Ok.ensures.items in
    let made = values_made h.0 c.args.parser.now c.in-Ok.view.parser.now _ _ _ h.1 c.in-Ok.ensures.view.3 c.in-Ok.ensures.view.1 c.in-Ok.ensures.view.2 h.3 in (
      h.0,
      items h.1,
      h.2,
      subst (λ (l : UnreadLine). Step (values h.0) c.args.parser.now (items h.1) l) (search rules) made,
      (h.4.0, ap items h.4.1),
    )

pub reply_of-requires : goal.reply_of-requires
reply_of-requires c =
    let told = err_told c.values.result c.in-Err.error _ c.in-Err.is c.values.follows.holds-at-none in
    some_reply (Step (values c.args.count)) c.args.parser.now (error_reply c.in-Err.error) _ (told c.args.count)

pub returns-in-Err : goal.returns-in-Err
returns-in-Err c =
    let told = err_told c.values.result c.in-Err.error _ c.in-Err.is c.values.follows.holds-at-none in (
      c.args.count,
      reply_view c.reply_of.result,
      omega arith,
      refusal_given (Step (values c.args.count)) c.args.parser.now (error_reply c.in-Err.error) _ _ (told c.args.count) c.reply_of.ensures,
      (refl, refl),
    )
