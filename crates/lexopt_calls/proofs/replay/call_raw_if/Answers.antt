use Rattle.std.proofs.Common.{rules, subst}
use Rattle.lexopt_spec.specs.UnreadLine.{UnreadLine}
use Rattle.lexopt_spec.specs.Steps.{maybe}
use Rattle.lexopt_spec.specs.Runs.{Step, raw_if}
use Rattle.lexopt_base.specs.Replies.{error_reply}
use Rattle.lexopt_base.proofs.Refusals.{err_told}
use Rattle.lexopt_calls.proofs.StepReplies.{refusal_given, some_reply}
use Rattle.lexopt_calls.proofs.Views.{raw_if_made}
use Rattle.lexopt_calls.proofs.replay.call_raw_if.Goals as goal

pub returns-in-Ok : goal.returns-in-Ok
returns-in-Ok c =
    subst (λ (l : UnreadLine). Step (raw_if c.args.wanted.now) c.args.parser.now (maybe c.take_if.result) l) (search rules)
    (raw_if_made c.args.wanted.now c.args.parser.now c.in-Ok.view.parser.now _ c.take_if.result c.in-Ok.ensures.view.2 c.in-Ok.ensures.view.1 c.take_if.ensures.taken)

pub reply_of-requires : goal.reply_of-requires
reply_of-requires c =
    let told = err_told c.raw_args.result c.in-Err.error _ c.in-Err.is c.raw_args.follows.holds-at-none in
    some_reply (Step (raw_if c.args.wanted.now)) c.args.parser.now (error_reply c.in-Err.error) _ (told.1 c.args.wanted.now)

pub returns-in-Err : goal.returns-in-Err
returns-in-Err c =
    let told = err_told c.raw_args.result c.in-Err.error _ c.in-Err.is c.raw_args.follows.holds-at-none in
    refusal_given (Step (raw_if c.args.wanted.now)) c.args.parser.now (error_reply c.in-Err.error) _ _ (told.1 c.args.wanted.now) c.reply_of.ensures

pub take_if-requires-clause-exact : goal.take_if-requires-clause-exact
take_if-requires-clause-exact c = search rules
