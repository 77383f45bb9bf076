use Rattle.std.proofs.Common.{List, arith, map, get_or, refl, sym, ap, subst, ◌∙◌}
use Rattle.std.proofs.lemmas.List.{map-append, take_all, take_more}
use Rattle.lexopt_spec.specs.Steps.{Reply}
use Rattle.lexopt_spec.specs.Runs as runs
use Rattle.lexopt_spec.specs.Runs.{Run, Step, segments, up_to}
use Rattle.lexopt_line_spec.proofs.Bounds.{run_bound}
use Rattle.lexopt_line_spec.proofs.Clusters.{cluster_read}
use Rattle.lexopt_line_spec.proofs.Parts.{part_suffix}
use Rattle.lexopt_line_spec.proofs.RunAccounts.{run_keeps, run_shown, run_suffix}
use Rattle.lexopt_calls.proofs.RunLemmas.{Run-more}
use Rattle.lexopt_calls.specs.Replies.{call_view, reply_view}
use Rattle.lexopt_calls.proofs.Parts.{on_err, part_made}
use Rattle.lexopt_calls.proofs.replay.replay.Goals as goal

pub loop-call-preserved : goal.loop-call-preserved
loop-call-preserved c =
    let h = c.in_ok-reply.ensures in
    let call = c.call-item.result in
    let here = get_or c.args.calls.now c.loop-call.call-index call in
    let taken = take_more c.args.calls.now c.loop-call.call-index call c.loop-call-test.true in
    let step = subst (λ (it : runs.Call). Step it c.loop-call.parser h.1 c.reply_to.new.parser) (h.3.0 ∙ ap call_view c.call-item.is) h.2 in
    rw (c.in_ok-push.ensures.items, map-append, taken, map-append)
    (Run-more _ _ _ _ _ (call_view here) (reply_view c.in_ok-reply.reply) c.loop-call.invariant
    (subst (λ (r : Reply). Step (call_view here) c.loop-call.parser r c.reply_to.new.parser) (sym h.3.1) step))

pub returns-in_err-reply-clause-part : goal.returns-in_err-reply-clause-part
returns-in_err-reply-clause-part c =
    let h = c.reply_to.ensures in
    on_err c.from_residual.result (part_made _ _ _ c.args.calls.now c.loop-call.call-index h.0 _ _ h.1 c.call-item.is c.loop-call-test.true c.loop-call.invariant h.2)

pub returns-in_err-reply-clause-words_left : goal.returns-in_err-reply-clause-words_left
returns-in_err-reply-clause-words_left c =
    let h = c.reply_to.ensures in
    part_suffix _ _ _ (part_made _ _ _ c.args.calls.now c.loop-call.call-index h.0 _ _ h.1 c.call-item.is c.loop-call-test.true c.loop-call.invariant h.2)

pub returns-in_err-push-clause-part : goal.returns-in_err-push-clause-part
returns-in_err-push-clause-part c =
    let h = c.in_ok-reply.ensures in
    on_err c.from_residual-in_err-push.result (part_made _ _ _ c.args.calls.now c.loop-call.call-index h.0 _ _ h.1 c.call-item.is c.loop-call-test.true c.loop-call.invariant h.2)

pub returns-in_err-push-clause-words_left : goal.returns-in_err-push-clause-words_left
returns-in_err-push-clause-words_left c =
    let h = c.in_ok-reply.ensures in
    part_suffix _ _ _ (part_made _ _ _ c.args.calls.now c.loop-call.call-index h.0 _ _ h.1 c.call-item.is c.loop-call-test.true c.loop-call.invariant h.2)

pub returns-clause-run : goal.returns-clause-run
returns-clause-run c =
    subst (λ calls. Run c.args.parser.now (map call_view calls) (map reply_view c.loop-call.replies.items) c.loop-call.parser)
    (take_all c.loop-call.call-index c.args.calls.now (grind arith)) c.loop-call.invariant

pub returns-clause-account : goal.returns-clause-account
returns-clause-account c =
    let run = returns-clause-run c in
    let u = c.args.parser.now in
    let calls = map call_view c.args.calls.now in
    let replies = map reply_view c.loop-call.replies.items in
    (segments u calls replies c.loop-call.parser run, (run, refl), run_keeps u calls replies c.loop-call.parser run, run_shown u calls replies c.loop-call.parser run)

pub returns-clause-words_left : goal.returns-clause-words_left
returns-clause-words_left c =
    run_suffix c.args.parser.now (map call_view c.args.calls.now) (map reply_view c.loop-call.replies.items) c.loop-call.parser (returns-clause-run c)

pub returns-clause-pieces : goal.returns-clause-pieces
returns-clause-pieces c =
    let run = returns-clause-run c in
    λ b bs words none open_line is other free calls_are.
    cluster_read c.args.parser.now c.loop-call.parser b bs words (map reply_view c.loop-call.replies.items) none open_line is other free
    (subst (λ (calls : List runs.Call). Run c.args.parser.now calls (map reply_view c.loop-call.replies.items) c.loop-call.parser) calls_are run)

pub returns-clause-bounded : goal.returns-clause-bounded
returns-clause-bounded c =
    run_bound c.args.parser.now (map call_view c.args.calls.now) (map reply_view c.loop-call.replies.items) c.loop-call.parser (returns-clause-run c)
