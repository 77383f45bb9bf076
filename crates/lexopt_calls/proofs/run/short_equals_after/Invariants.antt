use Rattle.std.proofs.Common.{◌≡◌, take, map, fold}
use Rattle.lexopt_spec.specs.Runs.{short_equals_after}
use Rattle.lexopt_calls.specs.Replies.{call_view}
use Rattle.lexopt_calls.proofs.run.short_equals_after.Given as goal

abbrev pub invariant-loop-call : goal.invariant-loop-call
invariant-loop-call l = l.now ≡ fold short_equals_after l.on (map call_view (take l.call-index l.calls))
