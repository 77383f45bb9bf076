use Rattle.std.proofs.Common.{map, take}
use Rattle.lexopt_spec.specs.Runs.{Run}
use Rattle.lexopt_calls.specs.Replies.{call_view, reply_view}
use Rattle.lexopt_calls.proofs.replay.replay.Given as goal

abbrev pub invariant-loop-call : goal.invariant-loop-call
invariant-loop-call l = Run l.initial.parser (map call_view (take l.call-index l.calls)) (map reply_view l.replies.items) l.parser
