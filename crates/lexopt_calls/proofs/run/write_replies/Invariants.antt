use Rattle.std.proofs.Common.{◌≡◌, ◌++◌, take, map, string_bytes}
use Rattle.lexopt_calls.specs.Replies.{reply_view}
use Rattle.lexopt_calls.specs.Performed.{replies_text}
use Rattle.lexopt_calls.proofs.run.write_replies.Given as goal

abbrev pub invariant-loop-reply : goal.invariant-loop-reply
invariant-loop-reply l = string_bytes l.text ≡ string_bytes l.fn.text ++ replies_text (map reply_view (take l.reply-index l.replies))
