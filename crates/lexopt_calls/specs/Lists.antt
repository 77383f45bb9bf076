-- The clauses of `replay` for a list of calls: the relations of the grammar, for calls and replies
-- of Rust.
use Rattle.std.specs.Prelude.{◌≡◌, ◌+◌, ◌++◌, ◌≤◌, List, map}
use Rattle.std.specs.List.{flat_map}
use Rattle.lexopt_spec.specs.Account.{Segment, bytes_of, flat, bytes_handed_out, shown_of}
use Rattle.lexopt_spec.specs.Runs as runs
use Rattle.lexopt_spec.specs.UnreadLine.{UnreadLine}
use Rattle.lexopt_line_spec.specs.Bound.{bound, replies_count}
use Rattle.lexopt_line_spec.specs.Clusters.{ReadsPieces}
use Rattle.lexopt_calls.specs.Replies.{call_view, reply_view}
use Rattle.lexopt_calls.specs.declared.reply.Call.{Call}
use Rattle.lexopt_calls.specs.declared.reply.Reply.{Reply}

-- the calls, made in order, have these replies and leave this line
abbrev pub Replays : UnreadLine → List Call → List Reply → UnreadLine → Type 0
Replays u calls replies v = runs.Run u (map call_view calls) (map reply_view replies) v

-- some prefix of the calls was made, and perhaps part of the next call, and they leave this line
abbrev pub ReplaysPart : UnreadLine → List Call → UnreadLine → Type 0
ReplaysPart u calls v = runs.Part u (map call_view calls) v

-- Each byte of the line is in one segment that the calls read, or is unread, in order. The replies
-- have the bytes that the segments show.
abbrev pub AccountsForBytes : UnreadLine → List Call → List Reply → UnreadLine → Type 0
AccountsForBytes u calls replies v = (segments : List Segment)
    × runs.AccountedRun u (map call_view calls) (map reply_view replies) segments v
    × (flat u ≡ bytes_of segments ++ flat v)
    × (flat_map bytes_handed_out (map reply_view replies) ≡ shown_of segments)

-- if the line begins with a cluster in which no `=` can join a value, and the calls are one `next`
-- for each piece, the replies are its lossy characters
abbrev pub ReplaysPieces : UnreadLine → List Call → List Reply → UnreadLine → Type 0
ReplaysPieces u calls replies v =
    ReadsPieces u (map call_view calls) (map reply_view replies) v

-- The replies have at most as many options, positionals, values and words as the bound of the line
-- at the start, less its bound at the end.
abbrev pub KeepsBound : UnreadLine → List Reply → UnreadLine → Type 0
KeepsBound u replies v = replies_count (map reply_view replies) + bound v ≤ bound u
