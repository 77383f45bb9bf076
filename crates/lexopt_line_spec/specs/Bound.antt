-- The bound of a line, which limits the number of replies, and the replies of `next` among others.
-- The source is `docs/behaviour.md`.
use Rattle.std.specs.Prelude.{ℕ, ◌+◌, ◌-◌, max, List, [], ◌∷◌, length}
use Rattle.std.specs.List.{sum_by}
use Rattle.lexopt_spec.specs.UnreadLine.{Tail, no_tail, joined, rest, UnreadLine}
use Rattle.lexopt_spec.specs.Steps.{Reply, short, long, no_memory}
use Rattle.lexopt_spec.specs.Runs.{Call, next}
use Rattle.lexopt_spec.specs.Account.{handed_items}

-- a word gives at most one option for each byte after its dash, or itself
abbrev pub word_bound : List ℕ → ℕ
word_bound word = max 1 (length word - 1)

abbrev pub tail_bound : Tail → ℕ
tail_bound no_tail = 0
tail_bound (joined value) = 1
tail_bound (rest bytes) = length bytes

abbrev pub bound : UnreadLine → ℕ
bound u = sum_by word_bound u.words + tail_bound u.tail

-- the number of options, positionals, values and words of a reply
abbrev pub reply_count : Reply → ℕ
reply_count (short c) = 1
reply_count (long name) = 1
reply_count reply = length (handed_items reply)

abbrev pub replies_count : List Reply → ℕ
replies_count replies = sum_by reply_count replies

-- the replies to the calls of `next` among these, in order, without those that ran out of memory
abbrev pub next_replies : List Call → List Reply → List Reply
next_replies [] replies = []
next_replies (call ∷ calls) [] = []
next_replies (next ∷ calls) (no_memory ∷ replies) = next_replies calls replies
next_replies (next ∷ calls) (reply ∷ replies) = reply ∷ next_replies calls replies
next_replies (call ∷ calls) (reply ∷ replies) = next_replies calls replies
