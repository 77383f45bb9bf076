-- Lists of calls on one line: one reply for each call, the account of bytes, and the part of a list
-- that was made before memory ran out. The source is `docs/behaviour.md`.
use Rattle.std.specs.Prelude.{◌≡◌, ◌⊎◌, ℕ, Bool, List, [], ◌∷◌, ◌++◌, min}
use Rattle.std.proofs.Common.{inl, inr}
use Rattle.lexopt_spec.specs.UnreadLine.{UnreadLine}
use Rattle.lexopt_spec.specs.Steps.{Reply, NextStep, ValueStep, OptionalStep, SetsShortEquals}
use Rattle.lexopt_spec.specs.Steps.{Answers}
use Rattle.lexopt_spec.specs.Account.{Segment, handing, handed_items, next_account}
use Rattle.lexopt_spec.specs.Views.{ValuesStep, RawStep, TakesWords, TakesWordIf, TryRawStep}

pub data Call : Type 0 where
  next : Call
  value : Call
  optional : Call
  -- a call of a view, and the number of items that are asked of it
  values : ℕ → Call
  raw : ℕ → Call
  try_raw : ℕ → Call
  -- `raw_args`, and then the next word if it is this one
  raw_if : List ℕ → Call
  set_short_equals : Bool → Call

-- with enough memory, a call at the line gives this reply, and leaves the second line
abbrev pub StepWithMemory : Call → UnreadLine → Reply → UnreadLine → Type 0
StepWithMemory next = NextStep
StepWithMemory value = ValueStep
StepWithMemory optional = OptionalStep
StepWithMemory (values n) = ValuesStep n
StepWithMemory (raw n) = RawStep (TakesWords n)
StepWithMemory (try_raw n) = TryRawStep n
StepWithMemory (raw_if word) = RawStep (TakesWordIf word)
StepWithMemory (set_short_equals on) = SetsShortEquals on

-- a call at the line gives this reply, and leaves the second line
abbrev pub Step : Call → UnreadLine → Reply → UnreadLine → Type 0
Step call u reply after = Answers (StepWithMemory call) u reply after

-- one reply for each call, in order
abbrev pub Run : UnreadLine → List Call → List Reply → UnreadLine → Type 0
Run u [] [] after = after ≡ u
Run u [] (reply ∷ replies) after = ⊥
Run u (call ∷ calls) [] after = ⊥
Run u (call ∷ calls) (reply ∷ replies) after = (between : UnreadLine) × Step call u reply between
    × Run between calls replies after

-- `short_equals` after a call
abbrev pub short_equals_after : Bool → Call → Bool
short_equals_after on (set_short_equals now) = now
short_equals_after on c = on

-- ---- the account of bytes

-- the segments that a call reads; every call except `next` takes only items
abbrev pub account_with_memory : (call : Call) (u : UnreadLine) (reply : Reply) (after : UnreadLine)
    → StepWithMemory call u reply after → List Segment
account_with_memory next u reply after step = next_account u reply after step
account_with_memory value u reply after step = handing u (handed_items reply)
account_with_memory optional u reply after step = handing u (handed_items reply)
account_with_memory (values n) u reply after step = handing u (handed_items reply)
account_with_memory (raw n) u reply after step = handing u (handed_items reply)
account_with_memory (try_raw n) u reply after step = handing u (handed_items reply)
account_with_memory (raw_if word) u reply after step = handing u (handed_items reply)
account_with_memory (set_short_equals on) u reply after step = []

abbrev pub account : (call : Call) (u : UnreadLine) (reply : Reply) (after : UnreadLine)
    → Step call u reply after → List Segment
account call u reply after (inl step) = account_with_memory call u reply after step
account call u reply after (inr refused) = []

-- the segments of a list of calls, in order
abbrev pub segments : (u : UnreadLine) (calls : List Call) (replies : List Reply)
    (after : UnreadLine) → Run u calls replies after → List Segment
segments u [] [] after run = []
segments u [] (reply ∷ replies) after run = []
segments u (call ∷ calls) [] after run = []
segments u (call ∷ calls) (reply ∷ replies) after run =
    account call u reply run.0 run.1 ++ segments run.0 calls replies after run.2

-- a run, and its segments
abbrev pub AccountedRun : UnreadLine → List Call → List Reply → List Segment → UnreadLine → Type 0
AccountedRun u calls replies account_of after = (run : Run u calls replies after)
    × (account_of ≡ segments u calls replies after run)

-- ---- the part of a list that was made

-- the call, limited to at most `m` items
abbrev pub up_to : ℕ → Call → Call
up_to m next = next
up_to m value = value
up_to m optional = optional
up_to m (values n) = values (min m n)
up_to m (raw n) = raw (min m n)
up_to m (try_raw n) = try_raw (min m n)
up_to m (raw_if word) = raw_if word
up_to m (set_short_equals on) = set_short_equals on

-- some prefix of the calls was made, and then perhaps the next call, with some of its items
abbrev pub Part : UnreadLine → List Call → UnreadLine → Type 0
Part u [] after = after ≡ u
Part u (call ∷ calls) after =
    (after ≡ u)
    ⊎ (((m : ℕ) × (reply : Reply) × Step (up_to m call) u reply after)
    ⊎ ((between : UnreadLine) × (reply : Reply) × Step call u reply between
    × Part between calls after))
