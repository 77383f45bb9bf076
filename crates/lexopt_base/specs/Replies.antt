-- The results of a parser's calls, as replies of the grammar. `Replies` of `lexopt_calls` has the
-- replies of lists of calls.
use Rattle.std.specs.Prelude.{Option, Some, None, Result, Ok, Err, List, ℕ, string_bytes}
use Rattle.lexopt_spec.specs.UnreadLine.{UnreadLine}
use Rattle.lexopt_spec.specs.Steps.{Reply, short, long, positional, end, taken, missing, unexpected}
use Rattle.lexopt_spec.specs.Steps.{no_memory, Next}
use Rattle.lexopt_words.specs.declared.error.Arg.{Arg}
use Rattle.lexopt_words.specs.declared.error.Arg.TheVariants.{Short, Long, Value}
use Rattle.lexopt_words.specs.declared.error.Error.{Error}
use Rattle.lexopt_words.specs.declared.error.Error.TheVariants.{MissingValue, UnexpectedOption}
use Rattle.lexopt_words.specs.declared.error.Error.TheVariants.{UnexpectedArgument, UnexpectedValue}
use Rattle.lexopt_words.specs.declared.error.Error.TheVariants.{ParsingFailed, NonUnicodeValue}
use Rattle.lexopt_words.specs.declared.error.Error.TheVariants.{Custom, OutOfMemory}

-- the reply for an error; none if no call of a parser returns that error
abbrev pub error_reply : Error → Option Reply
error_reply (MissingValue None) = Some (missing None)
error_reply (MissingValue (Some option)) = Some (missing (Some (string_bytes option)))
error_reply (UnexpectedOption option) = None
error_reply (UnexpectedArgument value) = None
error_reply (UnexpectedValue option value) = Some (unexpected (string_bytes option) value)
error_reply (ParsingFailed value error) = None
error_reply (NonUnicodeValue value) = None
error_reply (Custom error) = None
error_reply OutOfMemory = Some no_memory

abbrev pub arg_reply : Option Arg → Reply
arg_reply None = end
arg_reply (Some (Short c)) = short c
arg_reply (Some (Long name)) = long name.now
arg_reply (Some (Value word)) = positional word

-- the reply for a result of `next`
abbrev pub next_reply : Result (Option Arg) Error → Option Reply
next_reply (Ok arg) = Some (arg_reply arg)
next_reply (Err e) = error_reply e

-- the reply for a result of `value`
abbrev pub value_reply : Result (List ℕ) Error → Option Reply
value_reply (Ok word) = Some (taken word)
value_reply (Err e) = error_reply e

-- by the relation `Answers`, a call at the line `u` gives this reply and leaves the line `after`
abbrev pub RepliesWith : (UnreadLine → Reply → UnreadLine → Type 0) → UnreadLine → Option Reply
    → UnreadLine → Type 0
RepliesWith Answers u None after = ⊥
RepliesWith Answers u (Some reply) after = Answers u reply after

-- `next` can give this reply at the line `u`
abbrev pub IsReplyOfNext : UnreadLine → Option Reply → Type 0
IsReplyOfNext u reply = (after : UnreadLine) × RepliesWith Next u reply after
