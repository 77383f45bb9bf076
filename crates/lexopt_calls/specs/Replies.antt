-- The types `Call` and `Reply` as contracts see them, and the word that `RawIf` takes.
use Rattle.std.specs.Prelude.{◌≡◌, ℕ, List, ◌∷◌, Option, Some, None}
use Rattle.std.specs.Prelude.{option_map, string_bytes}
use Rattle.lexopt_spec.specs.UnreadLine.{UnreadLine}
use Rattle.lexopt_spec.specs.Views.{WordItem}
use Rattle.lexopt_spec.specs.Runs as runs
use Rattle.lexopt_spec.specs.Steps as steps
use Rattle.lexopt_calls.specs.declared.reply.Call.{Call}
use Rattle.lexopt_calls.specs.declared.reply.Call.TheVariants.{Next, Value, Optional, Values, Raw}
use Rattle.lexopt_calls.specs.declared.reply.Call.TheVariants.{TryRaw, RawIf, Switch}
use Rattle.lexopt_calls.specs.declared.reply.Reply.{Reply}
use Rattle.lexopt_calls.specs.declared.reply.Reply.TheVariants.{Short, LongName, Positional, End}
use Rattle.lexopt_calls.specs.declared.reply.Reply.TheVariants.{Taken, Maybe, Items, Busy, Done}
use Rattle.lexopt_calls.specs.declared.reply.Reply.TheVariants.{Missing, Unexpected, NoMemory}

abbrev pub call_view : Call → runs.Call
call_view Next = runs.next
call_view Value = runs.value
call_view Optional = runs.optional
call_view (Values n) = runs.values n
call_view (Raw n) = runs.raw n
call_view (TryRaw n) = runs.try_raw n
call_view (RawIf word) = runs.raw_if word
call_view (Switch on) = runs.set_short_equals on

abbrev pub reply_view : Reply → steps.Reply
reply_view (Short c) = steps.short c
reply_view (LongName name) = steps.long (string_bytes name)
reply_view (Positional word) = steps.positional word
reply_view End = steps.end
reply_view (Taken word) = steps.taken word
reply_view (Maybe word) = steps.maybe word
reply_view (Items words) = steps.items words.items
reply_view Busy = steps.busy
reply_view Done = steps.done
reply_view (Missing option) = steps.missing (option_map string_bytes option)
reply_view (Unexpected option word) = steps.unexpected (string_bytes option) word
reply_view NoMemory = steps.no_memory

-- the next word is taken if and only if it is this one
abbrev pub TakesThis : List ℕ → UnreadLine → Option (List ℕ) → UnreadLine → Type 0
TakesThis wanted u None after = (after ≡ u)
    × ((others : List (List ℕ)) → u.words ≡ wanted ∷ others → ⊥)
TakesThis wanted u (Some word) after = (word ≡ wanted) × WordItem u (Some word) after
