-- The output of a script that has been read. No public clause cites this file.
use Rattle.std.specs.Prelude.{◌≡◌, ℕ, Bool, true, List, ◌++◌, map, fold, Result, Ok, Err, Vec}
use Rattle.std.specs.Prelude.{codes}
use Rattle.std.specs.Global.{Global}
use Rattle.std.specs.List.{filter_map, flat_map}
use Rattle.lexopt_spec.specs.UnreadLine.{UnreadLine, fresh}
use Rattle.lexopt_spec.specs.Steps.{Reply}
use Rattle.lexopt_spec.specs.Runs.{Call, Run}
use Rattle.lexopt_line_spec.specs.ItemText.{bracketed, item_text}
use Rattle.lexopt_calls.specs.Script.{call_of, with_newline}
use Rattle.lexopt_spec.specs.Runs.{short_equals_after}
use Rattle.lexopt_calls.specs.Script.{reply_text, Written}
use Rattle.lexopt_words.specs.Message.{message}
use Rattle.lexopt_words.specs.declared.error.Error.{Error}
use Rattle.lexopt_items.specs.declared.items.Item.{Item}
use Rattle.lexopt_items.specs.Items.{item_view, table_view}
use Rattle.lexopt_calls.specs.declared.script.Script.{Script}
use Rattle.lexopt_calls.specs.Meanings.{commands_in}

-- the text of a whole line: its items or its error
abbrev pub answer_text : Result (Vec Item Global) Error → List ℕ
answer_text (Ok items) = bracketed item_text (map item_view items.items)
answer_text (Err e) = codes "error: " ++ message e

-- a line for each of these replies
abbrev pub replies_text : List Reply → List ℕ
replies_text replies = flat_map (λ reply. with_newline (reply_text reply)) replies

-- the calls, made at this line, with this `short_equals` and after this text, leave the second
-- line, `short_equals` and text
abbrev pub MakesCalls : List Call → UnreadLine → Bool → List ℕ → UnreadLine → Bool → List ℕ → Type 0
MakesCalls calls u on text v now new =
    (replies : List Reply) × Run u calls replies v × (now ≡ fold short_equals_after on calls)
    × (new ≡ text ++ replies_text replies)

-- a line for each command, in order
pub record IsWritten (script : Script) (text : List ℕ) : Type 0 where
  pub replies : List Reply
  pub after : UnreadLine
  pub run : Run (fresh script.words.items) (filter_map call_of (commands_in script)) replies after
  pub written : Written (table_view script.table) script.words.items true (commands_in script)
      replies text
