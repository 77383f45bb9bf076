-- The meaning of a line, and the commands of a script, as contracts see them.
use Rattle.std.specs.Prelude.{◌≡◌, ℕ, List, [], ◌∷◌, ◌++◌, map, Option, Some, None, Vec}
use Rattle.std.specs.Prelude.{string_bytes}
use Rattle.std.specs.Global.{Global}
use Rattle.std.specs.List.{flat_map}
use Rattle.std.specs.Option.{option_to_list}
use Rattle.std.specs.Borrow.{Bor}
use Rattle.lexopt_calls.specs.Script as script
use Rattle.lexopt_line_spec.specs.Table as spec
use Rattle.lexopt_calls.specs.declared.reply.Call.{Call}
use Rattle.lexopt_calls.specs.Replies.{call_view}
use Rattle.lexopt_items.specs.Items.{table_view}
use Rattle.lexopt_calls.specs.declared.script.Script.{Script}
use Rattle.lexopt_calls.specs.declared.script.Name.{Name}
use Rattle.lexopt_calls.specs.declared.script.Name.TheVariants.{Short, Long}
use Rattle.lexopt_calls.specs.declared.script.Entry.{Entry}
use Rattle.lexopt_calls.specs.declared.script.Entry.TheVariants.{One, Optional, Several}
use Rattle.lexopt_calls.specs.declared.script.Meaning.{Meaning}
use Rattle.lexopt_calls.specs.declared.script.Meaning.TheVariants as meanings

abbrev pub calls_view : List Call → List script.Command
calls_view calls = map script.call (map call_view calls)

-- these calls, and then the whole line
abbrev pub calls_and_line : Vec Call Global → List script.Command
calls_and_line calls = calls_view calls.items ++ script.whole_line ∷ []

-- the commands of a script: the calls before each whole line, and those after the last
abbrev pub commands_view : List (Vec Call Global) → List Call → List script.Command
commands_view calls_before last_calls =
    flat_map calls_and_line calls_before ++ calls_view last_calls

abbrev pub commands_in : Script → List script.Command
commands_in s = commands_view s.calls_before.items s.last_calls.items

abbrev pub name_view : Name → spec.Name
name_view (Short c) = spec.short c
name_view (Long name) = spec.long (string_bytes name)

abbrev pub entry_view : Entry → script.Entry
entry_view (One name) = record { kind = spec.one; name = name_view name }
entry_view (Optional name) = record { kind = spec.optional; name = name_view name }
entry_view (Several name) = record { kind = spec.several; name = name_view name }

abbrev pub text_view : Option (Bor (List ℕ)) → Option (List ℕ)
text_view None = None
text_view (Some text) = Some text.now

abbrev pub meaning_view : Meaning → script.Meaning
meaning_view meanings.Nothing = script.nothing
meaning_view (meanings.Word word) = script.word word
meaning_view (meanings.Entry entry) = script.entry (entry_view entry)
meaning_view (meanings.Call call) = script.command (script.call (call_view call))
meaning_view meanings.Items = script.command script.whole_line
meaning_view meanings.Bad = script.bad

-- adding the meaning of a line turns the first script into the second
abbrev pub Adds : script.Meaning → Script → Script → Type 0
Adds m old new = (new.words.items ≡ old.words.items ++ option_to_list (script.word_of m))
    × (table_view new.table
    ≡ script.table_with (table_view old.table) (option_to_list (script.entry_of m)))
    × (commands_in new ≡ commands_in old ++ option_to_list (script.command_of m))
