use Rattle.std.proofs.Common.{◌≡◌, length}
use Rattle.lexopt_calls.proofs.ScriptLemmas.{ReadsTo, called}
use Rattle.lexopt_items.specs.Items.{table_view}
use Rattle.lexopt_calls.specs.Meanings.{commands_in}
use Rattle.lexopt_calls.proofs.script.parse_script.Given as goal

abbrev pub invariant-loop-index : goal.invariant-loop-index
invariant-loop-index l =
    ReadsTo l.script (length l.yielded) l.read.words.items (table_view l.read.table) (commands_in l.read)
    × (l.is_read ≡ called (commands_in l.read))
