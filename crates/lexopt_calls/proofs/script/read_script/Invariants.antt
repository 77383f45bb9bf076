use Rattle.std.proofs.Common.{◌+◌, ◌-◌, ◌≤◌, length}
use Rattle.std.specs.Io.KnownBytes.{Consumes}
use Rattle.lexopt_calls.specs.Script.{most_bytes}
use Rattle.lexopt_calls.proofs.script.read_script.Given as goal

abbrev pub invariant-loop-script : goal.invariant-loop-script
invariant-loop-script g l =
    Consumes (g.R.Read.remaining l.fn.reader) (g.R.Read.remaining l.reader) l.script.items
    × (length l.script.items ≤ most_bytes)

abbrev pub decreases-loop-script : goal.decreases-loop-script
decreases-loop-script g l = most_bytes + 1 - length l.script.items
