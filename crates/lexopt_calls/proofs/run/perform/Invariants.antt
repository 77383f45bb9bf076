use Rattle.std.proofs.Common.{flat_map, take, string_bytes}
use Rattle.lexopt_calls.specs.Meanings.{calls_and_line}
use Rattle.lexopt_calls.proofs.Performing.{Done}
use Rattle.lexopt_calls.proofs.run.perform.Given as goal

abbrev pub invariant-loop-calls : goal.invariant-loop-calls
invariant-loop-calls l = Done l.script (flat_map calls_and_line (take l.calls-index l.script.calls_before.items)) l.parser l.on (string_bytes l.text)
