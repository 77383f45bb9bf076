use Rattle.std.proofs.Common.{◌≡◌, ◌++◌, length}
use Rattle.std.specs.Option.{option_map}
use Rattle.lexopt_calls.specs.Script.{unescaped}
use Rattle.lexopt_calls.proofs.script.unescaped.Given as goal

abbrev pub invariant-loop-first : goal.invariant-loop-first
invariant-loop-first l = option_map (λ more. l.bytes.items ++ more) (unescaped l.rest) ≡ unescaped l.fn.text

abbrev pub decreases-loop-first : goal.decreases-loop-first
decreases-loop-first l = length l.rest
