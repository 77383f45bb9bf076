use Rattle.std.proofs.Common.{◌≤◌, ◌<◌, ◌++◌, length, take, refl, inr, arith}
use Rattle.std.proofs.lemmas.Grind.{common_steps}
use Rattle.lexopt_calls.specs.Script.{most_bytes}
use Rattle.lexopt_calls.specs.Output.{read_room}
use Rattle.lexopt_calls.proofs.InARow.{consumes_more, consumes_append}
use Rattle.lexopt_calls.proofs.script.read_script.Goals as goal

pub returns-in_err-extend_from_slice-in-Ok-clause-bounded : goal.returns-in_err-extend_from_slice-in-Ok-clause-bounded
returns-in_err-extend_from_slice-in-Ok-clause-bounded g c =
    let few : length (take c.in-Ok.count c.read.new.buf) ≤ read_room = grind (arith, common_steps) in
    consumes_more _ _ _ _ _ _ _ c.loop-script.invariant.0 c.in-Ok.ensures.bytes.0 c.loop-script.invariant.1 few

pub returns-then-len-gt-LIMIT-clause-bounded : goal.returns-then-len-gt-LIMIT-clause-bounded
returns-then-len-gt-LIMIT-clause-bounded g c =
    let few : length (take c.in-Ok.count c.read.new.buf) ≤ read_room = grind (arith, common_steps) in
    consumes_more _ _ _ _ _ _ _ c.loop-script.invariant.0 c.in-Ok.ensures.bytes.0 c.loop-script.invariant.1 few

pub returns-then-len-gt-LIMIT-clause-err : goal.returns-then-len-gt-LIMIT-clause-err
returns-then-len-gt-LIMIT-clause-err g c =
    let all = c.loop-script.script.items ++ take c.in-Ok.count c.read.new.buf in
    let many : most_bytes < length all = grind (arith, common_steps) in
    inr (inr (refl, (all, consumes_append _ _ _ _ _ c.loop-script.invariant.0 c.in-Ok.ensures.bytes.0, many)))

pub loop-script-preserved : goal.loop-script-preserved
loop-script-preserved g c = grind (arith, common_steps)
