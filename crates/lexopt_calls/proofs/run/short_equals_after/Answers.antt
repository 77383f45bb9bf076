use Rattle.std.proofs.Common.{arith}
use Rattle.std.proofs.lemmas.Grind.{common_steps}
use Rattle.lexopt_calls.proofs.run.short_equals_after.Goals as goal

pub loop-call-preserved : goal.loop-call-preserved
loop-call-preserved c = grind (arith, common_steps)
