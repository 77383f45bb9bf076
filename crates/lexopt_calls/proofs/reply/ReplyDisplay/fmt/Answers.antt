use Rattle.std.proofs.Common.{arith}
use Rattle.std.proofs.lemmas.Grind.{common_steps}
use Rattle.lexopt_calls.proofs.reply.ReplyDisplay.fmt.Goals as goal

pub returns-in_ok-write_str-in-Missing-clause-writes : goal.returns-in_ok-write_str-in-Missing-clause-writes
returns-in_ok-write_str-in-Missing-clause-writes g c = grind (arith, common_steps)
