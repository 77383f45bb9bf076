use Rattle.std.proofs.Common.{append_assoc, arith}
use Rattle.std.proofs.lemmas.Grind.{common_steps}
use Rattle.lexopt_declaration.proofs.help.push_usage_line.Goals as goal

pub returns : goal.returns
returns c = grind (arith, common_steps, append_assoc)
