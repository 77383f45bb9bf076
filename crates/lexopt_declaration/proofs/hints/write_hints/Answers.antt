use Rattle.lexopt_declaration.proofs.Common.{arith, common_steps, has_written_of_eq}
use Rattle.lexopt_declaration.proofs.Hinted.{several_text}
use Rattle.lexopt_declaration.proofs.hints.write_hints.Goals as goal

pub returns-in_ok-write_names-in_default : goal.returns-in_ok-write_names-in_default
returns-in_ok-write_names-in_default g c = λ plain ok.
    has_written_of_eq _ _ _ _ _ (several_text c.args.dashes.now c.args.names.now c.in_default.len_at_least) (grind (arith, common_steps))
