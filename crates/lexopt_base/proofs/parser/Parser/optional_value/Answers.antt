use Rattle.std.proofs.Common.{refl}
use Rattle.lexopt_spec.specs.Steps.{optional_pending}
use Rattle.lexopt_base.proofs.parser.Parser.optional_value.Goals as goal

pub returns : goal.returns
returns c = let h = c.take_value.ensures in optional_pending c.take_value.result h.0 h.1 refl h.2
