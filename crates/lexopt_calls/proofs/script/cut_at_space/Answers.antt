use Rattle.std.proofs.Common.{Some, ap, ◌∙◌}
use Rattle.lexopt_spec.proofs.PieceSteps.{rest_is}
use Rattle.lexopt_calls.proofs.Cuts.{cut_at, uncut}
use Rattle.lexopt_calls.proofs.script.cut_at_space.Goals as goal

pub returns-in-Some : goal.returns-in-Some
returns-in-Some c =
    let found = c.in-Some.ensures in
    let parts = cut_at c.args.line.now c.in-Some.space found.0.high found.0.before found.1 in
    (parts.0, ap Some (rest_is c.args.line.now _) ∙ parts.1)

pub returns-in-None : goal.returns-in-None
returns-in-None c = uncut c.args.line.now c.in-None.ensures
