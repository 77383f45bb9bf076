use Rattle.std.proofs.Common.{ap, ◌∙◌}
use Rattle.lexopt_spec.specs.Pieces.{pieces}
use Rattle.lexopt_spec.proofs.PieceSteps.{pieces-nil, pieces-step}
use Rattle.lexopt_laws.proofs.laws.pieces_are_in_a_row.Goals as goal

pub returns-clause-none : goal.returns-clause-none
returns-clause-none c = λ none. ap pieces none ∙ pieces-nil

pub returns-clause-more : goal.returns-clause-more
returns-clause-more c = λ some. pieces-step c.args.bytes.now some
