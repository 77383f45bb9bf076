use Rattle.std.proofs.Common.{ap, ◌∙◌}
use Rattle.lexopt_spec.specs.Pieces.{shown}
use Rattle.lexopt_base.proofs.States.{short_read_on, short_read_out}
use Rattle.lexopt_base.proofs.parser.read_short.Goals as goal
use Rattle.lexopt_base.proofs.parser.read_short.Goals.{then-position-word, else-position-word}

pub returns : goal.returns
returns c =
    let word = c.args.word.now in let at = c.args.position in
    let piece = c.codepoint_at-piece.ensures in
    let shows = c.shown.ensures ∙ ap shown piece.character in
    let size = c.size.ensures ∙ piece.size in
    elim c.if-position-word.branch [
      | then-position-word w ↦ rw w.state-is (short_read_on word at c.size.result c.shown.result shows size w.if-position-word.true)
      | else-position-word w ↦ rw w.state-is (short_read_out word at c.size.result c.shown.result shows size w.if-position-word.false)
    ]
