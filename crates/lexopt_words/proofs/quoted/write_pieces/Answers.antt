use Rattle.std.proofs.Common.{◌≡◌, ◌<◌, [], ◌++◌, length, flat_map, sym, ap, ◌∙◌, arith, rules, append-nil}
use Rattle.std.proofs.Output.{has_written_append, has_written_of_eq}
use Rattle.std.proofs.lemmas.Bool.Decides.{nat_tests}
use Rattle.std.proofs.lemmas.List.{nil_from_length}
use Rattle.lexopt_spec.specs.Pieces.{pieces}
use Rattle.lexopt_words.specs.Codepoint.{character_of}
use Rattle.lexopt_spec.proofs.PieceSteps.{pieces-nil}
use Rattle.lexopt_spec.specs.Text.{piece_as}
use Rattle.lexopt_words.specs.Forms.{form_of}
use Rattle.lexopt_words.proofs.QuotedPieces.{quoted_step}
use Rattle.lexopt_words.proofs.quoted.write_pieces.Goals as goal

pub loop-rest-preserved : goal.loop-rest-preserved
loop-rest-preserved g c = λ plain.
    let bs = c.loop-rest.rest.now in
    let now = c.loop-rest.invariant plain in
    let piece = c.first_codepoint-piece in
    let some : 0 < length bs = grind (arith, nat_tests, c.is_empty.ensures, c.loop-rest-test.true) in (
      now.0 ++ piece_as (form_of c.args.form) c.split_at.result.0.now (character_of piece.result),
      has_written_append _ _ _ _ _ _ now.1 (search rules),
      quoted_step (form_of c.args.form) bs now.0 c.split_at.result.0.now c.split_at.result.1.now c.size.result (character_of piece.result) some
          (c.size.ensures ∙ piece.ensures.size) piece.ensures.character c.split_at.ensures.front c.split_at.ensures.back
          ∙ now.2,
    )

pub returns : goal.returns
returns g c = λ plain _.
    let now = c.loop-rest.invariant plain in
    let none : c.loop-rest.rest.now ≡ [] = nil_from_length _ (grind (arith, nat_tests, c.is_empty.ensures, c.loop-rest-test.false)) in
    has_written_of_eq _ _ _ _ _
    (sym (append-nil now.0) ∙ ap (λ ps. now.0 ++ flat_map (λ p. piece_as (form_of c.args.form) p.bytes p.char) ps) (sym pieces-nil) ∙ ap (λ bs. now.0 ++ flat_map (λ p. piece_as (form_of c.args.form) p.bytes p.char) (pieces bs)) (sym none) ∙ now.2)
    now.1
