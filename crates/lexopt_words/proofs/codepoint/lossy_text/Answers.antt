use Rattle.std.proofs.Common.{◌≡◌, ◌<◌, [], ◌++◌, length, string_bytes, encode_utf8_all, sym, ap, ◌∙◌, arith, append-nil, map}
use Rattle.std.proofs.lemmas.Bool.Decides.{nat_tests}
use Rattle.std.proofs.lemmas.List.{nil_from_length}
use Rattle.bstr.proofs.lemmas.PieceLemmas.{piece-bounds, size-within}
use Rattle.lexopt_spec.specs.Pieces.{shown, lossy}
use Rattle.lexopt_spec.proofs.PieceSteps.{pieces-nil, rest_is, text_step}
use Rattle.lexopt_words.proofs.codepoint.lossy_text.Goals as goal

pub slice_bounds-rest-count : goal.slice_bounds-rest-count
slice_bounds-rest-count c = rw c.decode-character.ensures.size (size-within c.loop-rest.rest.now)

pub slice_bounds-rest-start : goal.slice_bounds-rest-start
slice_bounds-rest-start c =
    let fits = size-within c.loop-rest.rest.now in
    let size = c.decode-character.ensures.size in
    omega arith

pub loop-rest-smaller : goal.loop-rest-smaller
loop-rest-smaller c =
    let some : 0 < length c.loop-rest.rest.now = grind (arith, nat_tests, c.is_empty.ensures, c.loop-rest-test.true) in
    let bounds = piece-bounds c.loop-rest.rest.now some in
    let size = c.decode-character.ensures.size in
    grind (arith, bounds.0, bounds.2, size)

pub loop-rest-preserved : goal.loop-rest-preserved
loop-rest-preserved c =
    let bs = c.loop-rest.rest.now in
    let decode = c.decode-character in
    let some : 0 < length bs = grind (arith, nat_tests, c.is_empty.ensures, c.loop-rest-test.true) in
    text_step bs (string_bytes c.loop-rest.text) _ _ _ decode.result.1 decode.result.0 some
    decode.ensures.size decode.ensures.char
    c.in_ok-push_shown.ensures
    (rest_is bs decode.result.1) c.loop-rest.invariant

pub returns : goal.returns
returns c =
    let none : c.loop-rest.rest.now ≡ [] = nil_from_length _ (grind (arith, nat_tests, c.is_empty.ensures, c.loop-rest-test.false)) in
    sym (append-nil (string_bytes c.loop-rest.text))
    ∙ ap (λ ps. string_bytes c.loop-rest.text ++ encode_utf8_all (map (λ p. shown p.char) ps)) (sym pieces-nil)
    ∙ ap (λ bs. string_bytes c.loop-rest.text ++ lossy bs) (sym none)
    ∙ c.loop-rest.invariant
