use Rattle.std.proofs.Common.{◌<◌, [], take, flat_map, get_or, length, refl, sym, ap, ◌∙◌, arith}
use Rattle.std.proofs.Output.{has_written_append, has_written_of_eq}
use Rattle.std.proofs.lemmas.List.{take_more, flat_map_more}
use Rattle.lexopt_spec.specs.Text.{byte_escape}
use Rattle.lexopt_words.proofs.Hex.{hex_shown}
use Rattle.lexopt_words.proofs.quoted.write_damage.Goals as goal

pub loop-byte-preserved : goal.loop-byte-preserved
loop-byte-preserved g c = λ plain.
    let bs = c.args.piece.now in
    let i = c.loop-byte.byte-index in
    let within : i < length bs = omega arith in
    let so_far = c.loop-byte.invariant plain in
    let small : get_or bs i 0 < 256 = omega (arith, c.type_inv.piece i) in
    let shown = hex_shown c.in_radix.result c.laid_out.result (get_or bs i 0) small c.laid_out.ensures c.in_radix.ensures in
    let wrote = rw shown at c.in_ok-write.ensures.writes in
    has_written_of_eq _ _ _ _ _
    (flat_map_more byte_escape [] (take i bs) (get_or bs i 0) ∙ ap (flat_map byte_escape) (sym (take_more bs i 0 within)))
    (has_written_append _ _ _ _ (byte_escape (get_or bs i 0)) _ so_far (wrote so_far.plain refl))
