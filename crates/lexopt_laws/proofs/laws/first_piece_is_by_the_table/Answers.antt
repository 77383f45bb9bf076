use Rattle.std.proofs.Common.{take, ap, sym, subst, ℕ, refl}
use Rattle.std.proofs.lemmas.List.{length-take-le}
use Rattle.bstr.specs.Utf8.{decoded}
use Rattle.bstr.proofs.lemmas.PieceLemmas.{piece-bounds}
use Rattle.lexopt_spec.specs.Pieces.{IsFirstPiece}
use Rattle.lexopt_spec.proofs.Fronts.{decoded_is_first, first_is_decoded}
use Rattle.lexopt_laws.proofs.laws.first_piece_is_by_the_table.Goals as goal

pub returns-clause-by_the_table : goal.returns-clause-by_the_table
returns-clause-by_the_table c = λ some.
    let bs = c.args.bytes.now in
    subst (λ (n : ℕ). IsFirstPiece bs n (decoded bs).char) (sym (length-take-le (decoded bs).size bs (piece-bounds bs some).2)) (decoded_is_first bs (decoded bs) some refl)

pub returns-clause-only_one : goal.returns-clause-only_one
returns-clause-only_one c = λ size char is.
    let same = first_is_decoded c.args.bytes.now size char is in (ap (λ n. take n c.args.bytes.now) same.0, same.1)
