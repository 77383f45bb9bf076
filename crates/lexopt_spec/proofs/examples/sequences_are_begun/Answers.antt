use Rattle.std.proofs.Common.{[], ◌∷◌, ◌≤◌, arith, inl, inr}
use Rattle.lexopt_spec.proofs.examples.sequences_are_begun.Goals as goal

pub returns : goal.returns
returns c =
    let least : 0xC2 ≤ 0xC2 = omega arith in
    let greatest : 0xC2 ≤ 0xDF = omega arith in
    let low : 0x80 ≤ 0x80 = omega arith in
    let high : 0x80 ≤ 0xBF = omega arith in
    (0x80 ∷ [], inr (inl (least, (greatest, (low, (high, tt))))))
