use Rattle.std.proofs.Common.{◌<◌, length, sym, ◌∙◌, arith}
use Rattle.lexopt_spec.proofs.Fronts.{character, damage}
use Rattle.lexopt_words.proofs.codepoint.decoded_codepoint.Goals as goal

pub returns-in-Some-default-clause-by_the_table : goal.returns-in-Some-default-clause-by_the_table
returns-in-Some-default-clause-by_the_table c =
    let bs = c.args.bytes.now in
    let some : 0 < length bs = omega arith in
    rw c.decode.ensures.size
    (character bs c.in-Some-default.character some (sym c.decode.ensures.char ∙ c.in-Some-default.is-0))

pub returns-in-None-default-clause-by_the_table : goal.returns-in-None-default-clause-by_the_table
returns-in-None-default-clause-by_the_table c =
    let bs = c.args.bytes.now in
    let some : 0 < length bs = omega arith in
    rw c.decode.ensures.size (damage bs some (sym c.decode.ensures.char ∙ c.in-None-default.is-0))
