use Rattle.std.proofs.Common.{ap, subst, Err, None}
use Rattle.lexopt_words.proofs.Answered.{all_have_come}
use Rattle.lexopt_words.proofs.arguments.ask_for_words.Goals as goal

pub returns-in-Err-NotPresent : goal.returns-in-Err-NotPresent
returns-in-Err-NotPresent g c =
    let answers = g.S.WordSource.answers c.args.source.now in
    all_have_come answers _ _ c.loop.invariant (subst (λ place. answers place None) c.len.ensures (c.in-Err-NotPresent.ensures.end (ap Err c.in-Err-NotPresent.field-0-is)))
