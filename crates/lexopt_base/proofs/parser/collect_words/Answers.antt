use Rattle.std.proofs.Common.{sym}
use Rattle.lexopt_base.proofs.parser.collect_words.Goals as goal

pub returns : goal.returns
returns g c =
    let run = c.in_ok-items.ensures.runs tt in
    (c.into_iter.result, c.into_iter.ensures.into_iter_gives, (run.0, run.1, run.2, sym run.3.0))
