use Rattle.lexopt_spec.proofs.PieceSteps.{rest_is}
use Rattle.lexopt_base.proofs.LongOptions.{name_cut, name_uncut}
use Rattle.lexopt_base.proofs.parser.read_long.Goals as goal

pub returns-in-Some : goal.returns-in-Some
returns-in-Some c =
    let found = c.in-Some.ensures in
    name_cut c.args.word.now _ c.in-Some.place c.requires (rest_is c.args.word.now 2) found.0.high found.1 found.0.before

pub returns-in-None : goal.returns-in-None
returns-in-None c = name_uncut c.args.word.now _ (rest_is c.args.word.now 2) c.in-None.ensures
