use Rattle.lexopt_options.proofs.Common.{ap, is_positional}
use Rattle.lexopt_options.proofs.Given.{given_one}
use Rattle.lexopt_options.proofs.places.give_key.Goals as goal

pub returns-in-Some-clause-given : goal.returns-in-Some-clause-given
returns-in-Some-clause-given g c = λ places count are spare below.
    given_one c.args.positionals.now places c.args.word c.args.own.now c.in-Positional.key c.in-Some.other c.in-Positional.field-1 c.key_of.result c.in-Positional.is c.in-Some.is
    (c.key_of.ensures places count are spare (below (ap is_positional c.in-Positional.is)))

pub returns-in_default-key_of-clause-given : goal.returns-in_default-key_of-clause-given
returns-in_default-key_of-clause-given g c = λ places count are spare below.
    let found = c.key_of.ensures places count are spare (below (ap is_positional c.in-Positional.is)) in absurd (c.in_default-key_of.not-Some found.0 found.2)
