use Rattle.lexopt_options.proofs.Common.{ap, declaration_of, start_view}
use Rattle.lexopt_options.proofs.Beginnings.{nowhere_follows, separator_follows}
use Rattle.lexopt_options.proofs.options.Options.begins_rest.Goals as goal

pub returns-in-Separated : goal.returns-in-Separated
returns-in-Separated g c = λ words u begun.
    let d = declaration_of c.args.self.now in
    let separated_is = ap start_view c.in-Separated.is in
    let is = rw c.in-Some.is at begun.0 in
    let tells = rw c.in-Some.is at (begun.2 separated_is) in
    rw (c.is_ended.ensures, separated_is) (separator_follows d words c.in-Some.front is tells)

pub returns-in-None : goal.returns-in-None
returns-in-None g c = λ words u begun.
    nowhere_follows (start_view c.args.begins) (declaration_of c.args.self.now) words (rw c.in-None.is at begun.0)
