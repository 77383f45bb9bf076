use Rattle.lexopt_options.proofs.Common.{ap, refl, UnreadLine}
use Rattle.lexopt_options.proofs.options.Options.front.Goals as goal

pub read_front-requires-clause-before : goal.read_front-requires-clause-before
read_front-requires-clause-before g c = ap (λ (u : UnreadLine). u.ended) c.parser_of-parser.ensures

pub returns-in-Rest : goal.returns-in-Rest
returns-in-Rest g c = (rw c.in-Rest.is at c.in_ok-read_front.ensures c.args.words.items c.parser_of-parser.ensures).0 refl

pub returns : goal.returns
returns g c = (rw c.in-Front.is at c.in_ok-read_front.ensures c.args.words.items c.parser_of-parser.ensures).0
