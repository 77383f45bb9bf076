use Rattle.std.proofs.lemmas.Result.{IfOk-weaker}
use Rattle.lexopt_options.proofs.RestRead.{rest_of}
use Rattle.lexopt_options.proofs.rest.read_rest.Goals as goal

pub returns-clause-read : goal.returns-clause-read
returns-clause-read g c = c.read_parsed.ensures c.args.words.items c.parser_of-parser.ensures

pub returns-clause-answered : goal.returns-clause-answered
returns-clause-answered g c = λ l rest means.
    IfOk-weaker c.read_parsed.result _ _ (λ found read. rest_of c.args.options.now c.args.words.items found.1.items found.0 read l rest means)
    (returns-clause-read g c)
