use Rattle.lexopt_options.proofs.rest.complete_rest.Goals as goal

pub returns : goal.returns
returns g c = c.complete_parsed.ensures c.args.words.items c.parser_of-parser.ensures
