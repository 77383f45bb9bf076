use Rattle.std.proofs.Common.{ap}
use Rattle.lexopt_spec.specs.UnreadLine.{UnreadLine}
use Rattle.lexopt_options.proofs.read.read_line.Goals as goal

pub read_keys-requires-clause-before : goal.read_keys-requires-clause-before
read_keys-requires-clause-before g c = ap (λ (u : UnreadLine). u.ended) c.parser_of-parser.ensures

pub returns : goal.returns
returns g c = c.line_of.ensures c.args.words.items c.read_keys.new.parser (c.in_ok-ended.ensures c.args.words.items c.parser_of-parser.ensures)
