use Rattle.lexopt_base.proofs.States.{within_word, value_taken}
use Rattle.lexopt_base.proofs.parser.Parser.take_value.Goals as goal

pub take_tail-value-requires-clause-within : goal.take_tail-value-requires-clause-within
take_tail-value-requires-clause-within c = (within_word c.self.inside c.args.self.now c.args.count c.self.view_is c.self.invariant.placed c.requires).1

pub returns : goal.returns
returns c =
    value_taken c.self.inside c.args.self.now c.args.count c.take_tail-value.result c.take_tail-value.new.self c.self.view_is c.self.invariant.placed c.requires
    c.take_tail-value.ensures.value c.take_tail-value.ensures.left
