use Rattle.std.proofs.Common.{ap, ◌∙◌}
use Rattle.lexopt_spec.specs.UnreadLine.{UnreadLine}
use Rattle.lexopt_base.proofs.States.{placed_anywhere, word_taken}
use Rattle.lexopt_base.proofs.parser.Parser.take_word.Goals as goal

pub invariant_of-self : goal.invariant_of-self
invariant_of-self c = record {
  placed = placed_anywhere c.self.inside.words.current c.take_next.new.self.current c.self.inside.state c.self.invariant.placed
      (ap (λ (l : UnreadLine). l.tail) c.self.view_is ∙ c.requires);
  option = c.self.invariant.option;
}

pub returns : goal.returns
returns c = word_taken c.self.inside c.args.self.now c.take_next.result c.take_next.new.self c.self.view_is c.self.invariant.placed c.requires c.take_next.ensures
