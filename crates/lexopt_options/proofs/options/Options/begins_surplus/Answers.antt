use Rattle.lexopt_options.proofs.Common.{◌∙◌, sym, false≢true, declaration_of}
use Rattle.lexopt_options.proofs.Beginnings.{follows_by, no_rest_follows}
use Rattle.lexopt_options.proofs.options.Options.begins_surplus.Goals as goal

pub returns-then-takes_positional : goal.returns-then-takes_positional
returns-then-takes_positional g c = λ words is.
    follows_by (declaration_of c.args.self.now) words c.args.front.now c.is_full.result c.most.result c.len.result is (sym c.takes_positional.ensures ∙ c.if-takes_positional.true) c.most.ensures (c.len.ensures ∙ c.args.front.now.words.ok.0) c.is_full.ensures

pub returns-else-takes_positional : goal.returns-else-takes_positional
returns-else-takes_positional g c = λ words is.
    no_rest_follows (declaration_of c.args.self.now) words c.args.front.now is (λ takes full. false≢true (sym c.if-takes_positional.false ∙ c.takes_positional.ensures ∙ takes))
