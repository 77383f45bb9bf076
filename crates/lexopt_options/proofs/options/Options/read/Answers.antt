use Rattle.lexopt_options.proofs.Common.{arith, subst, sym, ◌∙◌, eqb-true, nil_from_length, IfOk-weaker, LineMeans}
use Rattle.lexopt_options.specs.declared.refused.Line.TheVariants as line
use Rattle.lexopt_options.proofs.WholeLines.{line_of, no_words}
use Rattle.lexopt_options.proofs.options.Options.read.Goals as goal

pub returns-then-means_nothing-clause-line : goal.returns-then-means_nothing-clause-line
returns-then-means_nothing-clause-line g c =
    let o = c.args.self.now in
    let zero = eqb-true c.args.words.len 0 (sym c.is_empty.ensures ∙ c.if-is_empty.true) in
    let empty = nil_from_length c.args.words.items (omega (arith, zero, c.args.words.ok.0)) in
    let complete = c.means_nothing.ensures.0 c.if-means_nothing.true in
    subst (λ words. LineMeans o words c.new.result.items) (sym empty) (no_words o c.new.result.items c.new.ensures.items complete.0 complete.1 complete.2 complete.4)

pub returns-then-means_nothing-clause-answered : goal.returns-then-means_nothing-clause-answered
returns-then-means_nothing-clause-answered g c = λ l means. line_of c.args.self.now c.args.words.items (line.Parsed c.new.result) (returns-then-means_nothing-clause-line g c) l means

pub returns-clause-answered : goal.returns-clause-answered
returns-clause-answered g c = λ l means.
    IfOk-weaker c.read_line.result _ _ (λ line read. line_of c.args.self.now c.args.words.items line read l means) c.read_line.ensures
