use Rattle.std.proofs.Common.{◌++◌, ◌∷◌, ◌∙◌, [], ap, append-nil, append_assoc, arith, length, sym}
use Rattle.lexopt_options.proofs.RestRead.{no_length}
use Rattle.lexopt_options.proofs.rest.add_left.Goals as goal

pub loop-asked-preserved : goal.loop-asked-preserved
loop-asked-preserved c =
    let took = c.in-Some.ensures.steps.1.0 in (
      ap (λ l. l ++ c.next.new.self.parser.now.words) c.in_ok-push-in-Some.ensures.items ∙ append_assoc c.loop-asked.words.items (c.in-Some.word ∷ []) c.next.new.self.parser.now.words
          ∙ ap (λ l. c.loop-asked.words.items ++ l) (sym took) ∙ c.loop-asked.invariant.0,
      omega (arith, c.loop-asked.invariant.1, ap length took),
    )

pub returns-in-None : goal.returns-in-None
returns-in-None c = sym (append-nil c.loop-asked.words.items) ∙ ap (λ l. c.loop-asked.words.items ++ l) (sym c.in-None.ensures.steps.1.0) ∙ c.loop-asked.invariant.0

pub returns-after-loop-asked : goal.returns-after-loop-asked
returns-after-loop-asked c =
    let none = no_length c.loop-asked.left.parser.now.words (omega (arith, c.loop-asked.invariant.1, c.loop-asked-test.false)) in
    sym (append-nil c.loop-asked.words.items) ∙ ap (λ l. c.loop-asked.words.items ++ l) (sym none) ∙ c.loop-asked.invariant.0
