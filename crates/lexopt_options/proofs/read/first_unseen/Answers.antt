use Rattle.std.proofs.Common.{ap, arith, below_more, option_map, sym, ◌∙◌}
use Rattle.std.proofs.lemmas.Bool.{false≢true}
use Rattle.lexopt_options.proofs.Accepted.{at_place}
use Rattle.lexopt_options.proofs.Seen.{required_here, required_within}
use Rattle.lexopt_options.proofs.read.first_unseen.Goals.{else-option-via-then-option+else-not-is_among, else-option-via-else-option}
use Rattle.lexopt_options.proofs.read.first_unseen.Goals as goal

pub returns-then-not-is_among : goal.returns-then-not-is_among
returns-then-not-is_among g c =
    let options = c.args.options.now in
    let option = c.index-options-index.result in (
      c.loop-index.index,
      record {
        here = required_here options c.loop-index.index option c.loop-index-test.true c.index-options-index.is ∙ c.if-option.true;
        absent = sym c.is_among.ensures ∙ c.if-not-is_among.true;
        first = c.loop-index.invariant;
      },
      ap (option_map (λ o. o.names)) (at_place options c.loop-index.index option c.loop-index-test.true c.index-options-index.is),
    )

pub loop-index-preserved : goal.loop-index-preserved
loop-index-preserved g c = below_more _ _ c.loop-index.invariant (λ needed.
    let option = c.index-options-index.result in
    let here = required_here c.args.options.now c.loop-index.index option c.loop-index-test.true c.index-options-index.is in
    elim c.else-option.branch [
      | else-option-via-then-option+else-not-is_among w ↦ sym w.is_among.ensures ∙ w.if-not-is_among.false
      | else-option-via-else-option w ↦ absurd (false≢true (sym w.if-option.false ∙ sym here ∙ needed))
    ])

pub returns : goal.returns
returns g c = λ i needed. c.loop-index.invariant i (grind (arith, required_within c.args.options.now i needed)) needed
