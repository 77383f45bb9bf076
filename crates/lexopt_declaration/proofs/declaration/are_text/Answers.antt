use Rattle.lexopt_declaration.proofs.Common.{arith, take_all}
use Rattle.lexopt_declaration.proofs.Spelled.{text_more}
use Rattle.lexopt_declaration.proofs.declaration.are_text.Goals as goal

pub loop-option-preserved : goal.loop-option-preserved
loop-option-preserved g c =
    text_more c.args.options.now c.loop-option.option-index c.option-item.result c.loop-option-test.true c.option-item.is c.loop-option.invariant c.option_is_text.ensures

pub returns : goal.returns
returns g c =
    rw (take_all c.loop-option.option-index c.args.options.now (omega (arith, c.loop-option-test.false))) at c.loop-option.invariant
