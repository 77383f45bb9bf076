use Rattle.std.proofs.Common.{ap, map}
use Rattle.std.proofs.lemmas.Result.{IfOk-weaker}
use Rattle.lexopt_declaration.specs.declared.declaration.Positional.{Positional}
use Rattle.test_option_callers.specs.declared.declared.Word.{Word}
use Rattle.test_option_callers.proofs.Completed.{answered}
use Rattle.test_option_callers.proofs.declared.answer.Goals as goal

pub returns : goal.returns
returns c = IfOk-weaker c.answer.result _ _ (λ a is. answered c.new.result c.args.words.items c.args.width a (record { view = c.new.ensures.declaration; keys = ap (map (λ (p : Positional Word). p.key)) c.new.ensures.positionals }) is) c.answer.ensures
