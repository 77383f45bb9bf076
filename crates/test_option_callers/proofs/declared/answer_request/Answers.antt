use Rattle.std.proofs.Common.{ap, map}
use Rattle.std.proofs.lemmas.Result.{IfOk-weaker}
use Rattle.lexopt_declaration.specs.declared.declaration.Positional.{Positional}
use Rattle.test_option_callers.specs.declared.declared.Word.{Word}
use Rattle.test_option_callers.proofs.Completed.{requested}
use Rattle.test_option_callers.proofs.declared.answer_request.Goals as goal

pub returns : goal.returns
returns c = IfOk-weaker c.answer_request.result _ _ (λ a is. requested c.new.result c.args.request c.args.width a (record { view = c.new.ensures.declaration; keys = ap (map (λ (p : Positional Word). p.key)) c.new.ensures.positionals }) is) c.answer_request.ensures
