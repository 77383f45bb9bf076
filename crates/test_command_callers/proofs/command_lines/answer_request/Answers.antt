use Rattle.std.proofs.Common.{[]}
use Rattle.std.proofs.lemmas.Result.{IfOk-weaker}
use Rattle.test_command_callers.proofs.AnyLines.{request_tells}
use Rattle.test_command_callers.proofs.command_lines.answer_request.Goals as goal

pub returns : goal.returns
returns g c = IfOk-weaker c.answer_request.result _ _ (λ it is. request_tells c.new.result c.args.options c.args.commands.now [] c.args.request c.args.width it c.new.ensures.options c.new.ensures.commands is) c.answer_request.ensures
