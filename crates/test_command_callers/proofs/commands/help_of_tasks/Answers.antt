use Rattle.std.proofs.Common.{ap, map, string_bytes}
use Rattle.std.proofs.lemmas.Result.{IfOk-weaker}
use Rattle.lexopt_options.specs.Declarations.{declaration_of}
use Rattle.test_command_callers.proofs.TaskHelp.{name_and_help, task_help}
use Rattle.test_command_callers.proofs.commands.help_of_tasks.Goals as goal

pub returns : goal.returns
returns g c = IfOk-weaker c.help.result _ _ (λ text is. task_help (declaration_of c.new.result.options) (declaration_of c.args.options) c.new.result.commands.now c.args.width (string_bytes text) (ap declaration_of c.new.ensures.options) (ap (map name_and_help) c.new.ensures.commands) is) c.help.ensures
