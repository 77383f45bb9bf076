use Rattle.std.proofs.Common.{◌∙◌}
use Rattle.lexopt_options.specs.Declarations.{options_of}
use Rattle.test_option_callers.proofs.Keyed.{help_first}
use Rattle.test_option_callers.proofs.declared_keys.report.Goals as goal

pub returns-clause-help : goal.returns-clause-help
returns-clause-help g c = c.report.ensures.help ∙ help_first (options_of c.args.options.now)
