use Rattle.lexopt_options_spec.proofs.OneHelp.{one_help, one_usage, some_help, some_usage}
use Rattle.lexopt_options_spec.proofs.laws.each_declaration_has_one_help.Goals as goal

pub returns-clause-some_usage : goal.returns-clause-some_usage
returns-clause-some_usage c = λ d width. some_usage d width

pub returns-clause-no_other_usage : goal.returns-clause-no_other_usage
returns-clause-no_other_usage c = λ d width text other one two. one_usage d width text other one two

pub returns-clause-some : goal.returns-clause-some
returns-clause-some c = some_help

pub returns-clause-no_other : goal.returns-clause-no_other
returns-clause-no_other c = one_help
