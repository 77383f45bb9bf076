use Rattle.lexopt_line_spec.specs.Spelling.{exact, damaged}
use Rattle.lexopt_laws.proofs.OneValueLaw.{line_forth, line_back}
use Rattle.lexopt_laws.proofs.laws.one_value_tables_agree.Goals as goal

pub returns-clause-spelled : goal.returns-clause-spelled
returns-clause-spelled c = λ t short_equals words l. (line_forth exact t short_equals words l, line_back exact t short_equals words l)

pub returns-clause-shown : goal.returns-clause-shown
returns-clause-shown c = λ t short_equals words l. (line_forth damaged t short_equals words l, line_back damaged t short_equals words l)
