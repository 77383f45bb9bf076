use Rattle.lexopt_laws.proofs.Occurs.{in_a_line, some_value}
use Rattle.lexopt_laws.proofs.option_laws.each_option_can_occur.Goals as goal

pub returns-clause-value : goal.returns-clause-value
returns-clause-value c = some_value

pub returns-clause-line : goal.returns-clause-line
returns-clause-line c = in_a_line
