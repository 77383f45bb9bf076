use Rattle.std.proofs.Common.{rules}
use Rattle.lexopt_line_spec.proofs.examples.tables_and_replies_are_told_apart.Goals as goal

pub returns-clause-last_option : goal.returns-clause-last_option
returns-clause-last_option c = search rules

pub returns-clause-one_value : goal.returns-clause-one_value
returns-clause-one_value c = search rules
