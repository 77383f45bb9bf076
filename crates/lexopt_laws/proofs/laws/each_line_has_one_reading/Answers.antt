use Rattle.lexopt_line_spec.proofs.OneReading.{some_reading, no_other_reading}
use Rattle.lexopt_laws.proofs.laws.each_line_has_one_reading.Goals as goal

pub returns-clause-some_reading : goal.returns-clause-some_reading
returns-clause-some_reading c = some_reading

pub returns-clause-no_other : goal.returns-clause-no_other
returns-clause-no_other c = no_other_reading
