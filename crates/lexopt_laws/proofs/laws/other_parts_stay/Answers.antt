use Rattle.lexopt_spec.specs.Steps.{short, long}
use Rattle.lexopt_line_spec.proofs.LastOption.{option_is_last}
use Rattle.lexopt_laws.proofs.Stays.{step_stays, stays_open}
use Rattle.lexopt_laws.proofs.laws.other_parts_stay.Goals as goal

pub returns-clause-bin_name : goal.returns-clause-bin_name
returns-clause-bin_name c = λ call u v r step. (step_stays call u r v step).bin_name

pub returns-clause-short_equals : goal.returns-clause-short_equals
returns-clause-short_equals c = λ call u v r step. (step_stays call u r v step).short_equals

pub returns-clause-last : goal.returns-clause-last
returns-clause-last c = λ call u v r step none. (step_stays call u r v step).last none

pub returns-clause-short : goal.returns-clause-short
returns-clause-short c = λ u v x step. option_is_last u (short x) v step

pub returns-clause-long : goal.returns-clause-long
returns-clause-long c = λ u v name step. option_is_last u (long name) v step

pub returns-clause-ended : goal.returns-clause-ended
returns-clause-ended c = λ call u v r step ended. (step_stays call u r v step).ended ended

pub returns-clause-only_next : goal.returns-clause-only_next
returns-clause-only_next c = λ call u v r step other. stays_open call u r v step other
