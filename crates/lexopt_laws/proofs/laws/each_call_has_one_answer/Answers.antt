use Rattle.lexopt_line_spec.proofs.Calls.{call_answer, call_same}
use Rattle.lexopt_laws.proofs.Runs.{run_answer, run_same}
use Rattle.lexopt_laws.proofs.laws.each_call_has_one_answer.Goals as goal

pub returns-clause-some_answer : goal.returns-clause-some_answer
returns-clause-some_answer c = λ call u is. call_answer call u is

pub returns-clause-no_other : goal.returns-clause-no_other
returns-clause-no_other c = λ call u v w r s one other. call_same call u r s v w one other

pub returns-clause-some_run : goal.returns-clause-some_run
returns-clause-some_run c = λ calls u is. run_answer calls u is

pub returns-clause-no_other_run : goal.returns-clause-no_other_run
returns-clause-no_other_run c = λ calls u v w replies others one other fits also. run_same calls u v w replies others one other fits also
