use Rattle.lexopt_line_spec.proofs.Bounds.{run_bound, run_ends}
use Rattle.lexopt_laws.proofs.laws.replies_are_bounded.Goals as goal

pub returns-clause-bounded : goal.returns-clause-bounded
returns-clause-bounded c = λ u v calls replies run. run_bound u calls replies v run

pub returns-clause-ends : goal.returns-clause-ends
returns-clause-ends c = λ u v calls replies run many. run_ends u v calls replies run many
