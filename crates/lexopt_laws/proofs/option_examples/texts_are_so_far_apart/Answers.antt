use Rattle.std.proofs.Common.{[], codes, refl}
use Rattle.lexopt_line_spec.proofs.Worked.{differ}
use Rattle.lexopt_options_spec.proofs.Distance.{one_distance}
use Rattle.lexopt_laws.proofs.WorkedDistances.{distance_of}
use Rattle.lexopt_laws.proofs.option_examples.texts_are_so_far_apart.Goals as goal

pub returns-clause-swapped : goal.returns-clause-swapped
returns-clause-swapped c = distance_of (codes "verbsoe") (codes "verbose")

pub returns-clause-not_edited_again : goal.returns-clause-not_edited_again
returns-clause-not_edited_again c = distance_of (codes "ca") (codes "abc")

pub returns-clause-replaced : goal.returns-clause-replaced
returns-clause-replaced c = distance_of (codes "kitten") (codes "sitting")

pub returns-clause-left_out : goal.returns-clause-left_out
returns-clause-left_out c = distance_of (codes "outtput") (codes "output")

pub returns-clause-inserted : goal.returns-clause-inserted
returns-clause-inserted c = distance_of (codes "outpt") (codes "output")

pub returns-clause-from_nothing : goal.returns-clause-from_nothing
returns-clause-from_nothing c = distance_of [] (codes "abc")

pub returns-clause-same : goal.returns-clause-same
returns-clause-same c = distance_of (codes "abc") (codes "abc")

pub returns-clause-no_more : goal.returns-clause-no_more
returns-clause-no_more c is = differ 2 1 refl (one_distance (codes "verbsoe") (codes "verbose") 2 1 is (distance_of (codes "verbsoe") (codes "verbose")))
