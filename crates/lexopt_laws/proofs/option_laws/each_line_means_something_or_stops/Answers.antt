use Rattle.lexopt_options_spec.proofs.Fronts.{one_front, nothing_parsed}
use Rattle.lexopt_laws.proofs.OneStop.{one_stop}
use Rattle.lexopt_laws.proofs.SomeAnswer.{some_answer}
use Rattle.lexopt_laws.proofs.option_laws.each_line_means_something_or_stops.Goals as goal

pub returns-clause-some : goal.returns-clause-some
returns-clause-some c = some_answer

pub returns-clause-one_list : goal.returns-clause-one_list
returns-clause-one_list c d words l k means other = one_front d words l k means.whole.front other.whole.front

pub returns-clause-one_stop : goal.returns-clause-one_stop
returns-clause-one_stop c = one_stop

pub returns-clause-not_both : goal.returns-clause-not_both
returns-clause-not_both c d words l k m means stops = nothing_parsed d words k m stops l means
