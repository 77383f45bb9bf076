use Rattle.lexopt_laws.proofs.AskedOnce.{asked_of_list, asked_of_stop, one_asked}
use Rattle.lexopt_laws.proofs.option_laws.each_line_asks_for_one_thing.Goals as goal

pub returns-clause-one_asked : goal.returns-clause-one_asked
returns-clause-one_asked c = one_asked

pub returns-clause-of_a_list : goal.returns-clause-of_a_list
returns-clause-of_a_list c = asked_of_list

pub returns-clause-before_a_mistake : goal.returns-clause-before_a_mistake
returns-clause-before_a_mistake c = asked_of_stop
