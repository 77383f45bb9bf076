use Rattle.lexopt_laws.proofs.Refused.{all_listed, first_refused, no_list, none_refused, refused_first}
use Rattle.lexopt_laws.proofs.option_laws.the_first_value_outside_a_list_is_refused.Goals as goal

pub returns-clause-refused : goal.returns-clause-refused
returns-clause-refused c = refused_first

pub returns-clause-no_other : goal.returns-clause-no_other
returns-clause-no_other c = first_refused

pub returns-clause-none : goal.returns-clause-none
returns-clause-none c = none_refused

pub returns-clause-each : goal.returns-clause-each
returns-clause-each c = all_listed

pub returns-clause-no_list : goal.returns-clause-no_list
returns-clause-no_list c = no_list
