use Rattle.lexopt_laws.proofs.RefusedWords.{all_taken, each_taken, first_refused, is_outside, refused_first}
use Rattle.lexopt_laws.proofs.option_laws.the_first_word_outside_a_list_is_refused.Goals as goal

pub returns-clause-first : goal.returns-clause-first
returns-clause-first c = first_refused

pub returns-clause-no_other : goal.returns-clause-no_other
returns-clause-no_other c = refused_first

pub returns-clause-outside : goal.returns-clause-outside
returns-clause-outside c ps words i word unfit = let is = is_outside ps words i word unfit in (is.owner, is.list, is.here, is.words, is.outside)

pub returns-clause-none : goal.returns-clause-none
returns-clause-none c = each_taken

pub returns-clause-each : goal.returns-clause-each
returns-clause-each c = all_taken
