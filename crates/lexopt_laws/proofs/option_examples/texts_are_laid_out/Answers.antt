use Rattle.std.proofs.Common.{refl}
use Rattle.bstr.proofs.Computing.{computing}
use Rattle.lexopt_options_spec.specs.Help.{columns}
use Rattle.lexopt_laws.proofs.option_examples.texts_are_laid_out.Goals as goal

pub returns-clause-columns_of_a_line : goal.returns-clause-columns_of_a_line
unfolding columns computing
returns-clause-columns_of_a_line c = refl

pub returns-clause-next_to_it : goal.returns-clause-next_to_it
unfolding columns computing
returns-clause-next_to_it c = refl

pub returns-clause-two_blanks : goal.returns-clause-two_blanks
unfolding columns computing
returns-clause-two_blanks c = refl

pub returns-clause-on_the_next_line : goal.returns-clause-on_the_next_line
unfolding columns computing
returns-clause-on_the_next_line c = refl

pub returns-clause-two_lines : goal.returns-clause-two_lines
unfolding columns computing
returns-clause-two_lines c = refl

pub returns-clause-entry : goal.returns-clause-entry
unfolding columns computing
returns-clause-entry c = refl
