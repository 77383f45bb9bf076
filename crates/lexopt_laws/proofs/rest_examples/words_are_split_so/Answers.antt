use Rattle.lexopt_laws.proofs.WorkedRest.{behind_separator, flag_then_separator, flag_then_word, values_then_word, word_alone, word_then_flag}
use Rattle.lexopt_laws.proofs.rest_examples.words_are_split_so.Goals as goal

pub returns-clause-before_a_word : goal.returns-clause-before_a_word
returns-clause-before_a_word c = flag_then_word

pub returns-clause-after_the_separator : goal.returns-clause-after_the_separator
returns-clause-after_the_separator c = flag_then_separator

pub returns-clause-several_values : goal.returns-clause-several_values
returns-clause-several_values c = values_then_word

pub returns-clause-no_option : goal.returns-clause-no_option
returns-clause-no_option c = word_alone

pub returns-clause-behind_the_separator : goal.returns-clause-behind_the_separator
returns-clause-behind_the_separator c = behind_separator

pub returns-clause-after_a_positional : goal.returns-clause-after_a_positional
returns-clause-after_a_positional c = word_then_flag
