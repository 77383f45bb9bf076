use Rattle.lexopt_laws.proofs.RefusedWords.{none_refused, stops_at_word, words_in_lists}
use Rattle.lexopt_laws.proofs.option_laws.legal_lines_have_words_in_lists.Goals as goal

pub returns-clause-in_lists : goal.returns-clause-in_lists
returns-clause-in_lists c = words_in_lists

pub returns-clause-none_refused : goal.returns-clause-none_refused
returns-clause-none_refused c = none_refused

pub returns-clause-stops : goal.returns-clause-stops
returns-clause-stops c = stops_at_word
