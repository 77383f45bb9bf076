use Rattle.lexopt_laws.proofs.OwnedWords.{owns_file, owns_new, owns_old, owns_target}
use Rattle.lexopt_laws.proofs.option_examples.words_can_belong_to_positionals.Goals as goal

pub returns-clause-first : goal.returns-clause-first
returns-clause-first c = owns_old

pub returns-clause-second : goal.returns-clause-second
returns-clause-second c = owns_new

pub returns-clause-later : goal.returns-clause-later
returns-clause-later c = owns_target

pub returns-clause-after_a_listed_word : goal.returns-clause-after_a_listed_word
returns-clause-after_a_listed_word c = owns_file
