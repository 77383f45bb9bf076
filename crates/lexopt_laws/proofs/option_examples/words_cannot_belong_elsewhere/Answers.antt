use Rattle.lexopt_laws.proofs.OwnedWords.{not_target, past_mode}
use Rattle.lexopt_laws.proofs.option_examples.words_cannot_belong_elsewhere.Goals as goal

pub returns-clause-not_the_second : goal.returns-clause-not_the_second
returns-clause-not_the_second c = not_target

pub returns-clause-past_the_end : goal.returns-clause-past_the_end
returns-clause-past_the_end c = past_mode
