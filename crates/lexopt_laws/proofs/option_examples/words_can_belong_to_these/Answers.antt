use Rattle.lexopt_laws.proofs.OwnedWords.{no_owner, no_owner_after_fats, owner_is_dest, owner_is_mode, owner_is_target, owners_of_both}
use Rattle.lexopt_laws.proofs.option_examples.words_can_belong_to_these.Goals as goal

pub returns-clause-two : goal.returns-clause-two
returns-clause-two c = owners_of_both

pub returns-clause-one : goal.returns-clause-one
returns-clause-one c = owner_is_mode

pub returns-clause-none : goal.returns-clause-none
returns-clause-none c = no_owner

pub returns-clause-after_a_refused_word : goal.returns-clause-after_a_refused_word
returns-clause-after_a_refused_word c = no_owner_after_fats

pub returns-clause-after_a_word_refused_by_one : goal.returns-clause-after_a_word_refused_by_one
returns-clause-after_a_word_refused_by_one c = owner_is_dest

pub returns-clause-role : goal.returns-clause-role
returns-clause-role c = owner_is_target
