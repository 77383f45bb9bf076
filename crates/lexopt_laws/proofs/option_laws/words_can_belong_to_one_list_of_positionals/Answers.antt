use Rattle.lexopt_laws.proofs.OwnedWords.{one_list, one_list_in}
use Rattle.lexopt_laws.proofs.option_laws.words_can_belong_to_one_list_of_positionals.Goals as goal

pub returns-clause-no_other : goal.returns-clause-no_other
returns-clause-no_other c = one_list

pub returns-clause-role : goal.returns-clause-role
returns-clause-role c = one_list_in
