use Rattle.lexopt_options_spec.proofs.Shares.{one_places, one_shares, some_places, some_shares}
use Rattle.lexopt_laws.proofs.option_laws.words_belong_to_one_positional.Goals as goal

pub returns-clause-some : goal.returns-clause-some
returns-clause-some c = some_shares

pub returns-clause-no_other : goal.returns-clause-no_other
returns-clause-no_other c = one_shares

pub returns-clause-places : goal.returns-clause-places
returns-clause-places c = some_places

pub returns-clause-no_other_places : goal.returns-clause-no_other_places
returns-clause-no_other_places c = one_places
