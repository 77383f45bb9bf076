use Rattle.lexopt_laws.proofs.StateLaws.{one_state}
use Rattle.lexopt_laws.proofs.option_laws.words_leave_one_state.Goals as goal

pub returns : goal.returns
returns c = one_state
