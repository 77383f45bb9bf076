use Rattle.lexopt_laws.proofs.StateLaws.{leads_somewhere}
use Rattle.lexopt_laws.proofs.option_laws.states_lead_somewhere.Goals as goal

pub returns : goal.returns
returns c = leads_somewhere
