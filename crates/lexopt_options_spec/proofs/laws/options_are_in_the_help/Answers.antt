use Rattle.lexopt_options_spec.proofs.Entries.{has_place}
use Rattle.lexopt_options_spec.proofs.laws.options_are_in_the_help.Goals as goal

pub returns : goal.returns
returns c = has_place
