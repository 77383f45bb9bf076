use Rattle.lexopt_options_spec.proofs.Roles.{one_role}
use Rattle.lexopt_laws.proofs.option_laws.each_place_has_one_role.Goals as goal

pub returns : goal.returns
returns c = one_role
