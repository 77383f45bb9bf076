use Rattle.lexopt_laws.proofs.SpellerSettings.{settings_same}
use Rattle.lexopt_laws.proofs.laws.both_settings_have_one_form.Goals as goal

pub returns : goal.returns
returns c = λ t words l on off. settings_same t words l on off
