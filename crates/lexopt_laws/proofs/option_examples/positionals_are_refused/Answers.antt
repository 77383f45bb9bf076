use Rattle.std.proofs.Common.{refl}
use Rattle.lexopt_laws.specs.Sample.{files, sources}
use Rattle.lexopt_laws.proofs.option_examples.positionals_are_refused.Goals as goal

pub returns-clause-last : goal.returns-clause-last
returns-clause-last c = record { positional = sources; here = refl; repeats = refl; before = refl }

pub returns-clause-second_of_three : goal.returns-clause-second_of_three
returns-clause-second_of_three c = record { positional = files; here = refl; repeats = refl; before = refl }
