use Rattle.std.proofs.Common.{refl}
use Rattle.bstr.proofs.Computing.{computing}
use Rattle.lexopt_options_spec.specs.Help.{columns}
use Rattle.lexopt_options_spec.proofs.help_examples.clusters_are_columns.Goals as goal

pub returns-clause-letters : goal.returns-clause-letters
unfolding columns computing
returns-clause-letters c = refl

pub returns-clause-accent : goal.returns-clause-accent
unfolding columns computing
returns-clause-accent c = refl
