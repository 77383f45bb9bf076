use Rattle.std.proofs.Common.{[], ◌∷◌, Some, codes}
use Rattle.lexopt_options_spec.specs.Legal.{option}
use Rattle.lexopt_options_spec.specs.Stops.{invalid_value}
use Rattle.lexopt_options_spec.proofs.Fronts.{nothing_parsed}
use Rattle.lexopt_laws.proofs.OneStop.{one_stop}
use Rattle.lexopt_laws.proofs.WorkedValues.{argument_missing, attached_medium, front_of_fast, option_missing, means_fast, second_of_three}
use Rattle.lexopt_laws.proofs.option_examples.lines_need_values_in_lists.Goals as goal

pub returns-clause-attached : goal.returns-clause-attached
returns-clause-attached c l means = nothing_parsed _ _ [] (invalid_value 1 (codes "medium")) attached_medium l means

pub returns-clause-front_of_one : goal.returns-clause-front_of_one
returns-clause-front_of_one c l means = nothing_parsed _ _ [] (invalid_value 1 (codes "fas")) front_of_fast l means

pub returns-clause-one_of_several : goal.returns-clause-one_of_several
returns-clause-one_of_several c l means = nothing_parsed _ _ [] (invalid_value 3 (codes "b")) second_of_three l means

pub returns-clause-not_the_last : goal.returns-clause-not_the_last
returns-clause-not_the_last c l m stops = one_stop _ _ l [] m (invalid_value 3 (codes "b")) stops second_of_three

pub returns-clause-not_what_is_missing : goal.returns-clause-not_what_is_missing
returns-clause-not_what_is_missing c l m stops = one_stop _ _ l [] m (invalid_value 0 (codes "medium")) stops option_missing

pub returns-clause-not_the_argument : goal.returns-clause-not_the_argument
returns-clause-not_the_argument c l m stops = one_stop _ _ l [] m (invalid_value 1 (codes "medium")) stops argument_missing

pub returns-clause-nowhere : goal.returns-clause-nowhere
returns-clause-nowhere c l m stops = nothing_parsed _ _ l m stops (option 1 (Some (codes "fast")) ∷ []) means_fast
