use Rattle.std.proofs.Common.{[], ◌∷◌, codes}
use Rattle.lexopt_options_spec.specs.Legal.{positional}
use Rattle.lexopt_options_spec.specs.Stops.{invalid_argument, missing_argument}
use Rattle.lexopt_options_spec.proofs.Fronts.{nothing_parsed}
use Rattle.lexopt_laws.proofs.OneStop.{one_stop}
use Rattle.lexopt_laws.proofs.WorkedWords.{lacks_new, refuses_both, refuses_form, refuses_mode, refuses_mode_first, means_mode}
use Rattle.lexopt_laws.proofs.option_examples.lines_need_words_in_lists.Goals as goal

pub returns-clause-first : goal.returns-clause-first
returns-clause-first c l means = nothing_parsed _ _ (positional (codes "fats") ∷ positional (codes "a") ∷ []) (invalid_argument 0 (codes "fats")) refuses_mode l means

pub returns-clause-last : goal.returns-clause-last
returns-clause-last c l means = nothing_parsed _ _ (positional (codes "tar") ∷ positional (codes "a") ∷ []) (invalid_argument 1 (codes "a")) refuses_form l means

pub returns-clause-not_the_second : goal.returns-clause-not_the_second
returns-clause-not_the_second c l m stops = one_stop _ _ l (positional (codes "tar") ∷ positional (codes "fast") ∷ []) m (invalid_argument 0 (codes "tar")) stops refuses_both

pub returns-clause-not_the_option : goal.returns-clause-not_the_option
returns-clause-not_the_option c l m stops = one_stop _ _ l (positional (codes "fats") ∷ positional (codes "a") ∷ []) m (invalid_argument 0 (codes "fats")) stops refuses_mode_first

pub returns-clause-not_before_the_end : goal.returns-clause-not_before_the_end
returns-clause-not_before_the_end c l m stops = one_stop _ _ l (positional (codes "fats") ∷ []) m (missing_argument 1) stops lacks_new

pub returns-clause-nowhere : goal.returns-clause-nowhere
returns-clause-nowhere c l m stops = nothing_parsed _ _ l m stops (positional (codes "fast") ∷ positional (codes "a") ∷ []) means_mode
