use Rattle.std.proofs.Common.{[], ◌∷◌, true, Some, None, codes, refl, inl, lit<, lit≤}
use Rattle.lexopt_spec.specs.Steps.{next_word, no_word}
use Rattle.lexopt_options_spec.specs.Legal.{option}
use Rattle.lexopt_options_spec.specs.Stops.{StopsAt, missing_argument, missing_option, not_complete, too_few}
use Rattle.lexopt_options_spec.proofs.Fronts.{nothing_parsed}
use Rattle.lexopt_laws.specs.Sample.{demanding_sample, sample, sources}
use Rattle.lexopt_laws.proofs.AnyWords.{any_taken}
use Rattle.lexopt_laws.proofs.Missing.{is_first_missing}
use Rattle.lexopt_laws.proofs.OneStop.{one_stop}
use Rattle.lexopt_laws.proofs.WorkedRequired.{has_user, lacks_both, lacks_user}
use Rattle.lexopt_laws.proofs.WorkedStops.{at_first}
use Rattle.lexopt_laws.proofs.option_examples.lines_need_what_is_required.Goals as goal

pub returns-clause-without_it : goal.returns-clause-without_it
returns-clause-without_it c l means = nothing_parsed _ _ (option 0 None ∷ []) (missing_option 4) lacks_user l means

pub returns-clause-without_words : goal.returns-clause-without_words
returns-clause-without_words c l means =
    let stops : StopsAt (demanding_sample [] true) [] [] (missing_option 4) =
    at_first (not_complete 4 _ (inl (next_word refl refl (no_word refl refl refl))) (lit≤ tt) (any_taken refl (lit≤ tt)) (is_first_missing _ _ 4 refl)) in
    nothing_parsed _ _ [] (missing_option 4) stops l means

pub returns-clause-with_it : goal.returns-clause-with_it
returns-clause-with_it c l m stops = nothing_parsed _ _ l m stops (option 4 (Some (codes "me")) ∷ []) has_user

pub returns-clause-not_the_option : goal.returns-clause-not_the_option
returns-clause-not_the_option c l m stops = one_stop _ _ l (option 0 None ∷ []) m (missing_argument 0) stops lacks_both

pub returns-clause-not_another : goal.returns-clause-not_another
returns-clause-not_another c l m stops = one_stop _ _ l (option 0 None ∷ []) m (missing_option 4) stops lacks_user

pub returns-clause-none_of_one : goal.returns-clause-none_of_one
returns-clause-none_of_one c l means =
    let stops : StopsAt (sample (sources ∷ []) true) [] [] (missing_argument 0) =
    at_first (too_few _ (inl (next_word refl refl (no_word refl refl refl))) (lit< tt)) in
    nothing_parsed _ _ [] (missing_argument 0) stops l means
