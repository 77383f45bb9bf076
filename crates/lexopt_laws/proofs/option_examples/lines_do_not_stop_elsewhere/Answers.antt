use Rattle.std.proofs.Common.{[], ◌∷◌, true, codes, refl, inl, lit<, lit≤}
use Rattle.lexopt_spec.specs.Steps.{next_word, no_word}
use Rattle.lexopt_spec.specs.UnreadLine.{no_tail, rest}
use Rattle.lexopt_line_spec.specs.Table.{short, kind}
use Rattle.lexopt_line_spec.proofs.Computing.{computing}
use Rattle.lexopt_line_spec.proofs.Worked.{reads_first, reads_plain}
use Rattle.lexopt_options_spec.specs.Legal.{positional}
use Rattle.lexopt_options_spec.specs.Stops.{StopsAt, unknown_option, missing_argument, not_declared, too_few}
use Rattle.lexopt_options_spec.proofs.Fronts.{nothing_parsed}
use Rattle.lexopt_laws.specs.Sample.{sample, mode}
use Rattle.lexopt_laws.proofs.OneStop.{one_stop}
use Rattle.lexopt_laws.proofs.WorkedMeans.{two_positionals}
use Rattle.lexopt_laws.proofs.WorkedStops.{at_first, after_positional}
use Rattle.lexopt_laws.proofs.option_examples.lines_do_not_stop_elsewhere.Goals as goal

pub returns-clause-nowhere : goal.returns-clause-nowhere
returns-clause-nowhere c l m stops = nothing_parsed _ _ l m stops (positional (codes "a") ∷ positional (codes "b") ∷ []) two_positionals

-- `-z --verbose=1`
pub returns-clause-at_the_first_mistake : goal.returns-clause-at_the_first_mistake
unfolding kind computing
returns-clause-at_the_first_mistake c l m stops =
    let first : StopsAt (sample (mode ∷ []) true) (codes "-z" ∷ codes "--verbose=1" ∷ []) [] (unknown_option (short 0x7A) no_tail) =
    at_first (not_declared (short 0x7A) _ (inl (reads_first _ 0x7A [] (codes "--verbose=1" ∷ []) refl refl refl refl)) refl) in
    one_stop _ _ l [] m (unknown_option (short 0x7A) no_tail) stops first

-- `-zv`
pub returns-clause-in_a_cluster : goal.returns-clause-in_a_cluster
unfolding kind computing
returns-clause-in_a_cluster c l m stops =
    let first : StopsAt (sample (mode ∷ []) true) (codes "-zv" ∷ []) [] (unknown_option (short 0x7A) (rest (codes "v"))) =
    at_first (not_declared (short 0x7A) _ (inl (reads_first _ 0x7A (codes "v") [] refl refl refl refl)) refl) in
    one_stop _ _ l [] m (unknown_option (short 0x7A) (rest (codes "v"))) stops first

-- `a`
pub returns-clause-what_is_missing : goal.returns-clause-what_is_missing
returns-clause-what_is_missing c l m stops =
    let there : StopsAt (sample (mode ∷ mode ∷ []) true) (codes "a" ∷ []) (positional (codes "a") ∷ []) (missing_argument 1) =
    after_positional (codes "a") _ (lit≤ tt) (inl (reads_plain _ (codes "a") [] refl refl refl refl))
    (too_few _ (inl (next_word refl refl (no_word refl refl refl))) (lit< tt)) in
    one_stop _ _ l (positional (codes "a") ∷ []) m (missing_argument 1) stops there
