use Rattle.std.proofs.Common.{◌≡◌, [], ◌∷◌, true, None, codes, refl, inl, lit<, lit≤}
use Rattle.lexopt_spec.specs.Steps.{joined_value, next_word, no_word}
use Rattle.lexopt_spec.specs.UnreadLine.{no_tail}
use Rattle.lexopt_line_spec.specs.Table.{short, long, kind}
use Rattle.lexopt_line_spec.proofs.Computing.{computing}
use Rattle.lexopt_line_spec.proofs.Worked.{reads_first, reads_joined, reads_plain}
use Rattle.lexopt_options_spec.specs.Stops.{StopsAt, unknown_option, unexpected_value, unexpected_argument, missing_argument, not_declared, value_of_flag, one_too_many, too_few}
use Rattle.lexopt_options_spec.specs.Legal.{option, positional}
use Rattle.lexopt_options_spec.proofs.Fronts.{comes_to, no_front, nothing_parsed, one_front}
use Rattle.lexopt_laws.specs.Sample.{sample, files, mode, target}
use Rattle.lexopt_laws.proofs.WorkedMeans.{two_positionals}
use Rattle.lexopt_laws.proofs.WorkedStops.{at_first, after_flag, after_positional}
use Rattle.lexopt_laws.proofs.option_examples.lines_do_not_say_these.Goals as goal

-- `-z`
pub returns-clause-not_declared : goal.returns-clause-not_declared
unfolding kind computing
returns-clause-not_declared c l means =
    let stops : StopsAt (sample (files ∷ []) true) (codes "-z" ∷ []) [] (unknown_option (short 0x7A) no_tail) =
    at_first (not_declared (short 0x7A) _ (inl (reads_first _ 0x7A [] [] refl refl refl refl)) refl) in
    no_front _ _ [] (unknown_option (short 0x7A) no_tail) (comes_to stops) tt l means

-- `--verbose=1`
pub returns-clause-value_of_a_flag : goal.returns-clause-value_of_a_flag
unfolding kind computing
returns-clause-value_of_a_flag c l means =
    let stops : StopsAt (sample (files ∷ []) true) (codes "--verbose=1" ∷ []) (option 0 None ∷ []) (unexpected_value (codes "--verbose") (codes "1")) =
    after_flag (long (codes "verbose")) 0 _ refl refl tt (inl (reads_joined _ (codes "verbose") (codes "1") [] refl refl refl refl))
    (value_of_flag (codes "--verbose") (codes "1") _ (inl (joined_value (codes "1") (codes "--verbose") refl refl refl refl))) in
    no_front _ _ (option 0 None ∷ []) (unexpected_value (codes "--verbose") (codes "1")) (comes_to stops) tt l means

-- `a b`
pub returns-clause-one_too_many : goal.returns-clause-one_too_many
returns-clause-one_too_many c l means =
    let stops : StopsAt (sample (target ∷ []) true) (codes "a" ∷ codes "b" ∷ []) (positional (codes "a") ∷ []) (unexpected_argument (codes "b")) =
    after_positional (codes "a") _ (lit≤ tt) (inl (reads_plain _ (codes "a") (codes "b" ∷ []) refl refl refl refl))
    (one_too_many (codes "b") _ (inl (reads_plain _ (codes "b") [] refl refl refl refl)) refl) in
    no_front _ _ (positional (codes "a") ∷ []) (unexpected_argument (codes "b")) (comes_to stops) tt l means

-- `a`
pub returns-clause-one_too_few : goal.returns-clause-one_too_few
returns-clause-one_too_few c l means =
    let stops : StopsAt (sample (mode ∷ mode ∷ []) true) (codes "a" ∷ []) (positional (codes "a") ∷ []) (missing_argument 1) =
    after_positional (codes "a") _ (lit≤ tt) (inl (reads_plain _ (codes "a") [] refl refl refl refl))
    (too_few _ (inl (next_word refl refl (no_word refl refl refl))) (lit< tt)) in
    nothing_parsed _ _ (positional (codes "a") ∷ []) (missing_argument 1) stops l means

pub returns-clause-nothing_else : goal.returns-clause-nothing_else
returns-clause-nothing_else c l means = one_front _ _ l (positional (codes "a") ∷ positional (codes "b") ∷ []) means.whole.front two_positionals.whole.front
