use Rattle.std.proofs.Common.{◌≡◌, [], ◌∷◌, codes, refl, inl, lit<, lit≤}
use Rattle.lexopt_spec.specs.Steps.{joined_value, equals_value, next_in_cluster, nothing_to_take, next_word, no_word}
use Rattle.lexopt_spec.specs.Runs.{value, values}
use Rattle.lexopt_line_spec.specs.Table.{short, long, kind}
use Rattle.lexopt_line_spec.proofs.Computing.{computing}
use Rattle.lexopt_line_spec.proofs.Worked.{some, not_mark, reads_first, reads_name, reads_joined, reads_plain, misses_values}
use Rattle.lexopt_options_spec.specs.Stops.{not_declared, value_of_flag, no_value, one_too_many, too_few}
use Rattle.lexopt_laws.proofs.WorkedStops.{at_first, after_flag, after_positional}
use Rattle.lexopt_laws.proofs.option_examples.lines_stop_at_these_mistakes.Goals as goal

-- `-z`
pub returns-clause-unknown : goal.returns-clause-unknown
unfolding kind computing
returns-clause-unknown c = at_first (not_declared (short 0x7A) _ (inl (reads_first _ 0x7A [] [] refl refl refl refl)) refl)

-- `--colour=always`
pub returns-clause-unknown_with_a_value : goal.returns-clause-unknown_with_a_value
unfolding kind computing
returns-clause-unknown_with_a_value c = at_first (not_declared (long (codes "colour")) _ (inl (reads_joined _ (codes "colour") (codes "always") [] refl refl refl refl)) refl)

-- the byte FF
pub returns-clause-damaged : goal.returns-clause-damaged
unfolding kind computing
returns-clause-damaged c = at_first (not_declared (short 0xFFFD) _ (inl (reads_first _ 0xFF [] [] refl refl refl refl)) refl)

-- `--verbose=1`
pub returns-clause-value_of_a_flag : goal.returns-clause-value_of_a_flag
unfolding kind computing
returns-clause-value_of_a_flag c = after_flag (long (codes "verbose")) 0 _ refl refl tt (inl (reads_joined _ (codes "verbose") (codes "1") [] refl refl refl refl))
    (value_of_flag (codes "--verbose") (codes "1") _ (inl (joined_value (codes "1") (codes "--verbose") refl refl refl refl)))

-- `-v=1`
pub returns-clause-value_of_a_character : goal.returns-clause-value_of_a_character
unfolding kind computing
returns-clause-value_of_a_character c = after_flag (short 0x76) 0 _ refl refl tt (inl (reads_first _ 0x76 (codes "=1") [] refl refl refl refl))
    (value_of_flag (codes "-v") (codes "1") _ (inl (equals_value (codes "1") (codes "-v") refl refl refl refl refl)))

pub returns-clause-under_its_setting : goal.returns-clause-under_its_setting
unfolding kind computing
returns-clause-under_its_setting c = after_flag (short 0x76) 0 _ refl refl tt (inl (reads_first _ 0x76 (codes "=1") [] refl refl refl refl))
    (not_declared (short 0x3D) _ (inl (next_in_cluster (codes "=1") refl (not_mark _ (codes "=1") refl) (record { some = some _ _; reply_is = refl; after_is = refl }))) refl)

-- `-verbose`
pub returns-clause-in_a_cluster : goal.returns-clause-in_a_cluster
unfolding kind computing
returns-clause-in_a_cluster c = after_flag (short 0x76) 0 _ refl refl tt (inl (reads_first _ 0x76 (codes "erbose") [] refl refl refl refl))
    (not_declared (short 0x65) _ (inl (next_in_cluster (codes "erbose") refl (λ both. let e : 0x65 ≡ 0x3D = both.1 in cc) (record { some = some _ _; reply_is = refl; after_is = refl }))) refl)

-- `-o`
pub returns-clause-no_value : goal.returns-clause-no_value
unfolding kind computing
returns-clause-no_value c = at_first (no_value (short 0x6F) 1 (codes "-o") value _ _ (inl (reads_first _ 0x6F [] [] refl refl refl refl)) refl refl (inl (nothing_to_take refl refl refl refl)))

-- `-x -v`
pub returns-clause-none_of_several : goal.returns-clause-none_of_several
unfolding kind computing
returns-clause-none_of_several c =
    at_first (no_value (short 0x78) 3 (codes "-x") (values 1) _ _ (inl (reads_first _ 0x78 [] (codes "-v" ∷ []) refl refl refl refl)) refl (1, refl) (inl (misses_values 1 _ refl refl)))

-- `--output`
pub returns-clause-none_of_a_long_name : goal.returns-clause-none_of_a_long_name
unfolding kind computing
returns-clause-none_of_a_long_name c =
    at_first (no_value (long (codes "output")) 1 (codes "--output") value _ _ (inl (reads_name _ 0x6F (codes "utput") [] refl refl refl refl)) refl refl (inl (nothing_to_take refl refl refl refl)))

pub returns-clause-no_positional : goal.returns-clause-no_positional
returns-clause-no_positional c = at_first (one_too_many (codes "a") _ (inl (reads_plain _ (codes "a") [] refl refl refl refl)) refl)

pub returns-clause-one_too_many : goal.returns-clause-one_too_many
returns-clause-one_too_many c = after_positional (codes "a") _ (lit≤ tt) (inl (reads_plain _ (codes "a") (codes "b" ∷ []) refl refl refl refl))
    (one_too_many (codes "b") _ (inl (reads_plain _ (codes "b") [] refl refl refl refl)) refl)

pub returns-clause-one_too_few : goal.returns-clause-one_too_few
returns-clause-one_too_few c = after_positional (codes "a") _ (lit≤ tt) (inl (reads_plain _ (codes "a") [] refl refl refl refl))
    (too_few _ (inl (next_word refl refl (no_word refl refl refl))) (lit< tt))

pub returns-clause-another_mistake_first : goal.returns-clause-another_mistake_first
unfolding kind computing
returns-clause-another_mistake_first c = at_first (not_declared (short 0x7A) _ (inl (reads_first _ 0x7A [] [] refl refl refl refl)) refl)
