use Rattle.std.proofs.Common.{[], ◌∷◌, codes, refl, inl, lit<, lit≤}
use Rattle.lexopt_spec.specs.Steps.{after_separator, next_word, no_word, no_word_left, nothing_to_take, reads_separator, takes_word, word_left}
use Rattle.lexopt_spec.specs.Runs.{value}
use Rattle.lexopt_line_spec.specs.Table.{short, long, kind}
use Rattle.lexopt_line_spec.proofs.Computing.{computing}
use Rattle.lexopt_line_spec.proofs.Worked.{reads_first, reads_name, reads_plain}
use Rattle.lexopt_options_spec.specs.Stops.{no_value, not_complete, not_declared, too_few}
use Rattle.lexopt_laws.proofs.AnyWords.{any_taken}
use Rattle.lexopt_laws.proofs.Missing.{is_first_missing}
use Rattle.lexopt_laws.proofs.WorkedRequired.{lacks_both, lacks_user}
use Rattle.lexopt_laws.proofs.WorkedStops.{at_first, after_flag, after_positional, after_value}
use Rattle.lexopt_laws.proofs.option_examples.lines_stop_at_what_is_missing.Goals as goal

pub returns-clause-option : goal.returns-clause-option
returns-clause-option c = lacks_user

pub returns-clause-no_words : goal.returns-clause-no_words
returns-clause-no_words c = at_first (not_complete 4 _ (inl (next_word refl refl (no_word refl refl refl))) (lit≤ tt) (any_taken refl (lit≤ tt)) (is_first_missing _ _ 4 refl))

pub returns-clause-after_a_positional : goal.returns-clause-after_a_positional
returns-clause-after_a_positional c = after_positional (codes "a") _ (lit≤ tt) (inl (reads_plain _ (codes "a") [] refl refl refl refl))
    (not_complete 4 _ (inl (next_word refl refl (no_word refl refl refl))) (lit≤ tt) (any_taken refl (lit≤ tt)) (is_first_missing _ _ 4 refl))

-- `-- --user=me`
pub returns-clause-after_the_separator : goal.returns-clause-after_the_separator
returns-clause-after_the_separator c =
    after_positional (codes "--user=me") _ tt (inl (next_word refl refl (reads_separator (codes "--user=me" ∷ []) refl (word_left (codes "--user=me") [] refl refl refl))))
    (not_complete 4 _ (inl (after_separator refl refl (no_word_left refl refl refl))) (lit≤ tt) (any_taken refl tt) (is_first_missing _ _ 4 refl))

-- `-v`
pub returns-clause-first_of_two : goal.returns-clause-first_of_two
unfolding kind computing
returns-clause-first_of_two c = after_flag (short 0x76) 0 _ refl refl (lit≤ tt) (inl (reads_first _ 0x76 [] [] refl refl refl refl))
    (not_complete 1 _ (inl (next_word refl refl (no_word refl refl refl))) (lit≤ tt) (any_taken refl (lit≤ tt)) (is_first_missing _ _ 1 refl))

-- `-o f`
pub returns-clause-second_of_two : goal.returns-clause-second_of_two
unfolding kind computing
returns-clause-second_of_two c = after_value (short 0x6F) 1 (codes "f") _ _ refl refl (lit≤ tt) refl (inl (reads_first _ 0x6F [] (codes "f" ∷ []) refl refl refl refl))
    (inl (takes_word (codes "f") [] refl refl refl refl))
    (not_complete 2 _ (inl (next_word refl refl (no_word refl refl refl))) (lit≤ tt) (any_taken refl (lit≤ tt)) (is_first_missing _ _ 2 refl))

pub returns-clause-both : goal.returns-clause-both
returns-clause-both c = lacks_both

-- `-u me -z`
pub returns-clause-not_declared : goal.returns-clause-not_declared
unfolding kind computing
returns-clause-not_declared c = after_value (short 0x75) 4 (codes "me") _ _ refl refl (lit≤ tt) refl (inl (reads_first _ 0x75 [] (codes "me" ∷ codes "-z" ∷ []) refl refl refl refl))
    (inl (takes_word (codes "me") (codes "-z" ∷ []) refl refl refl refl))
    (not_declared (short 0x7A) _ (inl (reads_first _ 0x7A [] [] refl refl refl refl)) refl)

-- `-z`
pub returns-clause-not_declared_without_it : goal.returns-clause-not_declared_without_it
unfolding kind computing
returns-clause-not_declared_without_it c = at_first (not_declared (short 0x7A) _ (inl (reads_first _ 0x7A [] [] refl refl refl refl)) refl)

-- `--user`
pub returns-clause-no_value : goal.returns-clause-no_value
unfolding kind computing
returns-clause-no_value c =
    at_first (no_value (long (codes "user")) 4 (codes "--user") value _ _ (inl (reads_name _ 0x75 (codes "ser") [] refl refl refl refl)) refl refl (inl (nothing_to_take refl refl refl refl)))

pub returns-clause-none_of_one : goal.returns-clause-none_of_one
returns-clause-none_of_one c = at_first (too_few _ (inl (next_word refl refl (no_word refl refl refl))) (lit< tt))

-- `a`
pub returns-clause-one_of_two : goal.returns-clause-one_of_two
returns-clause-one_of_two c = after_positional (codes "a") _ tt (inl (reads_plain _ (codes "a") [] refl refl refl refl))
    (too_few _ (inl (next_word refl refl (no_word refl refl refl))) (lit< tt))
