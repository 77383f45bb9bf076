use Rattle.std.proofs.Common.{[], ◌∷◌, codes, refl, inl, lit≤}
use Rattle.lexopt_spec.specs.Steps.{next_word, no_word}
use Rattle.lexopt_line_spec.specs.Table.{short, kind}
use Rattle.lexopt_line_spec.proofs.Computing.{computing}
use Rattle.lexopt_line_spec.proofs.Worked.{reads_first, reads_plain}
use Rattle.lexopt_options_spec.specs.Stops.{not_complete, not_declared, not_taken, one_too_many}
use Rattle.lexopt_laws.proofs.Missing.{is_first_missing}
use Rattle.lexopt_laws.proofs.WorkedStops.{after_positional}
use Rattle.lexopt_laws.proofs.WorkedWords.{after_two, lacks_new, refused_with, refuses_both, refuses_form, refuses_mode, refuses_mode_first, taken_with}
use Rattle.lexopt_laws.proofs.option_examples.lines_stop_at_words.Goals as goal

pub returns-clause-first : goal.returns-clause-first
returns-clause-first c = refuses_mode

pub returns-clause-last : goal.returns-clause-last
returns-clause-last c = refuses_form

-- `fas`
pub returns-clause-front_of_one : goal.returns-clause-front_of_one
returns-clause-front_of_one c = after_positional (codes "fas") _ tt (inl (reads_plain _ (codes "fas") [] refl refl refl refl))
    (not_taken 0 (codes "fas") _ (inl (next_word refl refl (no_word refl refl refl))) (lit≤ tt) (refused_with 0 tt refl refl))

pub returns-clause-first_of_two : goal.returns-clause-first_of_two
returns-clause-first_of_two c = refuses_both

-- `fast rar`
pub returns-clause-second_of_two : goal.returns-clause-second_of_two
returns-clause-second_of_two c =
    after_two (codes "fast") (codes "rar") _ _ (lit≤ tt) (lit≤ tt) (inl (reads_plain _ (codes "fast") (codes "rar" ∷ []) refl refl refl refl))
    (inl (reads_plain _ (codes "rar") [] refl refl refl refl))
    (not_taken 1 (codes "rar") _ (inl (next_word refl refl (no_word refl refl refl))) (lit≤ tt) (refused_with 0 (lit≤ tt) refl refl))

-- `fast`, where it is FORM
pub returns-clause-left_out : goal.returns-clause-left_out
returns-clause-left_out c = after_positional (codes "fast") _ (lit≤ tt) (inl (reads_plain _ (codes "fast") [] refl refl refl refl))
    (not_taken 1 (codes "fast") _ (inl (next_word refl refl (no_word refl refl refl))) (lit≤ tt) (refused_with 0 (lit≤ tt) refl refl))

pub returns-clause-option_missing : goal.returns-clause-option_missing
returns-clause-option_missing c = refuses_mode_first

-- `fast a`, where an option is missing
pub returns-clause-option_alone_missing : goal.returns-clause-option_alone_missing
returns-clause-option_alone_missing c =
    after_two (codes "fast") (codes "a") _ _ tt tt (inl (reads_plain _ (codes "fast") (codes "a" ∷ []) refl refl refl refl)) (inl (reads_plain _ (codes "a") [] refl refl refl refl))
    (not_complete 4 _ (inl (next_word refl refl (no_word refl refl refl))) (lit≤ tt) (taken_with 1 tt refl refl) (is_first_missing _ _ 4 refl))

pub returns-clause-argument_missing : goal.returns-clause-argument_missing
returns-clause-argument_missing c = lacks_new

-- `fats -z`
pub returns-clause-before_another_mistake : goal.returns-clause-before_another_mistake
unfolding kind computing
returns-clause-before_another_mistake c = after_positional (codes "fats") _ tt (inl (reads_plain _ (codes "fats") (codes "-z" ∷ []) refl refl refl refl))
    (not_declared (short 0x7A) _ (inl (reads_first _ 0x7A [] [] refl refl refl refl)) refl)

-- `fats a`, where there is no FILE
pub returns-clause-one_too_many : goal.returns-clause-one_too_many
returns-clause-one_too_many c = after_positional (codes "fats") _ (lit≤ tt) (inl (reads_plain _ (codes "fats") (codes "a" ∷ []) refl refl refl refl))
    (one_too_many (codes "a") _ (inl (reads_plain _ (codes "a") [] refl refl refl refl)) refl)
