use Rattle.std.proofs.Common.{[], ◌∷◌, codes, refl, inl, lit≤}
use Rattle.lexopt_spec.specs.Steps.{optional_pending, pending_value}
use Rattle.lexopt_line_spec.specs.Table.{short, long, kind}
use Rattle.lexopt_line_spec.proofs.Computing.{computing}
use Rattle.lexopt_line_spec.proofs.Worked.{reads_first, reads_joined, reads_name}
use Rattle.lexopt_options_spec.specs.Stops.{not_declared}
use Rattle.lexopt_laws.proofs.WorkedStops.{at_first, after_flag, after_value}
use Rattle.lexopt_laws.proofs.WorkedValues.{attached_medium, front_of_fast, option_missing, argument_missing, refuses_one, refuses_optional, second_of_three, value_before_the_help}
use Rattle.lexopt_laws.proofs.option_examples.lines_stop_at_values.Goals as goal

pub returns-clause-attached : goal.returns-clause-attached
returns-clause-attached c = attached_medium

-- `-v --mode=medium`
pub returns-clause-after_a_flag : goal.returns-clause-after_a_flag
unfolding kind computing
returns-clause-after_a_flag c = after_flag (short 0x76) 0 _ refl refl (lit≤ tt) (inl (reads_first _ 0x76 [] (codes "--mode=medium" ∷ []) refl refl refl refl))
    (refuses_one (long (codes "mode")) 1 (codes "medium") _ _ tt refl refl (lit≤ tt) refl
    (inl (reads_joined _ (codes "mode") (codes "medium") [] refl refl refl refl)) (inl (pending_value (codes "medium") _ refl refl refl)))

-- `-mfast -mmedium`
pub returns-clause-after_a_value : goal.returns-clause-after_a_value
unfolding kind computing
returns-clause-after_a_value c = after_value (short 0x6D) 1 (codes "fast") _ _ refl refl (lit≤ tt) refl (inl (reads_first _ 0x6D (codes "fast") (codes "-mmedium" ∷ []) refl refl refl refl))
    (inl (pending_value (codes "fast") _ refl refl refl))
    (refuses_one (short 0x6D) 1 (codes "medium") _ _ tt refl refl (lit≤ tt) refl (inl (reads_first _ 0x6D (codes "medium") [] refl refl refl refl))
    (inl (pending_value (codes "medium") _ refl refl refl)))

pub returns-clause-front_of_one : goal.returns-clause-front_of_one
returns-clause-front_of_one c = front_of_fast

-- `-b~`
pub returns-clause-optional_value : goal.returns-clause-optional_value
unfolding kind computing
returns-clause-optional_value c =
    at_first (refuses_optional (short 0x62) 2 (codes "~") _ _ tt refl refl (lit≤ tt) refl (inl (reads_first _ 0x62 (codes "~") [] refl refl refl refl)) (inl (optional_pending (codes "~") _ refl refl refl)))

pub returns-clause-first_of_several : goal.returns-clause-first_of_several
returns-clause-first_of_several c = second_of_three

pub returns-clause-before_the_help : goal.returns-clause-before_the_help
returns-clause-before_the_help c = value_before_the_help

-- `--help --mode=medium`
pub returns-clause-after_the_help : goal.returns-clause-after_the_help
unfolding kind computing
returns-clause-after_the_help c = after_flag (long (codes "help")) 4 _ refl refl (lit≤ tt) (inl (reads_name _ 0x68 (codes "elp") (codes "--mode=medium" ∷ []) refl refl refl refl))
    (refuses_one (long (codes "mode")) 1 (codes "medium") _ _ tt refl refl (lit≤ tt) refl
    (inl (reads_joined _ (codes "mode") (codes "medium") [] refl refl refl refl)) (inl (pending_value (codes "medium") _ refl refl refl)))

-- `--mode=medium -z`
pub returns-clause-before_another_mistake : goal.returns-clause-before_another_mistake
unfolding kind computing
returns-clause-before_another_mistake c = at_first (refuses_one (long (codes "mode")) 1 (codes "medium") _ _ tt refl refl (lit≤ tt) refl
    (inl (reads_joined _ (codes "mode") (codes "medium") (codes "-z" ∷ []) refl refl refl refl)) (inl (pending_value (codes "medium") _ refl refl refl)))

-- `-z --mode=medium`
pub returns-clause-after_another_mistake : goal.returns-clause-after_another_mistake
unfolding kind computing
returns-clause-after_another_mistake c = at_first (not_declared (short 0x7A) _ (inl (reads_first _ 0x7A [] (codes "--mode=medium" ∷ []) refl refl refl refl)) refl)

-- `--mode=medium`
pub returns-clause-required : goal.returns-clause-required
unfolding kind computing
returns-clause-required c = at_first (refuses_one (long (codes "mode")) 1 (codes "medium") _ _ tt refl refl (lit≤ tt) refl
    (inl (reads_joined _ (codes "mode") (codes "medium") [] refl refl refl refl)) (inl (pending_value (codes "medium") _ refl refl refl)))

pub returns-clause-option_missing : goal.returns-clause-option_missing
returns-clause-option_missing c = option_missing

pub returns-clause-argument_missing : goal.returns-clause-argument_missing
returns-clause-argument_missing c = argument_missing
