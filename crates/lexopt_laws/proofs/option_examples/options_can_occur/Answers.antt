use Rattle.std.proofs.Common.{refl, lit<, lit≤}
use Rattle.lexopt_line_spec.proofs.Computing.{computing}
use Rattle.lexopt_options_spec.proofs.Offered.{offered_occurs}
use Rattle.lexopt_laws.proofs.AnyWords.{any_filled}
use Rattle.lexopt_laws.proofs.WorkedOpen as worked
use Rattle.lexopt_laws.proofs.WorkedOpen.{hiding_named, hiding_text, sample_named, sample_text}
use Rattle.lexopt_laws.proofs.WorkedRequired.{demanding_named, demanding_text, open_before_both, open_without_user}
use Rattle.lexopt_laws.proofs.WorkedWords.{mode_filled, open_after_mode, open_after_source, source_filled}
use Rattle.lexopt_laws.proofs.option_examples.options_can_occur.Goals as goal

pub returns-clause-at_the_start : goal.returns-clause-at_the_start
returns-clause-at_the_start c = worked.at_the_start

pub returns-clause-after_a_flag : goal.returns-clause-after_a_flag
returns-clause-after_a_flag c = worked.after_a_flag

pub returns-clause-after_an_optional_value : goal.returns-clause-after_an_optional_value
returns-clause-after_an_optional_value c = worked.after_an_optional_value

pub returns-clause-after_a_value : goal.returns-clause-after_a_value
returns-clause-after_a_value c = worked.after_a_value

pub returns-clause-after_several_values : goal.returns-clause-after_several_values
returns-clause-after_several_values c = worked.after_several_values

pub returns-clause-before_a_positional : goal.returns-clause-before_a_positional
returns-clause-before_a_positional c = worked.before_a_positional

pub returns-clause-first : goal.returns-clause-first
unfolding computing
returns-clause-first c = offered_occurs _ _ _ _ refl sample_text sample_named worked.before_a_positional refl (any_filled refl refl (lit≤ tt)) (3, lit< tt, refl)

pub returns-clause-again : goal.returns-clause-again
unfolding computing
returns-clause-again c = offered_occurs _ _ _ _ refl sample_text sample_named worked.after_a_flag refl (any_filled refl refl (lit≤ tt)) (0, lit< tt, refl)

pub returns-clause-another : goal.returns-clause-another
unfolding computing
returns-clause-another c = offered_occurs _ _ _ _ refl sample_text sample_named worked.after_an_optional_value refl (any_filled refl refl (lit≤ tt)) (6, lit< tt, refl)

pub returns-clause-past_values : goal.returns-clause-past_values
unfolding computing
returns-clause-past_values c = offered_occurs _ _ _ _ refl sample_text sample_named worked.after_several_values refl (any_filled refl refl (lit≤ tt)) (1, lit< tt, refl)

pub returns-clause-hidden : goal.returns-clause-hidden
unfolding computing
returns-clause-hidden c = offered_occurs _ _ _ _ refl hiding_text hiding_named worked.before_hidden refl (any_filled refl refl (lit≤ tt)) (1, lit< tt, refl)

pub returns-clause-without_a_required_option : goal.returns-clause-without_a_required_option
returns-clause-without_a_required_option c = open_without_user

pub returns-clause-before_a_required_option : goal.returns-clause-before_a_required_option
unfolding computing
returns-clause-before_a_required_option c = offered_occurs _ _ _ _ refl demanding_text demanding_named open_without_user refl (any_filled refl refl (lit≤ tt)) (3, lit< tt, refl)

pub returns-clause-required : goal.returns-clause-required
unfolding computing
returns-clause-required c = offered_occurs _ _ _ _ refl demanding_text demanding_named open_without_user refl (any_filled refl refl (lit≤ tt)) (9, lit< tt, refl)

pub returns-clause-required_character : goal.returns-clause-required_character
unfolding computing
returns-clause-required_character c = offered_occurs _ _ _ _ refl demanding_text demanding_named open_without_user refl (any_filled refl refl (lit≤ tt)) (8, lit< tt, refl)

pub returns-clause-required_with_a_positional : goal.returns-clause-required_with_a_positional
unfolding computing
returns-clause-required_with_a_positional c = offered_occurs _ _ _ _ refl demanding_text demanding_named open_before_both refl (any_filled refl refl (lit≤ tt)) (9, lit< tt, refl)

pub returns-clause-after_a_word : goal.returns-clause-after_a_word
unfolding computing
returns-clause-after_a_word c = offered_occurs _ _ _ _ refl sample_text sample_named open_after_mode refl mode_filled (1, lit< tt, refl)

pub returns-clause-before_words : goal.returns-clause-before_words
unfolding computing
returns-clause-before_words c = offered_occurs _ _ _ _ refl sample_text sample_named open_after_source refl source_filled (1, lit< tt, refl)
