use Rattle.std.proofs.Common.{◌≡◌, [], ◌∷◌, true, false, codes, refl, sym, lit<, lit≤, true≢false}
use Rattle.std.proofs.lemmas.Str.{IsUtf8-from_is_utf8}
use Rattle.lexopt_line_spec.proofs.Computing.{computing}
use Rattle.lexopt_options_spec.specs.Completion.{is_free}
use Rattle.lexopt_options_spec.proofs.Apart.{none_exclude}
use Rattle.lexopt_options_spec.proofs.Offered.{offered_completes}
use Rattle.lexopt_laws.specs.Sample.{demanding_sample, exclusive_sample, hiding_sample, sample}
use Rattle.lexopt_laws.proofs.AnyWords.{any_filled}
use Rattle.lexopt_laws.proofs.WorkedOpen as worked
use Rattle.lexopt_laws.proofs.WorkedOpen.{exclusive_named, exclusive_open, exclusive_text, free_of_first, hiding_named, hiding_text, sample_named, sample_text, not_beside, not_completed, not_offered, no_utf8}
use Rattle.lexopt_laws.proofs.WorkedRequired.{demanding_named, demanding_text, open_without_user}
use Rattle.lexopt_laws.proofs.option_examples.what_is_typed_is_completed.Goals as goal

pub returns-clause-front : goal.returns-clause-front
unfolding computing
returns-clause-front c = offered_completes _ _ _ (codes "--out") _ (λ i. true) refl sample_text sample_named worked.at_the_start refl (any_filled refl refl (lit≤ tt)) (λ i passes k before. none_exclude (sample [] true).options refl k i) (IsUtf8-from_is_utf8 (codes "--out") refl) (0, lit< tt, refl)

pub returns-clause-whole : goal.returns-clause-whole
unfolding computing
returns-clause-whole c = offered_completes _ _ _ (codes "-v") _ (λ i. true) refl sample_text sample_named worked.at_the_start refl (any_filled refl refl (lit≤ tt)) (λ i passes k before. none_exclude (sample [] true).options refl k i) (IsUtf8-from_is_utf8 (codes "-v") refl) (0, lit< tt, refl)

pub returns-clause-nothing : goal.returns-clause-nothing
unfolding computing
returns-clause-nothing c = offered_completes _ _ _ [] _ (λ i. true) refl sample_text sample_named worked.after_a_flag refl (any_filled refl refl (lit≤ tt)) (λ i passes k before. none_exclude (sample [] true).options refl k i) (IsUtf8-from_is_utf8 [] refl) (5, lit< tt, refl)

pub returns-clause-required : goal.returns-clause-required
unfolding computing
returns-clause-required c = offered_completes _ _ _ (codes "--us") _ (λ i. true) refl demanding_text demanding_named open_without_user refl (any_filled refl refl (lit≤ tt)) (λ i passes k before. none_exclude (demanding_sample [] true).options refl k i) (IsUtf8-from_is_utf8 (codes "--us") refl) (0, lit< tt, refl)

pub returns-clause-beside_a_hidden_option : goal.returns-clause-beside_a_hidden_option
unfolding computing
returns-clause-beside_a_hidden_option c = offered_completes _ _ _ (codes "--") _ (λ i. true) refl hiding_text hiding_named worked.before_hidden refl (any_filled refl refl (lit≤ tt)) (λ i passes k before. none_exclude hiding_sample.options refl k i) (IsUtf8-from_is_utf8 (codes "--") refl) (0, lit< tt, refl)

pub returns-clause-hidden_option : goal.returns-clause-hidden_option
unfolding computing
returns-clause-hidden_option c is = not_completed _ _ _ (codes "--output") refl is

pub returns-clause-front_of_a_hidden_option : goal.returns-clause-front_of_a_hidden_option
unfolding computing
returns-clause-front_of_a_hidden_option c is = not_completed _ _ _ (codes "--output") refl is

pub returns-clause-whole_hidden_option : goal.returns-clause-whole_hidden_option
unfolding computing
returns-clause-whole_hidden_option c = offered_completes _ _ _ (codes "-o") _ (λ i. true) refl hiding_text hiding_named worked.before_hidden refl (any_filled refl refl (lit≤ tt)) (λ i passes k before. none_exclude hiding_sample.options refl k i) (IsUtf8-from_is_utf8 (codes "-o") refl) (0, lit< tt, refl)

pub returns-clause-another : goal.returns-clause-another
unfolding computing
returns-clause-another c is = let e : false ≡ true = is.begins in true≢false (sym e)

pub returns-clause-no_option : goal.returns-clause-no_option
unfolding computing
returns-clause-no_option c is = not_offered _ _ (codes "-z") refl is.possible

pub returns-clause-again_beside_an_exclusive_option : goal.returns-clause-again_beside_an_exclusive_option
unfolding computing
returns-clause-again_beside_an_exclusive_option c =
    offered_completes _ _ _ (codes "--verb") _ (is_free exclusive_sample.options (0 ∷ [])) refl exclusive_text exclusive_named exclusive_open refl (any_filled refl refl (lit≤ tt)) (free_of_first exclusive_sample.options) (IsUtf8-from_is_utf8 (codes "--verb") refl) (0, lit< tt, refl)

pub returns-clause-excluded : goal.returns-clause-excluded
unfolding computing
returns-clause-excluded c is = not_beside (codes "--q") (codes "--quiet") refl is

pub returns-clause-excluded_whole : goal.returns-clause-excluded_whole
unfolding computing
returns-clause-excluded_whole c is = not_beside (codes "--quiet") (codes "--quiet") refl is

pub returns-clause-part_of_a_character : goal.returns-clause-part_of_a_character
unfolding computing
returns-clause-part_of_a_character c d words is = no_utf8 (0x2D ∷ 0xC3 ∷ []) refl is.text
