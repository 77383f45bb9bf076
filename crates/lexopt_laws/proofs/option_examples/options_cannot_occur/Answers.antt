use Rattle.std.proofs.Common.{◌≡◌, [], ◌∷◌, true, Some, codes, refl, sym, ap, ◌∙◌, inl}
use Rattle.std.proofs.lemmas.Bool.{false≢true}
use Rattle.lexopt_spec.specs.Runs.{values}
use Rattle.lexopt_spec.specs.UnreadLine.{no_tail}
use Rattle.lexopt_line_spec.specs.Table as spec
use Rattle.lexopt_line_spec.specs.Table.{short, kind}
use Rattle.lexopt_line_spec.specs.Spelling.{separator}
use Rattle.lexopt_line_spec.proofs.Computing.{computing}
use Rattle.lexopt_line_spec.proofs.Worked.{reads_first, misses_values}
use Rattle.lexopt_options_spec.specs.Legal.{MeansFront, are_accepted, option, positional}
use Rattle.lexopt_options_spec.specs.Stops.{StopsAt, unknown_option, missing_value, not_declared, no_value}
use Rattle.lexopt_options_spec.proofs.Fronts.{comes_to, no_front, one_front}
use Rattle.lexopt_options_spec.proofs.Occurs.{occurs_accepted, occurs_open}
use Rattle.lexopt_laws.specs.Sample.{sample, files, listed_options}
use Rattle.lexopt_laws.proofs.WorkedOpen.{not_offered}
use Rattle.lexopt_laws.proofs.WorkedRoles.{means_no_value, closed}
use Rattle.lexopt_laws.proofs.WorkedMeans.{front_of}
use Rattle.lexopt_laws.proofs.WorkedStops.{at_first}
use Rattle.lexopt_laws.proofs.WorkedValues.{front_medium}
use Rattle.lexopt_laws.proofs.WorkedWords.{nothing_after_fats}
use Rattle.lexopt_laws.proofs.option_examples.options_cannot_occur.Goals as goal

pub returns-clause-not_declared : goal.returns-clause-not_declared
unfolding computing
returns-clause-not_declared c = not_offered _ _ (codes "-z") refl

pub returns-clause-cluster : goal.returns-clause-cluster
unfolding computing
returns-clause-cluster c = not_offered _ _ (codes "-vo") refl

pub returns-clause-joined_value : goal.returns-clause-joined_value
unfolding computing
returns-clause-joined_value c = not_offered _ _ (codes "--output=f") refl

pub returns-clause-separator : goal.returns-clause-separator
unfolding computing
returns-clause-separator c = not_offered _ _ (codes "--") refl

-- `-o`
pub returns-clause-value_due : goal.returns-clause-value_due
returns-clause-value_due c s possible = means_no_value possible.before possible.words_say

pub returns-clause-not_open_to_an_option : goal.returns-clause-not_open_to_an_option
returns-clause-not_open_to_an_option c l is = means_no_value l is.front

-- `-x`
pub returns-clause-first_value_due : goal.returns-clause-first_value_due
unfolding kind computing
returns-clause-first_value_due c s possible =
    let stops : StopsAt (sample [] true) (codes "-x" ∷ []) [] (missing_value 3 (codes "-x")) =
    at_first (no_value (short 0x78) 3 (codes "-x") (values 1) _ _ (inl (reads_first _ 0x78 [] [] refl refl refl refl)) refl (1, refl) (inl (misses_values 1 _ refl refl))) in
    no_front _ _ [] (missing_value 3 (codes "-x")) (comes_to stops) tt possible.before possible.words_say

-- `-z`
pub returns-clause-after_a_mistake : goal.returns-clause-after_a_mistake
unfolding kind computing
returns-clause-after_a_mistake c s possible =
    let stops : StopsAt (sample [] true) (codes "-z" ∷ []) [] (unknown_option (short 0x7A) no_tail) =
    at_first (not_declared (short 0x7A) _ (inl (reads_first _ 0x7A [] [] refl refl refl refl)) refl) in
    no_front _ _ [] (unknown_option (short 0x7A) no_tail) (comes_to stops) tt possible.before possible.words_say

-- `-mmedium`
pub returns-clause-after_a_refused_value : goal.returns-clause-after_a_refused_value
returns-clause-after_a_refused_value c s possible =
    let same = one_front _ _ possible.before (option 1 (Some (codes "medium")) ∷ []) possible.words_say front_medium in
    false≢true (sym (ap (are_accepted listed_options) same) ∙ occurs_accepted _ _ s possible)

-- `fats`
pub returns-clause-after_a_refused_word : goal.returns-clause-after_a_refused_word
returns-clause-after_a_refused_word c = nothing_after_fats

-- `--`, and with another one
pub returns-clause-not_open : goal.returns-clause-not_open
returns-clause-not_open c = closed

pub returns-clause-after_the_separator : goal.returns-clause-after_the_separator
returns-clause-after_the_separator c s possible = closed possible.before (occurs_open _ _ s possible)

-- `-- a`, and with `--` after it
pub returns-clause-past_the_separator : goal.returns-clause-past_the_separator
returns-clause-past_the_separator c s possible =
    let is = occurs_open _ _ s possible in
    let one : MeansFront (sample (files ∷ []) true) (codes "--" ∷ codes "a" ∷ []) (positional (codes "a") ∷ []) =
    front_of (spec.positional (codes "a") ∷ []) (separator (codes "a" ∷ [])) refl tt in
    let two : MeansFront (sample (files ∷ []) true) (codes "--" ∷ codes "a" ∷ codes "--" ∷ []) (positional (codes "a") ∷ positional (codes "--") ∷ []) =
    front_of (spec.positional (codes "a") ∷ spec.positional (codes "--") ∷ []) (separator (codes "a" ∷ codes "--" ∷ [])) refl tt in
    let e : positional (codes "a") ∷ [] ≡ positional (codes "a") ∷ positional (codes "--") ∷ [] =
    sym (one_front _ _ possible.before (positional (codes "a") ∷ []) is.front one) ∙ one_front _ _ possible.before (positional (codes "a") ∷ positional (codes "--") ∷ []) is.with_separator two in cc
