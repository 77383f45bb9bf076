use Rattle.std.proofs.Common.{[], ◌∷◌, codes, refl, lit≤}
use Rattle.lexopt_line_spec.specs.Table as spec
use Rattle.lexopt_line_spec.specs.Spelling.{no_words, separator}
use Rattle.lexopt_line_spec.proofs.Worked.{plain_line}
use Rattle.lexopt_laws.proofs.WorkedMeans.{whole_with}
use Rattle.lexopt_laws.proofs.WorkedWords.{front_fats, means_mode, taken_with}
use Rattle.lexopt_laws.proofs.option_examples.lines_mean_words_in_lists.Goals as goal

pub returns-clause-first : goal.returns-clause-first
returns-clause-first c = means_mode

-- `a tar`
pub returns-clause-last : goal.returns-clause-last
returns-clause-last c = whole_with (taken_with 0 tt refl refl) (spec.positional (codes "a") ∷ spec.positional (codes "tar") ∷ [])
    (plain_line (codes "a") refl (plain_line (codes "tar") refl no_words)) refl tt (lit≤ tt) refl refl

-- `slow fats`
pub returns-clause-of_another_positional : goal.returns-clause-of_another_positional
returns-clause-of_another_positional c = whole_with (taken_with 1 tt refl refl) (spec.positional (codes "slow") ∷ spec.positional (codes "fats") ∷ [])
    (plain_line (codes "slow") refl (plain_line (codes "fats") refl no_words)) refl tt (lit≤ tt) refl refl

-- `fast tar`
pub returns-clause-two_lists : goal.returns-clause-two_lists
returns-clause-two_lists c = whole_with (taken_with 0 (lit≤ tt) refl refl) (spec.positional (codes "fast") ∷ spec.positional (codes "tar") ∷ [])
    (plain_line (codes "fast") refl (plain_line (codes "tar") refl no_words)) refl (lit≤ tt) (lit≤ tt) refl refl

-- `tar`
pub returns-clause-left_out : goal.returns-clause-left_out
returns-clause-left_out c =
    whole_with (taken_with 0 (lit≤ tt) refl refl) (spec.positional (codes "tar") ∷ []) (plain_line (codes "tar") refl no_words) refl (lit≤ tt) (lit≤ tt) refl refl

-- `-- fast -v`
pub returns-clause-after_the_separator : goal.returns-clause-after_the_separator
returns-clause-after_the_separator c =
    whole_with (taken_with 1 tt refl refl) (spec.positional (codes "fast") ∷ spec.positional (codes "-v") ∷ []) (separator (codes "fast" ∷ codes "-v" ∷ [])) refl tt (lit≤ tt) refl refl

pub returns-clause-front : goal.returns-clause-front
returns-clause-front c = front_fats
