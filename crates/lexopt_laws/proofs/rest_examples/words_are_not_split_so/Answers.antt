use Rattle.std.proofs.Common.{◌≡◌, ◌∷◌, [], List, codes, ℕ}
use Rattle.lexopt_options_spec.proofs.OneRest.{front_alone, one_rest}
use Rattle.lexopt_laws.proofs.WorkedRest.{behind_separator, flag_then_separator, flag_then_word, separator_alone, values_alone}
use Rattle.lexopt_laws.proofs.rest_examples.words_are_not_split_so.Goals as goal

pub returns-clause-with_the_separator : goal.returns-clause-with_the_separator
returns-clause-with_the_separator c = λ split.
    let same : codes "-x" ∷ [] ≡ codes "--" ∷ codes "-x" ∷ [] = (one_rest _ _ _ _ _ _ _ _ flag_then_separator split).1 in cc

pub returns-clause-with_an_option : goal.returns-clause-with_an_option
returns-clause-with_an_option c = λ split.
    let same : codes "a" ∷ codes "-x" ∷ [] ≡ codes "-v" ∷ codes "a" ∷ codes "-x" ∷ [] = (one_rest _ _ _ _ _ _ _ _ flag_then_word split).1 in cc

pub returns-clause-before_the_separator : goal.returns-clause-before_the_separator
returns-clause-before_the_separator c = λ split.
    let same : codes "-x" ∷ codes "b" ∷ [] ≡ codes "a" ∷ codes "-v" ∷ codes "--" ∷ codes "-x" ∷ codes "b" ∷ [] = (one_rest _ _ _ _ _ _ _ _ behind_separator split).1 in cc

pub returns-clause-among_values : goal.returns-clause-among_values
returns-clause-among_values c = front_alone _ _ _ values_alone

pub returns-clause-separator_alone : goal.returns-clause-separator_alone
returns-clause-separator_alone c = front_alone _ _ _ separator_alone
