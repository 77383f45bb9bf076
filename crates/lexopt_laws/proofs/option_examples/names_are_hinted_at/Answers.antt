use Rattle.std.proofs.Common.{◌≡◌, ◌∷◌, [], ℕ, List, Option, Some, None, codes, refl, ap, ◌∙◌}
use Rattle.lexopt_line_spec.proofs.Computing.{computing}
use Rattle.lexopt_options_spec.specs.Nearest.{IsHinted, IsNearest, hinted_names, long_names}
use Rattle.lexopt_options_spec.proofs.Nearest.{one_nearest}
use Rattle.lexopt_laws.specs.Sample.{hiding_options, names_in_re, sample_options}
use Rattle.lexopt_laws.proofs.WorkedNames.{nearest_is, nothing_near}
use Rattle.lexopt_laws.proofs.option_examples.names_are_hinted_at.Goals as goal

-- the hint, if this is the nearest name or none is near
only : (names : List (List ℕ)) (name : List ℕ) (found : Option ℕ) (hints : List (List ℕ)) → IsNearest names name found → IsHinted names name hints → hints ≡ hinted_names names name found
only names name found hints nearest is = is.2 ∙ ap (hinted_names names name) (one_nearest names name is.0 found is.1 nearest)

pub returns-clause-near : goal.returns-clause-near
unfolding computing
returns-clause-near c = (Some 0, nearest_is (codes "verbsoe") 0 1 _ refl refl refl refl, refl)

pub returns-clause-far : goal.returns-clause-far
unfolding computing
returns-clause-far c = (None, nothing_near (codes "colour") refl, refl)

pub returns-clause-not_far : goal.returns-clause-not_far
unfolding computing
returns-clause-not_far c is =
    let e : codes "output" ∷ [] ≡ [] = only (long_names sample_options) (codes "colour") None (codes "output" ∷ []) (nothing_near (codes "colour") refl) is in cc

pub returns-clause-exactly_one : goal.returns-clause-exactly_one
unfolding computing
returns-clause-exactly_one c = (None, nothing_near (codes "verb") refl, refl)

pub returns-clause-several : goal.returns-clause-several
unfolding computing
returns-clause-several c = (None, nothing_near (codes "out") refl, refl)

pub returns-clause-not_the_first_alone : goal.returns-clause-not_the_first_alone
unfolding computing
returns-clause-not_the_first_alone c is =
    let e : codes "outer" ∷ [] ≡ codes "outer" ∷ codes "output" ∷ [] = only (codes "outer" ∷ long_names sample_options) (codes "out") None (codes "outer" ∷ []) (nothing_near (codes "out") refl) is in cc

pub returns-clause-in_no_other_order : goal.returns-clause-in_no_other_order
unfolding computing
returns-clause-in_no_other_order c is =
    let e : codes "output" ∷ codes "outer" ∷ [] ≡ codes "outer" ∷ codes "output" ∷ [] = only (codes "outer" ∷ long_names sample_options) (codes "out") None (codes "output" ∷ codes "outer" ∷ []) (nothing_near (codes "out") refl) is in cc

pub returns-clause-more_than_five : goal.returns-clause-more_than_five
unfolding computing
returns-clause-more_than_five c = (None, nothing_near (codes "re") refl, refl)

pub returns-clause-not_the_sixth : goal.returns-clause-not_the_sixth
unfolding computing
returns-clause-not_the_sixth c is =
    let e : names_in_re ≡ codes "recursive" ∷ codes "reference" ∷ codes "regexp" ∷ codes "remove" ∷ codes "replace" ∷ [] = only names_in_re (codes "re") None names_in_re (nothing_near (codes "re") refl) is in cc

pub returns-clause-empty_name : goal.returns-clause-empty_name
unfolding computing
returns-clause-empty_name c = (None, nothing_near [] refl, refl)

pub returns-clause-empty_name_of_one : goal.returns-clause-empty_name_of_one
unfolding computing
returns-clause-empty_name_of_one c is =
    let e : codes "verbose" ∷ [] ≡ [] = only (codes "verbose" ∷ []) [] None (codes "verbose" ∷ []) (nothing_near [] refl) is in cc

pub returns-clause-near_before_longer : goal.returns-clause-near_before_longer
unfolding computing
returns-clause-near_before_longer c = (Some 2, nearest_is (codes "outpu") 2 1 _ refl refl refl refl, refl)

pub returns-clause-nearest_alone : goal.returns-clause-nearest_alone
unfolding computing
returns-clause-nearest_alone c is =
    let e : codes "outputs" ∷ codes "output" ∷ [] ≡ codes "output" ∷ [] = only (codes "outputs" ∷ long_names sample_options) (codes "outpu") (Some 2) (codes "outputs" ∷ codes "output" ∷ []) (nearest_is (codes "outpu") 2 1 _ refl refl refl refl) is in cc

pub returns-clause-hidden_option : goal.returns-clause-hidden_option
unfolding computing
returns-clause-hidden_option c = (None, nothing_near (codes "ouptut") refl, refl)

pub returns-clause-not_the_hidden_option : goal.returns-clause-not_the_hidden_option
unfolding computing
returns-clause-not_the_hidden_option c is =
    let e : codes "output" ∷ [] ≡ [] = only (long_names hiding_options) (codes "ouptut") None (codes "output" ∷ []) (nothing_near (codes "ouptut") refl) is in cc

pub returns-clause-beside_a_hidden_option : goal.returns-clause-beside_a_hidden_option
unfolding computing
returns-clause-beside_a_hidden_option c = (Some 0, nearest_is (codes "verbsoe") 0 1 _ refl refl refl refl, refl)

pub returns-clause-character : goal.returns-clause-character
returns-clause-character c = refl

pub returns-clause-no_character : goal.returns-clause-no_character
returns-clause-no_character c is = let e : codes "verbose" ∷ [] ≡ [] = is in cc

pub returns-clause-cluster : goal.returns-clause-cluster
unfolding computing
returns-clause-cluster c = refl

pub returns-clause-cluster_later : goal.returns-clause-cluster_later
unfolding computing
returns-clause-cluster_later c = refl

pub returns-clause-cluster_of_a_hidden_option : goal.returns-clause-cluster_of_a_hidden_option
unfolding computing
returns-clause-cluster_of_a_hidden_option c = refl

pub returns-clause-cluster_of_the_rest : goal.returns-clause-cluster_of_the_rest
unfolding computing
returns-clause-cluster_of_the_rest c = refl

pub returns-clause-cluster_of_two_bytes : goal.returns-clause-cluster_of_two_bytes
unfolding computing
returns-clause-cluster_of_two_bytes c = refl

pub returns-clause-cluster_with_a_value : goal.returns-clause-cluster_with_a_value
unfolding computing
returns-clause-cluster_with_a_value c = refl

pub returns-clause-damaged_cluster : goal.returns-clause-damaged_cluster
unfolding computing
returns-clause-damaged_cluster c = refl

pub returns-clause-cluster_of_two : goal.returns-clause-cluster_of_two
unfolding computing
returns-clause-cluster_of_two c = refl
