use Rattle.std.proofs.Common.{◌∷◌, codes, refl}
use Rattle.lexopt_line_spec.proofs.Computing.{computing}
use Rattle.lexopt_laws.proofs.WorkedNames.{nearest_is, nothing_near, not_this, not_none}
use Rattle.lexopt_laws.proofs.option_examples.names_are_near.Goals as goal

pub returns-clause-of_four : goal.returns-clause-of_four
unfolding computing
returns-clause-of_four c = nearest_is (codes "verbsoe") 0 1 _ refl refl refl refl

pub returns-clause-tie : goal.returns-clause-tie
unfolding computing
returns-clause-tie c = nearest_is (codes "bax") 0 1 _ refl refl refl refl

pub returns-clause-nearer : goal.returns-clause-nearer
unfolding computing
returns-clause-nearer c = nearest_is (codes "ouptut") 1 1 _ refl refl refl refl

pub returns-clause-a_third : goal.returns-clause-a_third
unfolding computing
returns-clause-a_third c = nearest_is (codes "abc") 0 1 _ refl refl refl refl

pub returns-clause-more_than_a_third : goal.returns-clause-more_than_a_third
unfolding computing
returns-clause-more_than_a_third c = nothing_near (codes "ab") refl

pub returns-clause-characters : goal.returns-clause-characters
unfolding computing
returns-clause-characters c = nearest_is (codes "eab") 0 1 _ refl refl refl refl

pub returns-clause-typed_characters : goal.returns-clause-typed_characters
unfolding computing
returns-clause-typed_characters c = nearest_is (0xC3 ∷ 0xA9 ∷ codes "ab") 0 1 _ refl refl refl refl

pub returns-clause-far : goal.returns-clause-far
unfolding computing
returns-clause-far c = nothing_near (codes "colour") refl

pub returns-clause-no_long_name : goal.returns-clause-no_long_name
unfolding computing
returns-clause-no_long_name c = nothing_near (codes "verbose") refl

pub returns-clause-not_the_second : goal.returns-clause-not_the_second
unfolding computing
returns-clause-not_the_second c = not_this (codes "bax") 1 0 refl (nearest_is (codes "bax") 0 1 _ refl refl refl refl)

pub returns-clause-not_the_farther : goal.returns-clause-not_the_farther
unfolding computing
returns-clause-not_the_farther c = not_this (codes "ouptut") 0 1 refl (nearest_is (codes "ouptut") 1 1 _ refl refl refl refl)

pub returns-clause-not_none : goal.returns-clause-not_none
unfolding computing
returns-clause-not_none c = not_none (codes "verbsoe") 0 (nearest_is (codes "verbsoe") 0 1 _ refl refl refl refl)
