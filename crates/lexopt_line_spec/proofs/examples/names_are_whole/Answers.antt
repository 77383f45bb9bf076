use Rattle.std.proofs.Common.{[], ◌∷◌, codes, refl, arith, ◌<◌}
use Rattle.lexopt_spec.specs.Pieces.{lossy_characters, replacement}
use Rattle.lexopt_line_spec.proofs.Computing.{computing}
use Rattle.lexopt_line_spec.proofs.Worked.{not_among, differ}
use Rattle.lexopt_line_spec.proofs.examples.names_are_whole.Goals as goal

pub returns-clause-no_items : goal.returns-clause-no_items
unfolding computing
returns-clause-no_items c = tt

pub returns-clause-short : goal.returns-clause-short
unfolding computing
returns-clause-short c = (differ 0x78 replacement refl, tt)

pub returns-clause-short_of_two_bytes : goal.returns-clause-short_of_two_bytes
unfolding computing
returns-clause-short_of_two_bytes c = (differ 0xB5 replacement refl, tt)

pub returns-clause-short_replacement : goal.returns-clause-short_replacement
unfolding computing
returns-clause-short_replacement c = λ whole. whole.0 refl

pub returns-clause-several_replacement : goal.returns-clause-several_replacement
unfolding computing
returns-clause-several_replacement c = λ whole. whole.0 refl

pub returns-clause-long : goal.returns-clause-long
unfolding computing
returns-clause-long c = (
  not_among replacement (lossy_characters (codes "x")) refl,
  (not_among replacement (lossy_characters (codes "out")) refl, (not_among replacement (lossy_characters (codes "exclude")) refl, (not_among replacement (lossy_characters (codes "cmd")) refl, tt))),
)

pub returns-clause-long_of_two_bytes : goal.returns-clause-long_of_two_bytes
unfolding computing
returns-clause-long_of_two_bytes c = (not_among replacement (lossy_characters (0xC2 ∷ 0xB5 ∷ [])) refl, tt)

pub returns-clause-empty : goal.returns-clause-empty
unfolding computing
returns-clause-empty c = (not_among replacement (lossy_characters ([])) refl, tt)

pub returns-clause-long_replacement : goal.returns-clause-long_replacement
unfolding computing
returns-clause-long_replacement c = λ whole. whole.0 (1, (let below : 1 < 2 = omega arith in below), refl)

pub returns-clause-damaged : goal.returns-clause-damaged
unfolding computing
returns-clause-damaged c = λ whole. whole.0 (1, (let below : 1 < 2 = omega arith in below), refl)

pub returns-clause-several_damaged : goal.returns-clause-several_damaged
unfolding computing
returns-clause-several_damaged c = λ whole. whole.0 (0, (let below : 0 < 1 = omega arith in below), refl)

pub returns-clause-not_the_first : goal.returns-clause-not_the_first
unfolding computing
returns-clause-not_the_first c = λ whole. whole.1.0 refl

pub returns-clause-damage_elsewhere : goal.returns-clause-damage_elsewhere
unfolding computing
returns-clause-damage_elsewhere c = (differ 0x6F replacement refl, (differ 0x64 replacement refl, tt))
