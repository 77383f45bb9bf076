use Rattle.lexopt_options_spec.proofs.Common.{[], ◌∷◌, codes, refl, listed}
use Rattle.lexopt_options_spec.specs.Examples.{positional_of}
use Rattle.lexopt_options_spec.proofs.list_examples.bad_lists_are_found.Goals as goal

pub returns-clause-first : goal.returns-clause-first
returns-clause-first c = record { positional = positional_of (codes "HOW") [] (listed []); here = refl; bad = refl; before = refl }

pub returns-clause-last : goal.returns-clause-last
returns-clause-last c = record { positional = positional_of (codes "HOW") [] (listed (codes "-" ∷ [])); here = refl; bad = refl; before = refl }
