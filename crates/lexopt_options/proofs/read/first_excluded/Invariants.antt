use Rattle.std.proofs.Common.{◌≡◌, ◌<◌, ℕ, false, map}
use Rattle.lexopt_options_spec.specs.Declaration.{has}
use Rattle.lexopt_options_spec.specs.Legal.{clash}
use Rattle.lexopt_declaration.specs.Models.{option_view}
use Rattle.lexopt_options.proofs.read.first_excluded.Given as goal

abbrev pub invariant-loop-other : goal.invariant-loop-other
invariant-loop-other g l =
    (i : ℕ) → i < l.other → clash (map option_view l.options) (λ k. has k l.seen) l.index i ≡ false
