use Rattle.std.proofs.Common.{◌≡◌, ◌<◌, ℕ, false, map}
use Rattle.lexopt_options_spec.specs.Declaration.{has}
use Rattle.lexopt_options_spec.specs.Legal.{clash}
use Rattle.lexopt_declaration.specs.Models.{option_view}
use Rattle.lexopt_options.proofs.read.first_clash.Given as goal

abbrev pub invariant-loop-index : goal.invariant-loop-index
invariant-loop-index g l =
    (i j : ℕ) → i < l.index → clash (map option_view l.options) (λ k. has k l.seen) i j ≡ false
