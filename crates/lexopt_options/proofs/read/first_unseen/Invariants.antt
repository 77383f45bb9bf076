use Rattle.std.proofs.Common.{◌≡◌, ◌<◌, ℕ, true, map}
use Rattle.lexopt_options_spec.specs.Declaration.{has}
use Rattle.lexopt_options_spec.specs.Legal.{is_required}
use Rattle.lexopt_declaration.specs.Models.{option_view}
use Rattle.lexopt_options.proofs.read.first_unseen.Given as goal

abbrev pub invariant-loop-index : goal.invariant-loop-index
invariant-loop-index g l =
    (i : ℕ) → i < l.index → is_required (map option_view l.options) i ≡ true → has i l.seen ≡ true
