use Rattle.lexopt_options.proofs.Common.{◌≤◌, ◌<◌, ◌-◌, ℕ, map, positional_view, least, Fits}
use Rattle.lexopt_options.proofs.taken.can_fit.Given as goal

abbrev pub invariant-loop-spare : goal.invariant-loop-spare
invariant-loop-spare g l = let ps = map positional_view l.positionals in (s : ℕ) → l.count - least ps ≤ s → s < l.spare
    → ¬ Fits ps l.words l.next s
