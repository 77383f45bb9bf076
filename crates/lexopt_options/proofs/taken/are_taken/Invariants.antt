use Rattle.lexopt_options.proofs.Common.{drop, map, positional_view, greedy, owners}
use Rattle.lexopt_options.proofs.TakenWords.{IsAt}
use Rattle.lexopt_options.proofs.taken.are_taken.Given as goal

abbrev pub invariant-loop-index : goal.invariant-loop-index
invariant-loop-index g l = let ps = map positional_view l.positionals in
    IsAt ps (owners 0 (greedy ps l.spare)) l.words (drop l.index l.words) l.index
