use Rattle.lexopt_options.proofs.Common.{◌≤◌, drop, map, positional_view, greedy, owners, parsed_words}
use Rattle.lexopt_options.proofs.TakenWords.{IsAt}
use Rattle.lexopt_options.proofs.taken.first_refusal.Given as goal

abbrev pub invariant-loop-own : goal.invariant-loop-own
invariant-loop-own g l = let ps = map positional_view l.positionals in
    (l.index ≤ l.own-index) × IsAt ps (owners 0 (greedy ps l.spare)) (parsed_words l.parsed) (parsed_words (drop l.own-index l.parsed)) l.index
