use Rattle.lexopt_options.proofs.Common.{map, positional_view}
use Rattle.lexopt_options.proofs.TakenWords.{OwnersUpTo}
use Rattle.lexopt_options.proofs.taken.owners_of.Given as goal

abbrev pub invariant-loop-index : goal.invariant-loop-index
invariant-loop-index g l = OwnersUpTo (map positional_view l.positionals) l.words l.index l.owners.items
