use Rattle.lexopt_options.proofs.Common.{map, positional_view}
use Rattle.lexopt_options.proofs.Owners.{IsLeft}
use Rattle.lexopt_options.proofs.places.place_of.Given as goal

abbrev pub invariant-loop-index : goal.invariant-loop-index
invariant-loop-index g l = IsLeft (map positional_view l.positionals) l.fn.spare l.word l.index l.left l.spare
