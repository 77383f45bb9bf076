use Rattle.lexopt_options.proofs.Common.{◌≡◌, false, declaration_of, bound, Separated}
use Rattle.lexopt_options.proofs.Fronts.{HasReached}
use Rattle.lexopt_options.proofs.front.read_front.Given as goal

abbrev pub invariant-loop-last : goal.invariant-loop-last
invariant-loop-last g l = HasReached (declaration_of l.options) l.initial.parser l.parser l.words.items l.all_accepted l.last l.going_on l.seen.items
    × (l.begins ≡ Separated → l.parser.ended ≡ false)

abbrev pub decreases-loop-last : goal.decreases-loop-last
decreases-loop-last g l = bound l.parser
