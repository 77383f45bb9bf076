use Rattle.lexopt_options.proofs.Given.{AreDone, word_count}
use Rattle.lexopt_options.proofs.places.give_all.Given as goal

abbrev pub invariant-loop-own : goal.invariant-loop-own
invariant-loop-own g l = AreDone l.positionals (word_count l.fn.parsed) l.fn.parsed l.parsed l.own-index l.word
