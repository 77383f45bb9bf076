use Rattle.lexopt_words.proofs.Answered.{AreAfter}
use Rattle.std.specs.Prelude.{vec_len}
use Rattle.lexopt_words.proofs.arguments.ask_for_words.Given as goal

abbrev pub invariant-loop : goal.invariant-loop
invariant-loop g l = AreAfter (g.S.WordSource.answers l.source) (vec_len l.words) l.words.items
