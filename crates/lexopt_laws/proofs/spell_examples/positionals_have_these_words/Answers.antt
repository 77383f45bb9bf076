use Rattle.std.proofs.Common.{refl}
use Rattle.lexopt_line_spec.proofs.Computing.{computing}
use Rattle.lexopt_line_spec.proofs.SpellerAgrees.{are_words}
use Rattle.lexopt_laws.proofs.spell_examples.positionals_have_these_words.Goals as goal

pub returns : goal.returns
unfolding computing
returns c = record {
  plain = are_words _ _ _ _ refl;
  like_an_option = are_words _ _ _ _ refl;
  like_an_option_further_on = are_words _ _ _ _ refl;
}
