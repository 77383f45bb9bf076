use Rattle.std.proofs.Common.{refl}
use Rattle.lexopt_line_spec.proofs.Computing.{computing}
use Rattle.lexopt_line_spec.proofs.SpellerAgrees.{are_words}
use Rattle.lexopt_laws.proofs.spell_examples.options_of_several_values_have_these_words.Goals as goal

pub returns : goal.returns
unfolding computing
returns c = record {
  words = are_words _ _ _ _ refl;
  first_like_an_option = are_words _ _ _ _ refl;
  one = are_words _ _ _ _ refl;
  one_before_a_positional = are_words _ _ _ _ refl;
  one_before_positionals = are_words _ _ _ _ refl;
  one_joined = are_words _ _ _ _ refl;
  several_before_a_positional = are_words _ _ _ _ refl;
}
