use Rattle.std.proofs.Common.{refl}
use Rattle.lexopt_line_spec.proofs.Computing.{computing}
use Rattle.lexopt_line_spec.proofs.SpellerAgrees.{are_words}
use Rattle.lexopt_laws.proofs.spell_examples.flags_and_options_of_one_value_have_these_words.Goals as goal

pub returns : goal.returns
unfolding computing
returns c = record {
  nothing = are_words _ _ _ _ refl;
  in_words = are_words _ _ _ _ refl;
  in_words_switched_off = are_words _ _ _ _ refl;
  value_like_an_option = are_words _ _ _ _ refl;
  empty_value_in_a_word = are_words _ _ _ _ refl;
  joined_to_a_name = are_words _ _ _ _ refl;
  dash_after_a_flag = are_words _ _ _ _ refl;
  equals_as_a_flag = are_words _ _ _ _ refl;
}
