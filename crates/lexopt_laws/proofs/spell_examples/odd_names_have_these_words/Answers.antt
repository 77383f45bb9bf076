use Rattle.std.proofs.Common.{refl}
use Rattle.lexopt_line_spec.proofs.Computing.{computing}
use Rattle.lexopt_line_spec.proofs.SpellerAgrees.{are_words}
use Rattle.lexopt_laws.proofs.spell_examples.odd_names_have_these_words.Goals as goal

pub returns : goal.returns
unfolding computing
returns c = record {
  dash_of_one = are_words _ _ _ _ refl;
  dash_optional = are_words _ _ _ _ refl;
  dash_of_several = are_words _ _ _ _ refl;
  no_name_of_several = are_words _ _ _ _ refl;
  replacement = are_words _ _ _ _ refl;
  damage_in_a_value = are_words _ _ _ _ refl;
}
