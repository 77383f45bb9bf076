use Rattle.std.proofs.Common.{refl}
use Rattle.lexopt_line_spec.proofs.Computing.{computing}
use Rattle.lexopt_line_spec.proofs.SpellerAgrees.{are_words}
use Rattle.lexopt_laws.proofs.spell_examples.options_of_optional_values_have_these_words.Goals as goal

pub returns : goal.returns
unfolding computing
returns c = record {
  alone = are_words _ _ _ _ refl;
  attached = are_words _ _ _ _ refl;
  attached_switched_off = are_words _ _ _ _ refl;
  empty = are_words _ _ _ _ refl;
  after_a_mark = are_words _ _ _ _ refl;
  equals_switched_off = are_words _ _ _ _ refl;
}
