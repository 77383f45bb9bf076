use Rattle.std.proofs.Common.{refl}
use Rattle.lexopt_line_spec.proofs.Computing.{computing}
use Rattle.lexopt_line_spec.proofs.SpellerAgrees.{is_fault}
use Rattle.lexopt_laws.proofs.spell_examples.items_are_refused.Goals as goal

pub returns : goal.returns
unfolding computing
returns c = record {
  flag_with_a_value = is_fault _ _ _ _ refl;
  no_value = is_fault _ _ _ _ refl;
  no_values = is_fault _ _ _ _ refl;
  values_as_one = is_fault _ _ _ _ refl;
  one_as_values = is_fault _ _ _ _ refl;
  empty_attached = is_fault _ _ _ _ refl;
  option_after_values = is_fault _ _ _ _ refl;
  option_before_values = is_fault _ _ _ _ refl;
  no_name = is_fault _ _ _ _ refl;
  no_name_and_no_value = is_fault _ _ _ _ refl;
  name_with_a_mark = is_fault _ _ _ _ refl;
  after_the_separator = is_fault _ _ _ _ refl;
  values_before_a_positional = is_fault _ _ _ _ refl;
  after_a_row = is_fault _ _ _ _ refl;
  dash_alone = is_fault _ _ _ _ refl;
}
