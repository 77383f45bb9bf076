use Rattle.std.proofs.Common.{refl}
use Rattle.lexopt_line_spec.proofs.Computing.{computing}
use Rattle.lexopt_line_spec.proofs.SpellerAgrees.{is_fault}
use Rattle.lexopt_laws.proofs.spell_examples.first_reasons_are_given.Goals as goal

pub returns : goal.returns
unfolding computing
returns c = record {
  name = is_fault _ _ _ _ refl;
  values = is_fault _ _ _ _ refl;
  empty = is_fault _ _ _ _ refl;
  separator = is_fault _ _ _ _ refl;
}
