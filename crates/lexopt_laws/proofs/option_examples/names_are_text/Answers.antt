use Rattle.std.proofs.Common.{[], ◌∷◌, refl}
use Rattle.std.proofs.lemmas.Str.{IsUtf8-from_is_utf8}
use Rattle.lexopt_line_spec.specs.Table.{long}
use Rattle.lexopt_line_spec.proofs.Computing.{computing}
use Rattle.lexopt_laws.proofs.WorkedOpen.{no_utf8, sample_text}
use Rattle.lexopt_laws.proofs.option_examples.names_are_text.Goals as goal

pub returns-clause-long_name : goal.returns-clause-long_name
unfolding computing
returns-clause-long_name c = IsUtf8-from_is_utf8 (0xC3 ∷ 0xA9 ∷ []) refl

pub returns-clause-no_text : goal.returns-clause-no_text
unfolding computing
returns-clause-no_text c = no_utf8 (0xFF ∷ []) refl

pub returns-clause-sample : goal.returns-clause-sample
returns-clause-sample c = sample_text

pub returns-clause-not_the_second : goal.returns-clause-not_the_second
unfolding computing
returns-clause-not_the_second c text = no_utf8 (0xFF ∷ []) refl (text (long (0xFF ∷ [])) refl)
