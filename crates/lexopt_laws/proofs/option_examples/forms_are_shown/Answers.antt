use Rattle.std.proofs.Common.{◌≡◌, [], ◌∷◌, Some, codes, refl, sym, subst, true≢false}
use Rattle.std.specs.Char.{IsScalar}
use Rattle.std.specs.Str.{IsUtf8}
use Rattle.std.proofs.lemmas.Str.{IsUtf8-from_is_utf8}
use Rattle.lexopt_line_spec.proofs.Computing.{computing}
use Rattle.lexopt_options_spec.specs.Help.{short_flag, short_one, short_optional, short_optional_value, short_several, long_flag, long_one, long_optional, long_optional_value, long_several, flag_beside, negated_flag}
use Rattle.lexopt_options_spec.specs.Declaration.{a_flag, nothing}
use Rattle.lexopt_laws.proofs.WorkedOpen.{no_utf8}
use Rattle.lexopt_laws.proofs.option_examples.forms_are_shown.Goals as goal

pub returns-clause-short_flag : goal.returns-clause-short_flag
unfolding computing
returns-clause-short_flag c = short_flag 0x76 refl refl

pub returns-clause-short_one : goal.returns-clause-short_one
unfolding computing
returns-clause-short_one c = short_one 0x6F refl refl

pub returns-clause-short_optional : goal.returns-clause-short_optional
unfolding computing
returns-clause-short_optional c = short_optional 0x62 refl refl

pub returns-clause-short_optional_value : goal.returns-clause-short_optional_value
unfolding computing
returns-clause-short_optional_value c = short_optional_value 0x62 refl refl

pub returns-clause-short_several : goal.returns-clause-short_several
unfolding computing
returns-clause-short_several c = short_several 0x78 refl refl

pub returns-clause-long_flag : goal.returns-clause-long_flag
returns-clause-long_flag c = long_flag (codes "verbose") refl refl

pub returns-clause-long_one : goal.returns-clause-long_one
returns-clause-long_one c = long_one (codes "output") refl refl

pub returns-clause-long_optional : goal.returns-clause-long_optional
returns-clause-long_optional c = long_optional (codes "backup") refl refl

pub returns-clause-long_optional_value : goal.returns-clause-long_optional_value
returns-clause-long_optional_value c = long_optional_value (codes "backup") refl refl

pub returns-clause-long_several : goal.returns-clause-long_several
returns-clause-long_several c = long_several (codes "exclude") refl refl

pub returns-clause-flag_beside : goal.returns-clause-flag_beside
unfolding computing
returns-clause-flag_beside c = flag_beside 0x71 (codes "quiet") refl refl refl

pub returns-clause-negated_flag : goal.returns-clause-negated_flag
returns-clause-negated_flag c = negated_flag (codes "verbose") refl refl

pub returns-clause-negated : goal.returns-clause-negated
returns-clause-negated c = long_flag (codes "verbose") refl refl

pub returns-clause-text_names : goal.returns-clause-text_names
unfolding computing
returns-clause-text_names c = record {
  short_scalar = λ d is. let e : Some 0x76 ≡ Some d = is in let same : 0x76 ≡ d = cc in let scalar : IsScalar 0x76 = refl in subst IsScalar same scalar;
  long_text = λ name is. let e : Some (codes "verbose") ≡ Some name = is in let same : codes "verbose" ≡ name = cc in subst IsUtf8 same (IsUtf8-from_is_utf8 (codes "verbose") refl);
  beside_scalar = λ d is. absurd (let e : nothing ≡ a_flag d = is in cc);
}

pub returns-clause-no_character : goal.returns-clause-no_character
returns-clause-no_character c texts = true≢false (sym (texts.short_scalar 0xD800 refl))

pub returns-clause-no_text : goal.returns-clause-no_text
unfolding computing
returns-clause-no_text c texts = no_utf8 (0xFF ∷ []) refl (texts.long_text (0xFF ∷ []) refl)
