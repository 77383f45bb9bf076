use Rattle.std.proofs.Common.{[], ◌∷◌, Some, None, codes, refl}
use Rattle.lexopt_line_spec.proofs.Computing.{computing}
use Rattle.lexopt_options_spec.specs.Legal.{option, several}
use Rattle.lexopt_laws.proofs.WorkedOpen.{after_a_flag, at_the_start, at_the_start_otherwise}
use Rattle.lexopt_laws.proofs.WorkedRoles as worked
use Rattle.lexopt_laws.proofs.option_examples.values_are_joined.Goals as goal

pub returns-clause-after_no_words : goal.returns-clause-after_no_words
unfolding computing
returns-clause-after_no_words c = worked.joins at_the_start [] (option 1 (Some (codes "fi"))) worked.output_means refl (codes "--output=") (codes "fi") refl refl (codes "--output=", (refl, refl))

pub returns-clause-after_a_flag : goal.returns-clause-after_a_flag
unfolding computing
returns-clause-after_a_flag c = worked.joins after_a_flag [] (option 1 (Some (codes "fi"))) worked.output_means refl (codes "--output=") (codes "fi") refl refl (codes "--output=", (refl, refl))

pub returns-clause-in_a_cluster : goal.returns-clause-in_a_cluster
unfolding computing
returns-clause-in_a_cluster c = worked.joins at_the_start (option 0 None ∷ []) (option 1 (Some (codes "fi"))) worked.cluster_means refl (codes "-vo") (codes "fi") refl refl (codes "-vo", (refl, refl))

pub returns-clause-after_a_sign : goal.returns-clause-after_a_sign
unfolding computing
returns-clause-after_a_sign c = worked.joins at_the_start [] (option 1 (Some (codes "fi"))) worked.sign_means refl (codes "-o=") (codes "fi") refl refl (codes "-o=", (refl, refl))

pub returns-clause-without_the_setting : goal.returns-clause-without_the_setting
unfolding computing
returns-clause-without_the_setting c = worked.joins at_the_start_otherwise [] (option 1 (Some (codes "=fi"))) worked.setting_means refl (codes "-o") (codes "=fi") refl refl (codes "-o", (refl, refl))

pub returns-clause-one_of_several : goal.returns-clause-one_of_several
unfolding computing
returns-clause-one_of_several c = worked.joins at_the_start [] (several 3 (codes "a" ∷ [])) worked.several_means refl (codes "-x") (codes "a") refl refl (codes "-x", (refl, refl))

pub returns-clause-flag : goal.returns-clause-flag
returns-clause-flag c i before is = worked.verbose_means_nothing _ is.word_means

pub returns-clause-after_the_separator : goal.returns-clause-after_the_separator
returns-clause-after_the_separator c i before is = worked.closed is.parsed is.is_open

pub returns-clause-value_due : goal.returns-clause-value_due
returns-clause-value_due c i before is = worked.means_no_value is.parsed is.is_open.front

pub returns-clause-no_value : goal.returns-clause-no_value
returns-clause-no_value c i before is = worked.no_value_there is
