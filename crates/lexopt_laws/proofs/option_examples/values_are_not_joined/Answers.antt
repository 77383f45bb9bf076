use Rattle.std.proofs.Common.{[], Some, codes, refl, subst}
use Rattle.lexopt_line_spec.proofs.Worked.{differ}
use Rattle.lexopt_line_spec.proofs.Computing.{computing}
use Rattle.lexopt_options_spec.specs.Legal.{option}
use Rattle.lexopt_options_spec.specs.Completion.{IsOption}
use Rattle.lexopt_laws.proofs.WorkedOpen.{at_the_start}
use Rattle.lexopt_laws.proofs.WorkedRoles as worked
use Rattle.lexopt_laws.proofs.option_examples.values_are_not_joined.Goals as goal

pub returns-clause-not_none : goal.returns-clause-not_none
unfolding computing
returns-clause-not_none c none = none 1 (codes "--output=") (worked.joins at_the_start [] (option 1 (Some (codes "fi"))) worked.output_means refl (codes "--output=") (codes "fi") refl refl (codes "--output=", (refl, refl)))

pub returns-clause-not_another : goal.returns-clause-not_another
returns-clause-not_another c is = differ 1 2 refl (subst (IsOption 2) (worked.output_last is).0 is.is)

pub returns-clause-not_more_before : goal.returns-clause-not_more_before
returns-clause-not_more_before c is = worked.no_shorter_value is

pub returns-clause-flag : goal.returns-clause-flag
returns-clause-flag c is = worked.verbose_means_nothing _ is.word_means

pub returns-clause-after_the_separator : goal.returns-clause-after_the_separator
returns-clause-after_the_separator c is = worked.closed is.parsed is.is_open

pub returns-clause-no_value : goal.returns-clause-no_value
returns-clause-no_value c is = worked.no_value_there is
