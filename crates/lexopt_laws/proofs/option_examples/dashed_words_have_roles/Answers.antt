use Rattle.std.proofs.Common.{[], ◌∷◌, lit≤}
use Rattle.lexopt_options_spec.proofs.States.{no_role_nowhere}
use Rattle.lexopt_laws.specs.Sample.{files}
use Rattle.lexopt_laws.proofs.WorkedRoles as worked
use Rattle.lexopt_laws.proofs.WorkedRoles.{dashed_role}
use Rattle.lexopt_laws.proofs.option_examples.dashed_words_have_roles.Goals as goal

pub returns-clause-after_a_flag : goal.returns-clause-after_a_flag
returns-clause-after_a_flag c typed dashed = dashed_role typed dashed (worked.flag_leaves (files ∷ [])) tt

pub returns-clause-after_an_optional_value : goal.returns-clause-after_an_optional_value
returns-clause-after_an_optional_value c typed dashed = dashed_role typed dashed worked.optional_leaves tt

pub returns-clause-value_due : goal.returns-clause-value_due
returns-clause-value_due c typed dashed = dashed_role typed dashed worked.value_leaves (lit≤ tt)

pub returns-clause-first_value_due : goal.returns-clause-first_value_due
returns-clause-first_value_due c typed dashed = dashed_role typed dashed worked.several_leaves (lit≤ tt)

pub returns-clause-one_more_value : goal.returns-clause-one_more_value
returns-clause-one_more_value c typed dashed = dashed_role typed dashed worked.values_leave (lit≤ tt)

pub returns-clause-after_the_separator : goal.returns-clause-after_the_separator
returns-clause-after_the_separator c typed dashed = dashed_role typed dashed worked.separator_leaves tt

pub returns-clause-after_a_mistake : goal.returns-clause-after_a_mistake
returns-clause-after_a_mistake c typed dashed = no_role_nowhere _ _ typed worked.unknown_nowhere
