use Rattle.std.proofs.Common.{[], ◌∷◌, lit≤}
use Rattle.lexopt_options_spec.proofs.States.{no_role_nowhere}
use Rattle.lexopt_laws.specs.Sample.{files}
use Rattle.lexopt_laws.proofs.WorkedRoles as worked
use Rattle.lexopt_laws.proofs.WorkedRoles.{plain_role}
use Rattle.lexopt_laws.proofs.option_examples.plain_words_have_roles.Goals as goal

pub returns-clause-after_a_flag : goal.returns-clause-after_a_flag
returns-clause-after_a_flag c typed undashed = plain_role typed undashed (worked.flag_leaves (files ∷ [])) tt

pub returns-clause-after_a_positional : goal.returns-clause-after_a_positional
returns-clause-after_a_positional c typed undashed = plain_role typed undashed worked.positional_leaves tt

pub returns-clause-no_more_positionals : goal.returns-clause-no_more_positionals
returns-clause-no_more_positionals c typed undashed = plain_role typed undashed (worked.flag_leaves []) (lit≤ tt)

pub returns-clause-after_an_optional_value : goal.returns-clause-after_an_optional_value
returns-clause-after_an_optional_value c typed undashed = plain_role typed undashed worked.optional_leaves tt

pub returns-clause-value_due : goal.returns-clause-value_due
returns-clause-value_due c typed undashed = plain_role typed undashed worked.value_leaves (lit≤ tt)

pub returns-clause-first_value_due : goal.returns-clause-first_value_due
returns-clause-first_value_due c typed undashed = plain_role typed undashed worked.several_leaves (lit≤ tt)

pub returns-clause-one_more_value : goal.returns-clause-one_more_value
returns-clause-one_more_value c typed undashed = plain_role typed undashed worked.values_leave (lit≤ tt)

pub returns-clause-after_the_separator : goal.returns-clause-after_the_separator
returns-clause-after_the_separator c typed undashed = plain_role typed undashed worked.separator_leaves tt

pub returns-clause-after_a_mistake : goal.returns-clause-after_a_mistake
returns-clause-after_a_mistake c typed undashed = no_role_nowhere _ _ typed worked.unknown_nowhere
