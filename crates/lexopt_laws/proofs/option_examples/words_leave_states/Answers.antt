use Rattle.std.proofs.Common.{[], ◌∷◌}
use Rattle.lexopt_laws.specs.Sample.{files}
use Rattle.lexopt_laws.proofs.WorkedRoles as worked
use Rattle.lexopt_laws.proofs.option_examples.words_leave_states.Goals as goal

pub returns-clause-after_a_flag : goal.returns-clause-after_a_flag
returns-clause-after_a_flag c = worked.flag_leaves (files ∷ [])

pub returns-clause-after_a_positional : goal.returns-clause-after_a_positional
returns-clause-after_a_positional c = worked.positional_leaves

pub returns-clause-no_more_positionals : goal.returns-clause-no_more_positionals
returns-clause-no_more_positionals c = worked.flag_leaves []

pub returns-clause-after_an_optional_value : goal.returns-clause-after_an_optional_value
returns-clause-after_an_optional_value c = worked.optional_leaves

pub returns-clause-value_due : goal.returns-clause-value_due
returns-clause-value_due c = worked.value_leaves

pub returns-clause-first_value_due : goal.returns-clause-first_value_due
returns-clause-first_value_due c = worked.several_leaves

pub returns-clause-one_more_value : goal.returns-clause-one_more_value
returns-clause-one_more_value c = worked.values_leave

pub returns-clause-after_the_separator : goal.returns-clause-after_the_separator
returns-clause-after_the_separator c = worked.separator_leaves

pub returns-clause-after_a_mistake : goal.returns-clause-after_a_mistake
returns-clause-after_a_mistake c = worked.unknown_nowhere
