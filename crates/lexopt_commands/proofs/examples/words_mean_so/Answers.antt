use Rattle.lexopt_commands.proofs.examples.words_mean_so.Goals as goal

pub returns-clause-command : goal.returns-clause-command
returns-clause-command g c = λ own key word rest at is. rw (at, is)

pub returns-clause-another : goal.returns-clause-another
returns-clause-another g c = λ word rest at. rw at

pub returns-clause-help_alone : goal.returns-clause-help_alone
returns-clause-help_alone g c = λ own word at is. rw (at, is)

pub returns-clause-help_of_a_command : goal.returns-clause-help_of_a_command
returns-clause-help_of_a_command g c = λ asks own key first word rest at is other too. rw (at, is, other, too)

pub returns-clause-help_twice : goal.returns-clause-help_twice
returns-clause-help_twice g c = λ asks own first second rest at is other too. rw (at, is, other, too)

pub returns-clause-help_by_option : goal.returns-clause-help_by_option
returns-clause-help_by_option g c = λ asks first rest at is other. rw (at, is, other)

pub returns-clause-help_of_another : goal.returns-clause-help_of_another
returns-clause-help_of_another g c = λ asks first rest at is other. rw (at, is, other)
