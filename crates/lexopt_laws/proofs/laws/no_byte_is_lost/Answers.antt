use Rattle.lexopt_line_spec.proofs.RunAccounts.{run_keeps, run_shown, run_suffix}
use Rattle.lexopt_laws.proofs.SameAccounts.{call_accounts}
use Rattle.lexopt_laws.proofs.GivenItems.{step_given}
use Rattle.lexopt_laws.proofs.laws.no_byte_is_lost.Goals as goal

pub returns-clause-bytes : goal.returns-clause-bytes
returns-clause-bytes c = λ u v calls replies run. run_keeps u calls replies v run

pub returns-clause-handed_out : goal.returns-clause-handed_out
returns-clause-handed_out c = λ u v calls replies run. run_shown u calls replies v run

pub returns-clause-words : goal.returns-clause-words
returns-clause-words c = λ u v calls replies run. run_suffix u calls replies v run

pub returns-clause-one_account : goal.returns-clause-one_account
returns-clause-one_account c = λ call u v w r s one other. call_accounts call u r s v w one other

pub returns-clause-as_they_are : goal.returns-clause-as_they_are
returns-clause-as_they_are c = λ call u v r step other. step_given call u r v step other
