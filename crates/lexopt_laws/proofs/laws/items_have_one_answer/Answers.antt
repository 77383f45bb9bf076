use Rattle.lexopt_line_spec.proofs.SpellerAgrees.{some_answer, same_words, same_faults, not_both}
use Rattle.lexopt_laws.proofs.laws.items_have_one_answer.Goals as goal

pub returns-clause-some : goal.returns-clause-some
returns-clause-some c = λ t short_equals l. some_answer t short_equals l

pub returns-clause-words : goal.returns-clause-words
returns-clause-words c = λ t short_equals l words others one other. same_words t short_equals l words others one other

pub returns-clause-fault : goal.returns-clause-fault
returns-clause-fault c = λ t short_equals l f g one other. same_faults t short_equals l f g one other

pub returns-clause-not_both : goal.returns-clause-not_both
returns-clause-not_both c = λ t short_equals l words f one other. not_both t short_equals l words f one other
