use Rattle.lexopt_line_spec.proofs.SpellerSound.{words_spell}
use Rattle.lexopt_line_spec.proofs.SpellerFaults.{same_fault, fault_none, shown_as, fault_named}
use Rattle.lexopt_laws.proofs.laws.items_are_spelled_or_one_is_at_fault.Goals as goal

pub returns-clause-spells : goal.returns-clause-spells
returns-clause-spells c = λ t short_equals words l is. words_spell t short_equals l words is

pub returns-clause-shown : goal.returns-clause-shown
returns-clause-shown c = λ t short_equals words l shows.
    let some = shown_as t short_equals words l shows in (some.0, some.1, words_spell t short_equals l some.0 some.1)

pub returns-clause-fault : goal.returns-clause-fault
returns-clause-fault c = λ t short_equals l f is. fault_named t short_equals l f is

pub returns-clause-one_fault : goal.returns-clause-one_fault
returns-clause-one_fault c = λ t short_equals l i j one other. same_fault t short_equals l i j one other

pub returns-clause-none : goal.returns-clause-none
returns-clause-none c = λ t short_equals words l i fault spells. fault_none t short_equals l i words fault spells
