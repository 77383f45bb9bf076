use Rattle.lexopt_line_spec.proofs.SpellerAgrees.{fault_is}
use Rattle.lexopt_laws.proofs.SpellerReasons.{item_nowhere, after_flag, no_option_after}
use Rattle.lexopt_laws.proofs.laws.reasons_are_of_the_item_or_of_its_place.Goals as goal

pub returns-clause-item : goal.returns-clause-item
returns-clause-item c = λ t short_equals l f it others is of dropped words before after spells.
    item_nowhere t short_equals l f it others (fault_is t short_equals l f is) of dropped words before after spells

pub returns-clause-place : goal.returns-clause-place
returns-clause-place c = λ t short_equals l f it others is of dropped letter scalar_is other flag_is.
    after_flag t short_equals l f it others (fault_is t short_equals l f is) of dropped letter scalar_is other flag_is

pub returns-clause-past_separator : goal.returns-clause-past_separator
returns-clause-past_separator c = λ t short_equals l f is reason it other words spells.
    no_option_after t short_equals l f (fault_is t short_equals l f is) reason it other words spells
