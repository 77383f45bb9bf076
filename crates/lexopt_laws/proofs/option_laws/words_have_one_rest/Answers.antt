use Rattle.std.proofs.Common.{subst, true, ◌≡◌}
use Rattle.lexopt_options_spec.specs.Legal.{are_accepted}
use Rattle.lexopt_options_spec.proofs.OneRest.{front_alone, mistaken, one_rest}
use Rattle.lexopt_options_spec.proofs.States.{front_says, says_once}
use Rattle.lexopt_laws.proofs.option_laws.words_have_one_rest.Goals as goal

pub returns-clause-one : goal.returns-clause-one
returns-clause-one c = λ start. one_rest {start_of = start}

pub returns-clause-alone : goal.returns-clause-alone
returns-clause-alone c = front_alone

pub returns-clause-none : goal.returns-clause-none
returns-clause-none c = λ start d words front word more l m mistake stops of split means.
    mistaken {start_of = start} d words front word more split m stops.there mistake stops.read of stops.stops
    (λ index value is. subst (λ x. are_accepted d.options x ≡ true) (says_once d front l split.l (front_says d front l means.whole.front) split.says) means.whole.accepted)
