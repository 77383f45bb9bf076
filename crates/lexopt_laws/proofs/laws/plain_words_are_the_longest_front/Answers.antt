use Rattle.lexopt_spec.proofs.PlainFronts.{plain_holds, plain_passes, front_cut, front_only}
use Rattle.lexopt_laws.proofs.laws.plain_words_are_the_longest_front.Goals as goal

pub returns-clause-test : goal.returns-clause-test
returns-clause-test c = λ ended w. (plain_holds ended w, plain_passes ended w)

pub returns-clause-front : goal.returns-clause-front
returns-clause-front c = λ ended words. front_cut ended words

pub returns-clause-no_other : goal.returns-clause-no_other
returns-clause-no_other c = λ ended words front after is. front_only ended words front after is
