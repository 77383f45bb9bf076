use Rattle.lexopt_options.proofs.Common.{sym, ◌∙◌, false≢true, declaration_of}
use Rattle.lexopt_options.proofs.Fronts.{front_comes, nowhere_comes}
use Rattle.lexopt_options.proofs.complete.can_come.Goals as goal

pub returns-then-not-opens : goal.returns-then-not-opens
returns-then-not-opens g c = λ words is.
    front_comes (declaration_of c.args.options.now) words c.in-Some.front _ (rw c.in-Some.is at is)
    ((λ yes. absurd (false≢true yes)), (λ all. absurd (false≢true (sym c.if-not-opens.true ∙ c.opens.ensures ∙ all.0))))

pub returns-then-not-front : goal.returns-then-not-front
returns-then-not-front g c = λ words is.
    front_comes (declaration_of c.args.options.now) words c.in-Some.front _ (rw c.in-Some.is at is)
    ((λ yes. absurd (false≢true yes)), (λ all. absurd (false≢true (sym c.if-not-front.true ∙ all.1))))

pub returns-else-not-front : goal.returns-else-not-front
returns-else-not-front g c = λ words is.
    let can = rw (c.positionals.ensures.view, c.deref.ensures.value) at c.can_be_taken.ensures in
    front_comes (declaration_of c.args.options.now) words c.in-Some.front c.can_be_taken.result (rw c.in-Some.is at is)
    ((λ yes. (sym c.opens.ensures ∙ c.if-not-opens.false, c.if-not-front.false, can.0 yes)), (λ all. can.1 all.2))

pub returns-in-None : goal.returns-in-None
returns-in-None g c = λ words is. nowhere_comes (declaration_of c.args.options.now) words (rw c.in-None.is at is)
