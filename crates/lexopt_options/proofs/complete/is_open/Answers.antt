use Rattle.lexopt_options.proofs.Fronts.{front_opens, nowhere_opens}
use Rattle.lexopt_options.proofs.complete.is_open.Goals as goal

pub returns-in-Some : goal.returns-in-Some
returns-in-Some c = λ d words is. rw c.opens.ensures (front_opens d words c.in-Some.front (rw c.in-Some.is at is))

pub returns-in-None : goal.returns-in-None
returns-in-None c = λ d words is. nowhere_opens d words (rw c.in-None.is at is)
