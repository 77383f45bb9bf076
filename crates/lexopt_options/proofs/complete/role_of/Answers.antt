use Rattle.lexopt_options.proofs.complete.role_of.Goals as goal

pub option_at-requires : goal.option_at-requires
option_at-requires g c = rw c.in-Value.is at c.requires.1

pub returns-in-Value : goal.returns-in-Value
returns-in-Value g c = λ words. rw c.in-Value.is c.option_at.ensures

pub returns-in-Argument : goal.returns-in-Argument
returns-in-Argument g c = λ words. rw c.in-Argument.is tt
