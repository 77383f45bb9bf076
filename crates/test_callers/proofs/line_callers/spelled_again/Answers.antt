use Rattle.test_callers.proofs.line_callers.spelled_again.Goals as goal

pub returns-in-Ok-spell-clause-end : goal.returns-in-Ok-spell-clause-end
returns-in-Ok-spell-clause-end c = λ final l reading. (c.in-Ok-spell.ensures.parsed final l reading).0
