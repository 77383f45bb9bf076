use Rattle.lexopt_base.proofs.parser.Parser.from_iter.Goals as goal

pub returns-clause-ok : goal.returns-clause-ok
returns-clause-ok g c = (c.in_ok-all.all.items, c.in_ok-all.ensures, c.in_ok-invoked.ensures)
