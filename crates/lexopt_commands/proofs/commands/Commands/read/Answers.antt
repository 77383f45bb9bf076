use Rattle.lexopt_commands.proofs.Common.{◌∷◌, inl, inr, declaration_of, IfOk-weaker, first_asked}
use Rattle.lexopt_commands.proofs.LinesRead.{none_asked, of_asked, of_name, of_parsed}
use Rattle.lexopt_commands.proofs.commands.Commands.read.Goals as goal

pub returns-in-Parsed-clause-line : goal.returns-in-Parsed-clause-line
returns-in-Parsed-clause-line g c =
    let read = rw (c.options.ensures.same, c.in-Parsed.is) at c.in_ok-line.ensures.read in
    IfOk-weaker c.end.result _ _ (λ it after. inr (record { rest = c.in_ok-line.rest.items; parsed = c.in-Parsed.parsed; read = read; after = after })) c.end.ensures

pub returns-in-Asked-clause-line : goal.returns-in-Asked-clause-line
returns-in-Asked-clause-line g c =
    inl (c.in_ok-line.rest.items, rw (c.options.ensures.same, c.in-Asked.is) at c.in_ok-line.ensures.read)

pub returns-in-Refused-clause-line : goal.returns-in-Refused-clause-line
returns-in-Refused-clause-line g c =
    inl (c.in_ok-line.rest.items, rw (c.options.ensures.same, c.in-Refused.is) at c.in_ok-line.ensures.read)

pub returns-in-Parsed-clause-answered : goal.returns-in-Parsed-clause-answered
returns-in-Parsed-clause-answered g c = λ l rest means.
    let s = c.args.self.now in
    let of = (rw (c.options.ensures.same, c.in-Parsed.is) at c.in_ok-line.ensures.answered) l rest means in
    IfOk-weaker c.end.result _ _ (λ it after. of_parsed s l rest c.in_ok-line.rest.items c.in-Parsed.parsed.items it of.0.0 of.0.1 of.1 after) c.end.ensures

pub returns-in-Asked-clause-answered : goal.returns-in-Asked-clause-answered
returns-in-Asked-clause-answered g c = λ l rest means.
    let s = c.args.self.now in
    of_asked s l rest c.in-Asked.asked ((rw (c.options.ensures.same, c.in-Asked.is) at c.in_ok-line.ensures.answered) l rest means)

pub returns-in-Refused-clause-answered : goal.returns-in-Refused-clause-answered
returns-in-Refused-clause-answered g c = λ l rest means.
    absurd ((rw (c.options.ensures.same, c.in-Refused.is) at c.in_ok-line.ensures.answered) l rest means)

pub returns-in-Parsed-clause-named : goal.returns-in-Parsed-clause-named
returns-in-Parsed-clause-named g c = λ i own key l rest at is means none.
    let s = c.args.self.now in
    let of = (rw (c.options.ensures.same, c.in-Parsed.is) at c.in_ok-line.ensures.answered) l (own.name.now ∷ rest) means in
    IfOk-weaker c.end.result _ _ (λ it after. of_name s i own key l rest c.in_ok-line.rest.items c.in-Parsed.parsed.items it at is of.0.1 of.1 after) c.end.ensures

pub returns-in-Asked-clause-named : goal.returns-in-Asked-clause-named
returns-in-Asked-clause-named g c = λ i own key l rest at is means none.
    let s = c.args.self.now in
    absurd (none_asked (first_asked (declaration_of s.options).options l) _ none ((rw (c.options.ensures.same, c.in-Asked.is) at c.in_ok-line.ensures.answered) l (own.name.now ∷ rest) means))

pub returns-in-Refused-clause-named : goal.returns-in-Refused-clause-named
returns-in-Refused-clause-named g c = λ i own key l rest at is means none.
    absurd ((rw (c.options.ensures.same, c.in-Refused.is) at c.in_ok-line.ensures.answered) l (own.name.now ∷ rest) means)
