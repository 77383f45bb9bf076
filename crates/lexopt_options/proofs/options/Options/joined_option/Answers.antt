use Rattle.lexopt_options.proofs.Common.{◌∙◌, sym, false≢true, declaration_of, joined_view}
use Rattle.lexopt_options.proofs.Completing.{joined_so_far, none_joined, plain_joined}
use Rattle.lexopt_options.proofs.Fronts.{nowhere_joined}
use Rattle.lexopt_options.proofs.options.Options.joined_option.Goals as goal

pub returns-then-not-opens : goal.returns-then-not-opens
returns-then-not-opens g c = λ words opens. none_joined (declaration_of c.args.self.now) words c.args.typed.now (rw c.if-not-opens.true at opens)

pub returns-then-not-begins_with_dash : goal.returns-then-not-begins_with_dash
returns-then-not-begins_with_dash g c = λ words opens. plain_joined (declaration_of c.args.self.now) words c.args.typed.now (λ dashed. false≢true (sym c.if-not-begins_with_dash.true ∙ c.begins_with_dash.ensures.1 dashed))

pub returns-in-Some : goal.returns-in-Some
returns-in-Some g c =
    let d = declaration_of c.args.self.now in
    let front = rw (c.in-Some.is, c.in_ok-one_word.ensures) at c.in_ok-front.ensures in
    joined_so_far d c.args.typed.now c.args.opens joined_view _ c.if-not-opens.false (λ words opens. c.joined_value.ensures d words opens front.last_is)

pub returns-in-None : goal.returns-in-None
returns-in-None g c = λ words opens.
    let d = declaration_of c.args.self.now in
    nowhere_joined d words c.args.typed.now (rw (c.in-None.is, c.in_ok-one_word.ensures) at c.in_ok-front.ensures)
