use Rattle.lexopt_options.proofs.Common.{declaration_of}
use Rattle.lexopt_options.proofs.Fronts.{front_role}
use Rattle.lexopt_options.proofs.options.Options.place.Goals as goal

pub returns-in-Some : goal.returns-in-Some
returns-in-Some g c = λ words is.
    let d = declaration_of c.args.self.now in
    rw (c.in-Some.is, c.place_after.ensures d.positionals c.most.ensures)
    (front_role d words c.args.typed.now c.in-Some.front c.begins_with_dash.result (rw c.in-Some.is at is) c.begins_with_dash.ensures)
