use Rattle.lexopt_options.proofs.Common.{length-map, declaration_of, place_view}
use Rattle.lexopt_options.proofs.Completing.{role_declared}
use Rattle.lexopt_options.proofs.options.Options.role.Goals as goal

pub role_of-requires : goal.role_of-requires
role_of-requires g c =
    let d = declaration_of c.args.self.now in
    let before = c.requires.1 in
    let has = rw c.in-Some.is at c.requires.2 in (
      before,
      rw c.options.ensures.same (rw length-map at (role_declared d c.requires.0 c.args.typed.now (place_view before c.in-Some.place) has)),
    )

pub returns-in-Some : goal.returns-in-Some
returns-in-Some g c = λ before.
    rw c.in-Some.is (rw c.options.ensures.same at (c.role_of.ensures before))
