use Rattle.lexopt_options.proofs.Common.{None, Some, refl, string_bytes, length-map, declaration_of, joined_view}
use Rattle.lexopt_options.proofs.Completing.{joined_declared}
use Rattle.lexopt_options.proofs.options.Options.joined.Goals as goal

pub option_at-requires : goal.option_at-requires
option_at-requires g c =
    let d = declaration_of c.args.self.now in
    let is = rw c.in-Some.is at c.in_ok-index.ensures c.requires.0 c.requires.1 in
    rw c.options.ensures.same (rw length-map at (joined_declared d c.requires.0 c.args.typed.now c.in-Some.index (string_bytes c.in-Some.before) is))

pub returns-in-Some : goal.returns-in-Some
returns-in-Some g c = λ words opens. (
  Some (joined_view (c.in-Some.index, c.in-Some.before)),
  rw c.in-Some.is at c.in_ok-index.ensures words opens,
  (rw c.options.ensures.same at c.option_at.ensures, refl),
)

pub returns-in-None : goal.returns-in-None
returns-in-None g c = λ words opens. (None, rw c.in-None.is at c.in_ok-index.ensures words opens, tt)
