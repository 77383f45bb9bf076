use Rattle.std.proofs.Common.{List, map, subst, sym}
use Rattle.lexopt_options_spec.specs.Legal.{defaults_beside}
use Rattle.lexopt_declaration.specs.Models.{option_view}
use Rattle.lexopt_declaration.specs.declared.declaration.Declared.{Declared}
use Rattle.lexopt_options.specs.Declarations.{options_of}
use Rattle.lexopt_options.specs.Keys.{AreParsedAs}
use Rattle.lexopt_options.specs.Reading.{AreSeen}
use Rattle.lexopt_options.proofs.Defaults.{after_all}
use Rattle.lexopt_options.proofs.read.after_defaults.Goals as goal

pub returns : goal.returns
returns g c = λ l are own.
    let options = options_of c.args.options.now in
    let defaults = c.in_ok-all.all.items in
    let same = c.options.ensures.same in
    let found = c.in_ok-all.ensures l (subst (λ (os : List (Declared _ _ _ _)). AreSeen (map option_view os) l c.args.seen.now) (sym same) are) in
    after_all options l defaults c.args.parsed.items c.append.new.self.items (subst (λ (os : List (Declared _ _ _ _)). AreParsedAs os (defaults_beside l 0 (map option_view os)) defaults) same found) own c.in_ok-append.ensures.items
