use Rattle.std.proofs.Common.{Option, IfOk, sym, subst, ℕ}
use Rattle.lexopt_spec.specs.UnreadLine.{UnreadLine}
use Rattle.lexopt_options.specs.Declarations.{declaration_of}
use Rattle.lexopt_options.specs.Reading.{StopsAtOption, UndeclaredNext}
use Rattle.lexopt_options.proofs.ReadNext.{stops_at_long, stops_at_short}
use Rattle.lexopt_options.proofs.read.unknown_option.Goals as goal

pub returns-in-Some : goal.returns-in-Some
returns-in-Some g c =
    let d = declaration_of c.args.options.now in
    subst (λ (short : Option ℕ). IfOk c.unknown_short.result (λ m. (u : UnreadLine) → UndeclaredNext d u short c.args.parser.now → StopsAtOption d u m)) (sym c.in-Some.is)
    (stops_at_short d c.args.parser.now c.in-Some.option c.unknown_short.result c.unknown_short.ensures)

pub returns-in-None : goal.returns-in-None
returns-in-None g c =
    let d = declaration_of c.args.options.now in
    subst (λ (short : Option ℕ). IfOk c.unknown_long.result (λ m. (u : UnreadLine) → UndeclaredNext d u short c.args.parser.now → StopsAtOption d u m)) (sym c.in-None.is)
    (stops_at_long d c.args.parser.now c.long_name.result.now c.unknown_long.result c.long_name.ensures c.unknown_long.ensures)
