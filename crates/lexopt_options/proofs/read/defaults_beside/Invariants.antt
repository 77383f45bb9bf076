use Rattle.std.proofs.Common.{List, map}
use Rattle.lexopt_options_spec.specs.Legal as legal
use Rattle.lexopt_declaration.specs.Models.{option_view}
use Rattle.lexopt_options.specs.Reading.{AreSeen}
use Rattle.lexopt_options.proofs.Defaults.{AreAdded}
use Rattle.lexopt_options.proofs.read.defaults_beside.Given as goal

abbrev pub invariant-loop-index : goal.invariant-loop-index
invariant-loop-index g l =
    (m : List legal.Parsed) → AreSeen (map option_view l.options) m l.seen → AreAdded l.options m l.index l.defaults.items
