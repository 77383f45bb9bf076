use Rattle.std.proofs.Common.{◌≡◌}
use Rattle.lexopt_spec.specs.Views.{ValueItems}
use Rattle.lexopt_base.specs.Stages.{stage_of}
use Rattle.lexopt_base.proofs.values.take_values.Given as goal

abbrev pub invariant-loop-asked : goal.invariant-loop-asked
invariant-loop-asked l =
    (l.view.parser.ghost_name ≡ l.fn.view.parser.ghost_name)
    × ValueItems l._asked (stage_of l.fn.view.stage) l.fn.view.parser.now l.items.items l.view.parser.now (stage_of l.view.stage)
