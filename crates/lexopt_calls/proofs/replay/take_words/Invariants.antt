use Rattle.std.proofs.Common.{◌≡◌}
use Rattle.lexopt_spec.specs.Views.{WordItems}
use Rattle.lexopt_calls.proofs.replay.take_words.Given as goal

abbrev pub invariant-loop-asked : goal.invariant-loop-asked
invariant-loop-asked l =
    (l.view.parser.ghost_name ≡ l.fn.view.parser.ghost_name)
    × WordItems l._asked l.fn.view.parser.now l.items.items l.view.parser.now
