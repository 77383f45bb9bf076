use Rattle.lexopt_commands.proofs.Common.{◌≡◌, map, take, positional_view}
use Rattle.lexopt_commands.proofs.wrapper.declared_positionals.Given as goal

abbrev pub invariant-loop-positional : goal.invariant-loop-positional
invariant-loop-positional g l = map positional_view l.all.items ≡ map positional_view (take l.positional-index l.positionals)
