use Rattle.lexopt_declaration.proofs.Common.{◌≡◌, map, drop, required_placeholder, positional_view}
use Rattle.lexopt_declaration.proofs.positionals.argument_placeholder.Given as goal

abbrev pub invariant-loop-positional : goal.invariant-loop-positional
invariant-loop-positional g l =
    required_placeholder (map positional_view (drop l.positional-index l.positionals)) l.left ≡ required_placeholder (map positional_view l.positionals) l.n
