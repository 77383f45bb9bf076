use Rattle.std.proofs.Common.{◌≡◌, map, take, true}
use Rattle.lexopt_options_spec.specs.Declaration.{are_listable}
use Rattle.lexopt_declaration.specs.Models.{positional_view}
use Rattle.lexopt_runtime_options.proofs.faults.first_bad_list.Given as goal

abbrev pub invariant-loop-argument : goal.invariant-loop-argument
invariant-loop-argument g l = are_listable (map positional_view (take l.argument-index l.positionals)) ≡ true
