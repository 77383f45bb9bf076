use Rattle.std.proofs.Common.{◌≡◌, if◌then◌else◌, map, take}
use Rattle.lexopt_declaration.specs.Models.{positional_view}
use Rattle.lexopt_runtime_options.proofs.Repeated.{repeated_count}
use Rattle.lexopt_runtime_options.proofs.faults.second_repeated.Given as goal

abbrev pub invariant-loop-positional : goal.invariant-loop-positional
invariant-loop-positional g l = repeated_count (map positional_view (take l.positional-index l.positionals)) ≡ (if l.repeated then 1 else 0)
