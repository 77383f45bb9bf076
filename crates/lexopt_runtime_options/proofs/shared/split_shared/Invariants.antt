use Rattle.std.proofs.Common.{◌≡◌}
use Rattle.std.specs.List.{flat_map}
use Rattle.lexopt_runtime_options.specs.Shared.{own_part, shared_part}
use Rattle.lexopt_runtime_options.proofs.shared.split_shared.Given as goal

abbrev pub invariant-loop-parsed : goal.invariant-loop-parsed
invariant-loop-parsed g l =
    (l.own.items ≡ flat_map own_part l.yielded) × (l.shared.items ≡ flat_map shared_part l.yielded)
