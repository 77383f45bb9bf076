use Rattle.std.proofs.Common.{◌≡◌, ◌++◌, take}
use Rattle.std.specs.List.{flat_map}
use Rattle.lexopt_runtime_options.proofs.combined.Combined.new.Given as goal

abbrev pub invariant-loop-group : goal.invariant-loop-group
invariant-loop-group g l = l.options.items ≡ l.declaration.options.now ++ flat_map (λ group. group.options.now) (take l.group-index l.groups)
