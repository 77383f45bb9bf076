use Rattle.std.proofs.Common.{◌≡◌, ◌++◌, map, take}
use Rattle.lexopt_runtime_options.specs.Shared.{own_option, shared_option}
use Rattle.lexopt_runtime_options.proofs.combined.Combined.with_shared.Given as goal

abbrev pub invariant-loop-option : goal.invariant-loop-option
invariant-loop-option g l = l.options.items ≡ map own_option (take l.option-index l.declaration.options.now)

abbrev pub invariant-loop-option-2 : goal.invariant-loop-option-2
invariant-loop-option-2 g l = l.options.items ≡ map own_option l.declaration.options.now ++ map shared_option (take l.option-index l.group.options.now)
