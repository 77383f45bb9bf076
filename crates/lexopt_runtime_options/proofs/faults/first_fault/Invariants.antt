use Rattle.std.proofs.Common.{◌≡◌, true, map, take, is_none, []}
use Rattle.std.specs.List.{list_all}
use Rattle.lexopt_options_spec.specs.Declaration.{faults}
use Rattle.lexopt_declaration.specs.Models.{option_view}
use Rattle.lexopt_runtime_options.proofs.faults.first_fault.Given as goal

abbrev pub invariant-loop-index : goal.invariant-loop-index
invariant-loop-index g l = list_all is_none (take l.index (faults [] (map option_view l.options))) ≡ true
