use Rattle.std.proofs.Common.{◌≡◌}
use Rattle.lexopt_options_spec.specs.Declaration as spec
use Rattle.lexopt_declaration.specs.Models.{option_view}
use Rattle.lexopt_runtime_options.proofs.OptionNames.{others_fault}
use Rattle.lexopt_runtime_options.proofs.faults.all_names_fault.Given as goal

abbrev pub invariant-loop-names : goal.invariant-loop-names
invariant-loop-names g l = spec.names_fault spec.name_fault (spec.all_names (option_view l.option)) ≡ others_fault l.option.aliases.now l.names-index
