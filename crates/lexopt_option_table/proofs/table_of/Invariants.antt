use Rattle.std.proofs.Common.{◌≡◌, map, take}
use Rattle.lexopt_options_spec.specs.Declaration as spec
use Rattle.lexopt_items.specs.Items.{table_view}
use Rattle.lexopt_declaration.specs.Models.{option_view}
use Rattle.lexopt_option_table.proofs.table_of.Given as goal

abbrev pub invariant-loop-option : goal.invariant-loop-option
invariant-loop-option g l = table_view l.table ≡ spec.table (map option_view (take l.option-index l.option-items))
