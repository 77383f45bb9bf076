use Rattle.lexopt_option_table.specs.Tables.{AddsNames}
use Rattle.lexopt_option_table.proofs.Tables.{so_far}
use Rattle.lexopt_option_table.proofs.add_all_names.Given as goal

abbrev pub invariant-loop-names : goal.invariant-loop-names
invariant-loop-names g l = AddsNames (so_far l.option.names l.option.aliases.now l.names-index) l.fn.shorts.items l.fn.longs.items l.shorts.items l.longs.items
