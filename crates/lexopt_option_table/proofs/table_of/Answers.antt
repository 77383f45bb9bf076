use Rattle.std.proofs.Common.{ap, map, ◌∙◌}
use Rattle.std.proofs.lemmas.List.{take_all}
use Rattle.lexopt_options_spec.specs.Declaration as spec
use Rattle.lexopt_declaration.specs.Models.{option_view}
use Rattle.lexopt_items.specs.Items.{table_view}
use Rattle.lexopt_option_table.proofs.Tables.{table_of_more}
use Rattle.lexopt_option_table.proofs.table_of.Goals as goal

pub loop-option-init : goal.loop-option-init
loop-option-init g c = c.new-table.ensures

pub loop-option-preserved : goal.loop-option-preserved
loop-option-preserved g c =
    table_of_more c.options-option-items.result.now c.loop-option.option-index c.option-item.result (table_view c.loop-option.table) (table_view c.add_option.new.table) c.loop-option-test.true
    c.option-item.is c.loop-option.invariant c.in_ok-add_option.ensures

pub returns : goal.returns
returns g c =
    let all = take_all c.loop-option.option-index c.options-option-items.result.now c.loop-option-test.false ∙ c.options-option-items.ensures.same in
    c.loop-option.invariant ∙ ap (λ options. spec.table (map option_view options)) all
