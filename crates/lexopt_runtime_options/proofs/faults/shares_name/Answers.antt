use Rattle.std.proofs.Common.{false, sym, ◌∙◌}
use Rattle.lexopt_runtime_options.proofs.OptionNames.{all_share}
use Rattle.lexopt_runtime_options.proofs.faults.shares_name.Goals as goal

pub returns-else-has_one_of : goal.returns-else-has_one_of
returns-else-has_one_of g c = all_share c.args.option.now c.args.other.now false c.shares_alias.result (sym c.if-has_one_of.false ∙ c.has_one_of.ensures) c.shares_alias.ensures
