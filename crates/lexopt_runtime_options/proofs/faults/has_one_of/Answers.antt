use Rattle.std.proofs.Common.{false, sym, ◌∙◌}
use Rattle.lexopt_declaration.specs.Models.{names_list}
use Rattle.lexopt_runtime_options.proofs.OptionNames.{shares_all}
use Rattle.lexopt_runtime_options.proofs.faults.has_one_of.Goals as goal

pub returns-else-shares : goal.returns-else-shares
returns-else-shares g c = shares_all (names_list c.args.names) c.args.option.now false c.has_alias.result (sym c.if-shares.false ∙ c.shares.ensures) c.has_alias.ensures
