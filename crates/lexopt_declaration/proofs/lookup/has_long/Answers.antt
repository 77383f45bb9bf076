use Rattle.std.proofs.Common.{◌∙◌}
use Rattle.lexopt_line_spec.specs.Table as table
use Rattle.lexopt_declaration.proofs.OptionNames.{has_other}
use Rattle.lexopt_declaration.proofs.lookup.has_long.Goals as goal

pub returns-else-is_long : goal.returns-else-is_long
returns-else-is_long g c = c.has_alias.ensures ∙ has_other (table.long c.args.name.now) c.args.option.now c.is_long.result c.is_long.ensures c.if-is_long.false
