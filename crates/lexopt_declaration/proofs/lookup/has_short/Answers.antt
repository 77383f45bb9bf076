use Rattle.std.proofs.Common.{◌∙◌}
use Rattle.lexopt_line_spec.specs.Table as table
use Rattle.lexopt_declaration.proofs.OptionNames.{has_other}
use Rattle.lexopt_declaration.proofs.lookup.has_short.Goals as goal

pub returns-else-is_short : goal.returns-else-is_short
returns-else-is_short g c = c.has_alias.ensures ∙ has_other (table.short c.args.character) c.args.option.now c.is_short.result c.is_short.ensures c.if-is_short.false
