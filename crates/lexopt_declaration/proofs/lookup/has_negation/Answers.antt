use Rattle.std.proofs.Common.{◌∙◌}
use Rattle.lexopt_line_spec.specs.Table as table
use Rattle.lexopt_options_spec.specs.Declaration.{negated}
use Rattle.lexopt_declaration.proofs.OptionNames.{has_further}
use Rattle.lexopt_declaration.proofs.lookup.has_negation.Goals as goal

pub returns-else-have_negation : goal.returns-else-have_negation
returns-else-have_negation g c =
    c.has_negation_alias.ensures ∙ has_further (table.long (negated c.args.name.now)) c.args.option.now c.have_negation.result c.have_negation.ensures c.if-have_negation.false
