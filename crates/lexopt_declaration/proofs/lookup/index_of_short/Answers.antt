use Rattle.std.proofs.Common.{◌∙◌}
use Rattle.lexopt_declaration.proofs.Positions.{position_map}
use Rattle.lexopt_declaration.proofs.lookup.index_of_short.Goals as goal

pub returns : goal.returns
returns g c = c.place_of_short.ensures ∙ position_map _ c.args.options.now
