use Rattle.lexopt_options.specs.Declarations.{options_of}
use Rattle.test_option_callers.proofs.Keyed.{converted, value_first}
use Rattle.test_option_callers.proofs.declared_keys.parse_value.Goals as goal

pub returns : goal.returns
returns g c = converted _ _ _ _ c.args.word.now c.parse_value.result (value_first g.V.PartialEq.eq c.args.key (options_of c.args.options.now)) c.parse_value.ensures
