use Rattle.lexopt_options.specs.Declarations.{options_of}
use Rattle.test_option_callers.proofs.Keyed.{converted, maybe_first}
use Rattle.test_option_callers.proofs.declared_keys.parse_maybe.Goals as goal

pub returns : goal.returns
returns g c = converted _ _ _ _ c.args.word.now c.parse_maybe.result (maybe_first g.M.PartialEq.eq c.args.key (options_of c.args.options.now)) c.parse_maybe.ensures
