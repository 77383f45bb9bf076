use Rattle.std.proofs.lemmas.Result.{IfOk-weaker}
use Rattle.test_option_callers.proofs.Keyed.{line_keys}
use Rattle.test_option_callers.proofs.declared_keys.read_line.Goals as goal

pub returns : goal.returns
returns g c = IfOk-weaker c.read.result _ _ (λ line is. line_keys c.args.options.now c.args.words.items line is) c.read.ensures.line
