use Rattle.std.proofs.lemmas.Result.{IfOk-weaker}
use Rattle.lexopt_options.specs.Declarations.{options_of}
use Rattle.test_option_callers.proofs.Keyed.{known, known_role}
use Rattle.test_option_callers.proofs.declared_keys.complete.Goals as goal

pub returns-clause-word : goal.returns-clause-word
returns-clause-word g c = IfOk-weaker c.complete.result _ _ (λ done is. known_role (options_of c.args.options.now) is.role done.word is.word) c.complete.ensures

pub returns-clause-joined : goal.returns-clause-joined
returns-clause-joined g c = IfOk-weaker c.complete.result _ _ (λ done is. known (options_of c.args.options.now) is.with_value done.joined is.joined) c.complete.ensures
