use Rattle.std.proofs.Common.{refl, sym, ◌∙◌}
use Rattle.lexopt_options.specs.Declarations.{options_of}
use Rattle.lexopt_options.proofs.Defaults.{as_read}
use Rattle.lexopt_options.proofs.read.with_defaults.Goals as goal

pub returns-then-not-has_defaults : goal.returns-then-not-has_defaults
returns-then-not-has_defaults g c = λ l are own. (as_read (options_of c.args.options.now) l c.args.parsed.items (sym c.has_defaults.ensures ∙ c.if-not-has_defaults.true) own, refl)
