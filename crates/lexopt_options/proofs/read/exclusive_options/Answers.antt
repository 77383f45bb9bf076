use Rattle.std.proofs.Common.{sym, ◌∙◌}
use Rattle.lexopt_options_spec.specs.Declaration.{has}
use Rattle.lexopt_options.specs.Declarations.{options_of}
use Rattle.lexopt_options.proofs.Seen.{exclusive_so, none_apart}
use Rattle.lexopt_options.proofs.read.exclusive_options.Goals as goal

pub returns-then-not-has_exclusive : goal.returns-then-not-has_exclusive
returns-then-not-has_exclusive g c = none_apart (options_of c.args.options.now) (λ i. has i c.args.seen.now) (sym c.has_exclusive.ensures ∙ c.if-not-has_exclusive.true)

pub returns : goal.returns
returns g c = exclusive_so c.args.options.now c.options.result.now c.args.seen.now c.first_clash.result c.options.ensures.same c.first_clash.ensures
