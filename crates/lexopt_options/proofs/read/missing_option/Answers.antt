use Rattle.std.proofs.Common.{sym, ◌∙◌}
use Rattle.std.proofs.lemmas.Bool.{false≢true}
use Rattle.lexopt_options.specs.Declarations.{options_of}
use Rattle.lexopt_options.proofs.Seen.{missing_so, none_required}
use Rattle.lexopt_options.proofs.read.missing_option.Goals as goal

pub returns-then-not-has_required : goal.returns-then-not-has_required
returns-then-not-has_required g c = λ i needed.
    absurd (false≢true (sym (none_required (options_of c.args.options.now) i (sym c.has_required.ensures ∙ c.if-not-has_required.true)) ∙ needed))

pub returns : goal.returns
returns g c = missing_so c.args.options.now c.options.result.now c.args.seen.now c.first_unseen.result c.options.ensures.same c.first_unseen.ensures
