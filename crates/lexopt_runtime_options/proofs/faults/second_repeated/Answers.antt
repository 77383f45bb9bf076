use Rattle.std.proofs.Common.{◌∙◌, Bool, ap, if◌then◌else◌, length, refl, sym, arith}
use Rattle.std.proofs.lemmas.Option.{slice_get_read}
use Rattle.std.specs.Option.{option_map}
use Rattle.lexopt_options_spec.specs.Declaration as spec
use Rattle.lexopt_declaration.specs.Models.{count_view}
use Rattle.lexopt_runtime_options.proofs.Repeated.{no_second, second}
use Rattle.std.proofs.lemmas.Grind.{common_steps}
use Rattle.lexopt_runtime_options.proofs.faults.second_repeated.Goals as goal

pub returns-then-repeated : goal.returns-then-repeated
returns-then-repeated g c = (
  c.loop-positional.positional-index,
  second c.args.positionals.now c.loop-positional.positional-index c.positional-item.result c.loop-positional-test.true
      (sym (ap (λ p. spec.may_repeat (count_view p.count)) c.positional-item.is) ∙ sym c.may_repeat.ensures ∙ c.if-may_repeat.true)
      (c.loop-positional.invariant ∙ ap (λ (b : Bool). if b then 1 else 0) c.if-repeated.true),
  ap (option_map (λ p. p.placeholder)) (slice_get_read c.args.positionals.now (length c.args.positionals.now) c.loop-positional.positional-index c.positional-item.result refl c.loop-positional-test.true c.positional-item.is),
)

pub returns : goal.returns
returns g c = no_second c.args.positionals.now c.loop-positional.positional-index c.loop-positional.repeated c.loop-positional-test.false c.loop-positional.invariant

pub loop-positional-preserved : goal.loop-positional-preserved
loop-positional-preserved g c = grind (arith, common_steps)
