use Rattle.std.proofs.Common.{◌≡◌, ap, length, map, refl, subst, take}
use Rattle.std.proofs.lemmas.Option.{slice_get_read}
use Rattle.std.specs.Option.{option_map}
use Rattle.lexopt_options_spec.specs.Declaration.{fault}
use Rattle.lexopt_declaration.specs.Models.{option_view}
use Rattle.lexopt_runtime_options.specs.Faults.{reason_view}
use Rattle.lexopt_runtime_options.proofs.FirstFaults.{first_fault, no_fault, none_at_fault}
use Rattle.lexopt_runtime_options.proofs.faults.first_fault.Goals as goal

pub returns-in-Some : goal.returns-in-Some
returns-in-Some g c = (
  c.loop-index.index,
  first_fault c.args.options.now c.loop-index.index c.index-options-index.result c.fault.result c.in-Some.reason c.loop-index-test.true
      (subst (λ o. option_map reason_view c.fault.result ≡ fault (map option_view (take c.loop-index.index c.args.options.now)) (option_view o)) c.index-options-index.is c.fault.ensures) c.in-Some.is c.loop-index.invariant,
  ap (option_map (λ o. o.names)) (slice_get_read c.args.options.now (length c.args.options.now) c.loop-index.index c.index-options-index.result refl c.loop-index-test.true c.index-options-index.is),
)

pub loop-index-preserved : goal.loop-index-preserved
loop-index-preserved g c =
    no_fault c.args.options.now c.loop-index.index c.index-options-index.result c.fault.result c.loop-index-test.true
    (subst (λ o. option_map reason_view c.fault.result ≡ fault (map option_view (take c.loop-index.index c.args.options.now)) (option_view o)) c.index-options-index.is c.fault.ensures) c.in_default.is c.loop-index.invariant

pub returns : goal.returns
returns g c = none_at_fault c.args.options.now c.loop-index.index c.loop-index-test.false c.loop-index.invariant
