use Rattle.std.proofs.Common.{None, Some, option_map, arith, ap, sym, ◌∙◌}
use Rattle.lexopt_runtime_options.specs.Faults.{reason_view}
use Rattle.lexopt_runtime_options.proofs.OptionNames.{fault_here, no_more_faults, no_own_fault, own_fault}
use Rattle.lexopt_runtime_options.proofs.faults.all_names_fault.Goals as goal

pub loop-names-init : goal.loop-names-init
loop-names-init g c = no_own_fault c.args.option.now (sym (ap (option_map reason_view) c.in_default.is) ∙ c.names_fault.ensures)

pub returns-in-Some-names_fault : goal.returns-in-Some-names_fault
returns-in-Some-names_fault g c =
    sym (c.loop-names.invariant ∙ fault_here c.args.option.now.aliases.now c.loop-names.names-index _ (Some (reason_view c.in-Some-names_fault.reason)) c.loop-names-test.true
    (sym (ap (option_map reason_view) c.in-Some-names_fault.is) ∙ c.names_fault-in-loop-names.ensures))

pub loop-names-preserved : goal.loop-names-preserved
loop-names-preserved g c =
    c.loop-names.invariant ∙ fault_here c.args.option.now.aliases.now c.loop-names.names-index _ None c.loop-names-test.true
    (sym (ap (option_map reason_view) c.in_default-names_fault.is) ∙ c.names_fault-in-loop-names.ensures)

pub returns : goal.returns
returns g c = sym (c.loop-names.invariant ∙ no_more_faults c.args.option.now.aliases.now c.loop-names.names-index (omega (arith, c.loop-names-test.false)))

pub returns-in-Some : goal.returns-in-Some
returns-in-Some g c = own_fault c.args.option.now (reason_view c.in-Some.reason) (sym (ap (option_map reason_view) c.in-Some.is) ∙ c.names_fault.ensures)
