use Rattle.std.proofs.Common.{None, Some, Bool, ap, cond, sym, ◌∙◌}
use Rattle.lexopt_options_spec.specs.Declaration as spec
use Rattle.lexopt_runtime_options.proofs.FirstFaults.{default_fault_is, no_default_fault}
use Rattle.lexopt_runtime_options.proofs.faults.default_fault.Goals as goal

pub returns-in_default : goal.returns-in_default
returns-in_default g c = sym (no_default_fault c.args.option.now c.in_default.is)

pub returns-then-is_default : goal.returns-then-is_default
returns-then-is_default g c =
    sym (default_fault_is c.args.option.now c.in-Some.default c.is_default.result c.in-Some.is c.is_default.ensures ∙ ap (λ (b : Bool). cond b None (Some spec.bad_default)) c.if-is_default.true)

pub returns-else-is_default : goal.returns-else-is_default
returns-else-is_default g c =
    sym (default_fault_is c.args.option.now c.in-Some.default c.is_default.result c.in-Some.is c.is_default.ensures ∙ ap (λ (b : Bool). cond b None (Some spec.bad_default)) c.if-is_default.false)
