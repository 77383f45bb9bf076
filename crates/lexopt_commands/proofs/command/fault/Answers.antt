use Rattle.std.proofs.Common.{sym, ◌∙◌}
use Rattle.lexopt_commands.proofs.FirstFaults.{fault_among}
use Rattle.lexopt_commands.proofs.command.fault.Goals as goal

pub returns-then-any_is_named : goal.returns-then-any_is_named
returns-then-any_is_named g c =
    fault_among c.args.before.now c.args.name.now _ _ c.as_bytes-bytes.ensures.value (sym c.in_default.is ∙ c.name_fault.ensures) (sym c.if-any_is_named.true ∙ c.any_is_named.ensures)

pub returns : goal.returns
returns g c =
    fault_among c.args.before.now c.args.name.now _ _ c.as_bytes-bytes.ensures.value (sym c.in_default.is ∙ c.name_fault.ensures) (sym c.if-any_is_named.false ∙ c.any_is_named.ensures)
