use Rattle.lexopt_commands.proofs.read.hints_for.Goals as goal

pub returns : goal.returns
returns g c = rw (c.deref.ensures.value, c.in_ok-names.ensures, c.as_str.ensures.value, c.in_ok-typed.ensures, c.as_bytes.ensures) at c.hinted_names.ensures
