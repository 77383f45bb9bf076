use Rattle.lexopt_commands.proofs.Common.{refl}
use Rattle.lexopt_commands.proofs.commands.Commands.placed_step.Goals as goal

pub returns-in-Command : goal.returns-in-Command
returns-in-Command g c =
    let own = c.in-Command in
    let there = rw (own.is, c.commands.ensures.same) at c.place_after.ensures in
    rw (← there) (refl, c.in_ok-path-in-Command.ensures, record { general = c.new-general.ensures.items; before = own.own; same = refl; asked = refl })
