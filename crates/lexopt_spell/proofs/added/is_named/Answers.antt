use Rattle.std.proofs.Common.{refl, inr, ap}
use Rattle.lexopt_spell.specs.Models.{after_view}
use Rattle.lexopt_spell.proofs.added.is_named.Goals as goal

pub returns-in-Joined : goal.returns-in-Joined
returns-in-Joined c = (λ is. inr (_, ap after_view c.in-Joined.is), λ named. refl)
