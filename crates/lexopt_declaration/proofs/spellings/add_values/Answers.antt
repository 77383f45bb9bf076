use Rattle.std.proofs.lemmas.Result.{on_ok_weaker}
use Rattle.std.proofs.lemmas.List.{map-id}
use Rattle.lexopt_declaration.proofs.spellings.add_values.Goals as goal

pub returns : goal.returns
returns c = on_ok_weaker c.add_joined.result (λ is. simp map-id at is) c.add_joined.ensures
