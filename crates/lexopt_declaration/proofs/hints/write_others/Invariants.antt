use Rattle.lexopt_declaration.proofs.Common.{◌++◌, List, ℕ, Bor, codes, map, take, flat_map, HasWritten, IsPlainFormatter, name_in_quotes}
use Rattle.lexopt_declaration.proofs.hints.write_others.Given as goal

abbrev pub invariant-loop-other : goal.invariant-loop-other
invariant-loop-other g l = IsPlainFormatter l.fn.f
    → HasWritten g.W.Write.write_str_gives l.fn.f (flat_map (λ other. codes ", " ++ other) (map (λ (o : Bor (List ℕ)). name_in_quotes l.dashes o.now) (take l.other-index l.others))) l.f
