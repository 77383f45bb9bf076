use Rattle.std.proofs.Common.{ℕ, List, Bor, map, take, string_bytes, codes, ◌++◌, ◌∷◌}
use Rattle.lexopt_options_spec.specs.Help.{IsUsageLine, words_of}
use Rattle.lexopt_options_spec.proofs.Wrapping.{Listed}
use Rattle.lexopt_declaration.proofs.help.push_other_usages.Given as goal

abbrev pub invariant-loop-own : goal.invariant-loop-own
invariant-loop-own l =
    Listed (λ own. IsUsageLine l.width (l.program ∷ words_of own)) (λ line. codes "  or:  " ++ line) (string_bytes l.fn.out) (map (λ (own : Bor (List ℕ)). own.now) (take l.own-index l.others)) (string_bytes l.out)
