use Rattle.lexopt_declaration.proofs.Common.{◌≡◌, ◌++◌, map, take, filter, nat_eq, string_bytes, starts_with}
use Rattle.lexopt_declaration.proofs.spellings.add_joined_words.Given as goal

abbrev pub invariant-loop-value : goal.invariant-loop-value
invariant-loop-value l =
    map string_bytes l.found.items ≡ map string_bytes l.initial.found.items ++ filter (λ s. starts_with nat_eq s l.typed) (map (λ v. l.before ++ v) (map (λ v. v.now) (take l.value-index l.values)))
