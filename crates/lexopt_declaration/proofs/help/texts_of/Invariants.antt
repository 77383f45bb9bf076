use Rattle.std.proofs.Common.{◌≡◌, ℕ, List, Bor, map, take, string_bytes}
use Rattle.lexopt_declaration.proofs.help.texts_of.Given as goal

abbrev pub invariant-loop-text : goal.invariant-loop-text
invariant-loop-text l = map (λ (w : Bor (List ℕ)). w.now) l.words.items ≡ map string_bytes (take l.text-index l.texts)
