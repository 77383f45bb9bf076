use Rattle.std.proofs.Common.{◌∷◌, ℕ, List, Bor, map, take, string_bytes}
use Rattle.lexopt_options_spec.proofs.Wrapping.{Written}
use Rattle.lexopt_declaration.proofs.help.push_lines.Given as goal

abbrev pub invariant-loop-word : goal.invariant-loop-word
invariant-loop-word l =
    Written l.limit l.column (string_bytes l.fn.out) (l.first ∷ map (λ (w : Bor (List ℕ)). w.now) (take l.word-index l.others)) l.room (string_bytes l.out)
