-- Bytes in double quotes, written one piece at a time.
use Rattle.std.proofs.Common.{◌≡◌, ℕ, ◌<◌, List, ◌++◌, length, take, drop, flat_map, Option, sym, ap, ◌∙◌, append_assoc}
use Rattle.bstr.specs.Utf8.{decoded}
use Rattle.lexopt_spec.specs.Pieces.{pieces}
use Rattle.lexopt_spec.proofs.PieceSteps.{pieces-step}
use Rattle.lexopt_spec.specs.Text.{piece_as}

pub quoted_step : (form : ℕ → List ℕ → List ℕ) (bs done front rest : List ℕ) (n : ℕ) (char : Option ℕ) → 0 < length bs → n ≡ (decoded bs).size → char ≡ (decoded bs).char
    → front ≡ take n bs → rest ≡ drop n bs
    → (done ++ piece_as form front char) ++ flat_map (λ p. piece_as form p.bytes p.char) (pieces rest) ≡ done ++ flat_map (λ p. piece_as form p.bytes p.char) (pieces bs)
quoted_step form bs done front rest n char some size found is_front is_rest =
    rw (is_front, is_rest, size, found)
    (append_assoc done _ _ ∙ ap (λ ps. done ++ flat_map (λ p. piece_as form p.bytes p.char) ps) (sym (pieces-step bs some)))
