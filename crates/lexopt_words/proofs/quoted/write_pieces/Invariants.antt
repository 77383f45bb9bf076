use Rattle.std.proofs.Common.{◌≡◌, ℕ, List, ◌++◌, length, flat_map}
use Rattle.std.specs.Fmt.{HasWritten, IsPlainFormatter}
use Rattle.lexopt_spec.specs.Pieces.{pieces}
use Rattle.lexopt_spec.specs.Text.{piece_as}
use Rattle.lexopt_words.specs.Forms.{form_of}
use Rattle.lexopt_words.proofs.quoted.write_pieces.Given as goal

abbrev pub invariant-loop-rest : goal.invariant-loop-rest
invariant-loop-rest g l =
    IsPlainFormatter l.fn.f
    → (done : List ℕ) × HasWritten g.W.Write.write_str_gives l.fn.f done l.f
    × (done ++ flat_map (λ p. piece_as (form_of l.fn.form) p.bytes p.char) (pieces l.rest) ≡ flat_map (λ p. piece_as (form_of l.fn.form) p.bytes p.char) (pieces l.fn.bytes))

abbrev pub decreases-loop-rest : goal.decreases-loop-rest
decreases-loop-rest g l = length l.rest
