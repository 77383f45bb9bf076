-- Clusters that `next` reads to their end.
-- The source is `docs/behaviour.md`.
use Rattle.std.specs.Prelude.{◌≡◌, ◌≢◌, ◌⊎◌, ℕ, false, List, ◌∷◌, map}
use Rattle.std.specs.List.{Contains}
use Rattle.lexopt_spec.specs.Pieces.{lossy_characters, pieces}
use Rattle.lexopt_spec.specs.UnreadLine.{UnreadLine, dash, equals, no_tail}
use Rattle.lexopt_spec.specs.Steps.{Reply, short}
use Rattle.lexopt_spec.specs.Runs.{Call, next}

-- Let a line begin with a cluster, and let `short_equals` be false, or no `=` come after the first
-- byte of the cluster. If the calls are one `next` for each piece, the replies are its lossy
-- characters, so none is `no_memory`, and the word is consumed.
abbrev pub ReadsPieces : UnreadLine → List Call → List Reply → UnreadLine → Type 0
ReadsPieces u calls replies v =
    (b : ℕ) (bs : List ℕ) (words : List (List ℕ)) → u.tail ≡ no_tail → u.ended ≡ false
    → u.words ≡ (dash ∷ b ∷ bs) ∷ words → b ≢ dash
    → (u.short_equals ≡ false) ⊎ ¬ Contains bs equals
    → calls ≡ map (λ piece. next) (pieces (b ∷ bs))
    → (replies ≡ map short (lossy_characters (b ∷ bs))) × (v.tail ≡ no_tail)
    × (v.words ≡ words)
