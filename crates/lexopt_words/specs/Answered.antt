-- Lists of words that a source has, one at each place.
use Rattle.std.specs.Prelude.{◌∷◌, [], ℕ, List, Option, Some, None, ◌+◌}

-- the list has the words from a place on, up to the first place that has none
abbrev pub AreAnswered : (ℕ → Option (List ℕ) → Type 0) → ℕ → List (List ℕ) → Type 0
AreAnswered answers place [] = answers place None
AreAnswered answers place (word ∷ words) = answers place (Some word)
    × AreAnswered answers (place + 1) words
