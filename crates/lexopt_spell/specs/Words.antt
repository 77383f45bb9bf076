-- Appending words that an item adds. `Words` of `lexopt_base` is about iterators over words.
use Rattle.std.specs.Prelude.{ℕ, Bool, true, false, List, [], ◌∷◌, ◌++◌}

-- the words, with these bytes appended to the last one
abbrev pub onto_last : List (List ℕ) → List ℕ → List (List ℕ)
onto_last [] bytes = []
onto_last (w ∷ []) bytes = (w ++ bytes) ∷ []
onto_last (w ∷ v ∷ ws) bytes = w ∷ onto_last (v ∷ ws) bytes

-- the words with this one appended, or with its bytes appended to the last word if they continue
-- it; and with more words after that
abbrev pub pushed : Bool → List (List ℕ) → List ℕ → List (List ℕ) → List (List ℕ)
pushed true words word more = onto_last words word ++ more
pushed false words word more = words ++ (word ∷ more)
