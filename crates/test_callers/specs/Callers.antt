-- The words that a caller takes from a view.
use Rattle.std.specs.Prelude.{◌≡◌, ◌≤◌, ℕ, List, [], ◌∷◌, Option, Some, None}
use Rattle.lexopt_spec.specs.UnreadLine.{UnreadLine, dash}
use Rattle.lexopt_spec.specs.Views.{WordItem}

-- the word begins with a dash and a digit
abbrev pub IsNegative : List ℕ → Type 0
IsNegative [] = ⊥
IsNegative (a ∷ []) = ⊥
IsNegative (a ∷ b ∷ others) = (a ≡ dash) × (0x30 ≤ b) × (b ≤ 0x39)

-- the next word begins with a dash and a digit
abbrev pub HasNegative : List (List ℕ) → Type 0
HasNegative [] = ⊥
HasNegative (word ∷ words) = IsNegative word

-- the next word is taken if it begins with a dash and a digit, and otherwise nothing changes
abbrev pub TakesNegative : UnreadLine → Option (List ℕ) → UnreadLine → Type 0
TakesNegative u None after = ¬ HasNegative u.words × (after ≡ u)
TakesNegative u (Some word) after = IsNegative word × WordItem u (Some word) after
