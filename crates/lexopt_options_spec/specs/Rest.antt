-- Lines that go on with words that are not read, such as those of another program, or a command and
-- its words. The source is `docs/behaviour.md`.
use Rattle.std.specs.Prelude.{◌≡◌, List, [], ◌∷◌, ◌++◌, ℕ, Some}
use Rattle.lexopt_spec.specs.UnreadLine.{dash}
use Rattle.lexopt_options_spec.specs.Declaration.{Declaration}
use Rattle.lexopt_options_spec.specs.Legal.{IsWithin, Means, Parsed, most, positional}
use Rattle.lexopt_options_spec.specs.Legal.{positional_count}
use Rattle.lexopt_options_spec.specs.States.{Says}

-- where the rest of a line begins
pub data RestStart : Type 0 where
  -- with the first positional that the declaration does not allow
  surplus : RestStart
  -- with the first word after the separator
  separated : RestStart

-- the separator is the last of these words, and they spell this before it
pub record EndsSeparated (d : Declaration) (words : List (List ℕ)) (l : List Parsed) : Type 0 where
  pub before : List (List ℕ)
  pub words_are : words ≡ before ++ (dash ∷ dash ∷ []) ∷ []
  pub says : Says d before l
  pub within : IsWithin (positional_count l) (most d.positionals)

-- a rest begins after this front, which spells this: there are as many positionals as the
-- declaration allows, or the separator is its last word
abbrev pub CanBegin : RestStart → Declaration → List (List ℕ) → List Parsed → Type 0
CanBegin surplus d front l = most d.positionals ≡ Some (positional_count l)
CanBegin separated d front l = EndsSeparated d front l

-- The words are a front and a rest, which begins with this word, and has more words after it. The
-- front spells declared options and at most as many positionals as the declaration allows. The first
-- word of the rest would be one more positional.
pub record IsSplit (start : RestStart) (d : Declaration) (words front : List (List ℕ))
    (word : List ℕ) (more : List (List ℕ)) : Type 0 where
  pub words_are : words ≡ front ++ word ∷ more
  pub l : List Parsed
  pub says : Says d front l
  pub here : CanBegin start d front l
  pub begins : Says d (front ++ word ∷ []) (l ++ positional word ∷ [])

-- the words have no rest
abbrev pub HaveNoRest : RestStart → Declaration → List (List ℕ) → Type 0
HaveNoRest start d words = (front : List (List ℕ)) (word : List ℕ) (more : List (List ℕ))
    → ¬ IsSplit start d words front word more

-- the words, which are a legal line, have no rest; if a rest begins with a surplus positional, that
-- follows
abbrev pub IsWithoutRest : RestStart → Declaration → List (List ℕ) → Type 0
IsWithoutRest surplus d words = Unit {0}
IsWithoutRest separated d words = HaveNoRest separated d words

-- the words legally spell this, before this rest, which may be empty
pub data MeansBefore (start : RestStart) (d : Declaration) (words : List (List ℕ))
    (l : List Parsed) : List (List ℕ) → Type 0 where
  without_rest : IsWithoutRest start d words → Means d words l → MeansBefore start d words l []
  before_rest : (front : List (List ℕ)) (word : List ℕ) (more : List (List ℕ))
      → IsSplit start d words front word more → Means d front l
      → MeansBefore start d words l (word ∷ more)
