-- The values of an option that was read, and the first that is not in a list; and the first word of
-- a line that its positional does not accept.
use Rattle.std.specs.Prelude.{◌≡◌, ◌<◌, ◌++◌, ℕ, List, [], ◌∷◌, Some, None, Contains, false, true}
use Rattle.std.specs.Prelude.{slice_get}
use Rattle.std.specs.List.{All}
use Rattle.lexopt_options_spec.specs.Declaration.{Positional}
use Rattle.lexopt_options_spec.specs.Legal.{Parsed, option, several, positional}
use Rattle.lexopt_options_spec.specs.Places.{takes_at}

-- the values that the option has here
abbrev pub values_of : Parsed → List (List ℕ)
values_of (option i None) = []
values_of (option i (Some value)) = value ∷ []
values_of (several i values) = values
values_of (positional word) = []

-- this is the first of the values that is not in the list
pub record IsFirstOutside (list values : List (List ℕ)) (value : List ℕ) : Type 0 where
  pub before : List (List ℕ)
  pub after : List (List ℕ)
  pub values_are : values ≡ before ++ value ∷ after
  pub listed_before : All (Contains list) before
  pub outside : ¬ Contains list value

-- if these words belong to the positionals at these indices, this is the first that its positional
-- does not accept, and that positional is at this index
pub record IsFirstRefused (ps : List Positional) (places : List ℕ) (words : List (List ℕ))
    (index : ℕ) (word : List ℕ) : Type 0 where
  pub at : ℕ
  pub here : slice_get words at ≡ Some word
  pub belongs : slice_get places at ≡ Some index
  pub refused : takes_at ps index word ≡ false
  pub before : (n i : ℕ) (w : List ℕ) → n < at → slice_get words n ≡ Some w
      → slice_get places n ≡ Some i → takes_at ps i w ≡ true
