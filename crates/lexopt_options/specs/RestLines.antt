-- The results of reading a line that may have a rest, and what can come where a word is typed in
-- one: the relations of the grammar, for a declaration and the types of the code.
use Rattle.std.specs.Prelude.{◌≡◌, ◌∷◌, ℕ, List, [], string_bytes}
use Rattle.lexopt_options_spec.specs.Asking.{AskFor}
use Rattle.lexopt_options_spec.specs.Legal as legal
use Rattle.lexopt_options_spec.specs.Rest.{HaveNoRest, IsSplit, RestStart}
use Rattle.lexopt_options_spec.specs.Stops.{IsOfOption}
use Rattle.lexopt_options.specs.declared.options.Options.{Options}
use Rattle.lexopt_options.specs.declared.refused.Line.{Line}
use Rattle.lexopt_options.specs.declared.refused.Line.TheVariants as line
use Rattle.lexopt_options.specs.Answers.{IsCompletionText}
use Rattle.lexopt_options.specs.Begun.{TellsRest}
use Rattle.lexopt_options.specs.Declarations.{declaration_of}
use Rattle.lexopt_options.specs.Keys.{asked_view}
use Rattle.lexopt_options.specs.Lines.{IsLineOf, IsLineRead, IsRefused}
use Rattle.lexopt_options.specs.declared.rest.RestCompletion.{RestCompletion}
use Rattle.lexopt_options.specs.declared.rest.RestCompletion.TheVariants as found

-- whatever comes after it, an option of these words asks for this, or has this mistake
abbrev pub IsEarly : {F V P M S : Type 0} → Options F V P M S → List (List ℕ) → Line F V P M S → Type 0
IsEarly o words (line.Parsed parsed) = ⊥
IsEarly o words (line.Asked asked) = AskFor (declaration_of o) words (asked_view asked)
IsEarly o words (line.Refused refused) = (why : IsRefused o words refused) × IsOfOption why.why

-- The result of reading these words: that of their front, and the rest; or that of all of them, if
-- they have no rest, or if an option ends their reading.
pub data IsRestRead {F V P M S : Type 0} (start : RestStart) (o : Options F V P M S)
    (words : List (List ℕ)) : List (List ℕ) → Line F V P M S → Type 0 where
  by_front : (front : List (List ℕ)) (word : List ℕ) (more : List (List ℕ)) (read : Line F V P M S)
      → IsSplit start (declaration_of o) words front word more → IsLineRead o front read
      → IsRestRead start o words (word ∷ more) read
  by_all : (read : Line F V P M S) → HaveNoRest start (declaration_of o) words
      → IsLineRead o words read → IsRestRead start o words [] read
  early : (read : Line F V P M S) → IsEarly o words read → IsRestRead start o words [] read

-- the result is this list, by the keys, and this rest; or what the list asks for
abbrev pub IsRestOf : {F V P M S : Type 0} → Options F V P M S → List legal.Parsed → List (List ℕ)
    → List (List ℕ) → Line F V P M S → Type 0
IsRestOf o l rest others (line.Parsed parsed) =
    IsLineOf o l (line.Parsed parsed) × (others ≡ rest)
IsRestOf o l rest others (line.Asked asked) = IsLineOf o l (line.Asked asked)
IsRestOf o l rest others (line.Refused refused) = ⊥

-- the words have this rest; or they have none, and this is the text of what can come where this is
-- typed, and whether a rest can begin there
abbrev pub IsRestCompletion : {F V P M S : Type 0} → RestStart → Options F V P M S
    → List (List ℕ) → List ℕ → RestCompletion → Type 0
IsRestCompletion start o words typed (found.Rest rest) = (front : List (List ℕ)) × (word : List ℕ)
    × (more : List (List ℕ)) × IsSplit start (declaration_of o) words front word more
    × (rest.items ≡ word ∷ more)
IsRestCompletion start o words typed (found.Text text begins) =
    HaveNoRest start (declaration_of o) words × IsCompletionText o words typed (string_bytes text)
    × TellsRest start (declaration_of o) words begins
