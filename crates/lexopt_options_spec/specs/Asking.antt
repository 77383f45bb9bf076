-- Lines that ask for the help or the version. The source is `docs/behaviour.md`.
use Rattle.std.specs.Prelude.{◌≡◌, ℕ, List, [], ◌∷◌, ◌++◌, Option, Some, None, option_and_then}
use Rattle.std.specs.Prelude.{slice_get, true}
use Rattle.lexopt_spec.specs.Steps.{Next, unexpected}
use Rattle.lexopt_spec.specs.UnreadLine.{UnreadLine}
use Rattle.lexopt_line_spec.specs.Readings.{start}
use Rattle.lexopt_options_spec.specs.Declaration.{Asked, Declared, Declaration}
use Rattle.lexopt_options_spec.specs.Legal.{Parsed, option, several, positional, are_accepted}
use Rattle.lexopt_options_spec.specs.Stops.{Mistake, ReadsUpTo, unexpected_value}

-- what the option at this index asks for
abbrev pub asked_at : List Declared → ℕ → Option Asked
asked_at options i = option_and_then (λ o. o.asks) (slice_get options i)

abbrev pub asked_by : List Declared → Parsed → Option Asked
asked_by options (option i value) = asked_at options i
asked_by options (several i values) = asked_at options i
asked_by options (positional word) = None

abbrev pub or_asked : Option Asked → Option Asked → Option Asked
or_asked None other = other
or_asked (Some asked) other = Some asked

-- what the first of these that asks for something asks for
abbrev pub first_asked : List Declared → List Parsed → Option Asked
first_asked options [] = None
first_asked options (s ∷ l) = or_asked (asked_by options s) (first_asked options l)

abbrev pub all_but_last : List Parsed → List Parsed
all_but_last [] = []
all_but_last (s ∷ []) = []
all_but_last (s ∷ t ∷ l) = s ∷ all_but_last (t ∷ l)

-- what was read before a mistake, where all of these were read: without the last option, if the
-- mistake is that it has an unexpected value
abbrev pub parsed_before : Mistake → List Parsed → List Parsed
parsed_before (unexpected_value name value) l = all_but_last l
parsed_before mistake l = l

-- The line can be read up to an option that asks for this and has no joined value. No option before
-- it asks for anything, and each option, this one too, accepts its values. What comes after it is
-- ignored.
pub record AskFor (d : Declaration) (words : List (List ℕ)) (asked : Asked) : Type 0 where
  pub before : List Parsed
  pub parsed : Parsed
  pub there : UnreadLine
  pub read : ReadsUpTo d (start d.short_equals words) (before ++ parsed ∷ []) there
  pub none_before : first_asked d.options before ≡ None
  pub accepted : are_accepted d.options (before ++ parsed ∷ []) ≡ true
  pub asks : asked_by d.options parsed ≡ Some asked
  pub no_value : (option value : List ℕ) (after : UnreadLine)
      → ¬ Next there (unexpected option value) after
