-- The results of reading a whole line: the relations of the grammar, for a declaration and the
-- types of the code.
use Rattle.std.specs.Prelude.{◌≡◌, ℕ, List, Some, None}
use Rattle.lexopt_options_spec.specs.Asking.{AskFor, first_asked, parsed_before}
use Rattle.lexopt_options_spec.specs.Legal as legal
use Rattle.lexopt_options_spec.specs.Legal.{Means}
use Rattle.lexopt_options_spec.specs.Stops as stops
use Rattle.lexopt_options_spec.specs.Stops.{StopsAt}
use Rattle.lexopt_declaration.specs.Lookups.{help_names}
use Rattle.lexopt_options.specs.declared.options.Options.{Options}
use Rattle.lexopt_options.specs.declared.refused.Line.{Line}
use Rattle.lexopt_options.specs.declared.refused.Line.TheVariants as line
use Rattle.lexopt_options.specs.declared.refused.Refused.{Refused}
use Rattle.lexopt_options.specs.declared.parsed.Parsed.{Parsed}
use Rattle.lexopt_options.specs.Declarations.{declaration_of, options_of, positionals_of}
use Rattle.lexopt_options.specs.Keys.{AreParsedAs, AreReadAs, HaveKeys, asked_view}
use Rattle.lexopt_options.specs.Mistakes.{IsMistake}

-- the words legally spell a list that asks for nothing, and these are the defaults of the options that
-- are not in it, and its elements, by the keys
abbrev pub LineMeans : {F V P M S : Type 0} → Options F V P M S → List (List ℕ) → List (Parsed F V P M S)
    → Type 0
LineMeans o words parsed = (l : List legal.Parsed) × Means (declaration_of o) words l
    × (first_asked (declaration_of o).options l ≡ None) × AreReadAs (options_of o) l parsed
    × HaveKeys (positionals_of o) parsed

-- The reading of the words stops at this mistake. Before it they mean this, without defaults, and ask
-- for nothing.
pub record IsRefused {F V P M S : Type 0} (o : Options F V P M S) (words : List (List ℕ))
    (refused : Refused F V P M S) : Type 0 where
  pub program : refused.program.now ≡ (declaration_of o).program
  pub help : refused.help ≡ help_names (options_of o)
  pub why : stops.Mistake
  pub told : IsMistake (declaration_of o) refused.mistake why
  pub read : List legal.Parsed
  pub stops : StopsAt (declaration_of o) words read why
  pub own : first_asked (declaration_of o).options (parsed_before why read) ≡ None
  pub before : AreParsedAs (options_of o) (parsed_before why read) refused.before.items
  pub keys : HaveKeys (positionals_of o) refused.before.items

-- the result of reading the line of these words
abbrev pub IsLineRead : {F V P M S : Type 0} → Options F V P M S → List (List ℕ) → Line F V P M S
    → Type 0
IsLineRead o words (line.Parsed parsed) = LineMeans o words parsed.items
IsLineRead o words (line.Asked asked) = AskFor (declaration_of o) words (asked_view asked)
IsLineRead o words (line.Refused refused) = IsRefused o words refused

-- the result is this list after the defaults, by the keys; or what the list asks for
abbrev pub IsLineOf : {F V P M S : Type 0} → Options F V P M S → List legal.Parsed → Line F V P M S
    → Type 0
IsLineOf o l (line.Parsed parsed) = (first_asked (declaration_of o).options l ≡ None)
    × AreReadAs (options_of o) l parsed.items × HaveKeys (positionals_of o) parsed.items
IsLineOf o l (line.Asked asked) = first_asked (declaration_of o).options l ≡ Some (asked_view asked)
IsLineOf o l (line.Refused refused) = ⊥
