-- What can come where a word is typed in a line of a program with commands. The source is
-- `docs/behaviour.md`.
use Rattle.std.specs.Prelude.{◌≡◌, ◌⊎◌, ◌++◌, ◌∷◌, ℕ, Bool, if◌then◌else◌, nat_eq, List, []}
use Rattle.std.specs.Prelude.{Option, Some, None, codes, string_bytes}
use Rattle.std.specs.List.{flat_map, starts_with}
use Rattle.std.specs.Str.{chars}
use Rattle.lexopt_options_spec.specs.Help.{line_feed}
use Rattle.lexopt_declaration.specs.Texts.{on_one_line}
use Rattle.lexopt_options.specs.Answers.{IsCompletionText}
use Rattle.lexopt_options_spec.specs.Rest.{HaveNoRest, IsSplit, surplus}
use Rattle.lexopt_options.specs.Begun.{TellsRest}
use Rattle.lexopt_options.specs.Declarations.{declaration_of}
use Rattle.lexopt_commands.specs.declared.answer.Step.{Step}
use Rattle.lexopt_commands.specs.declared.answer.Step.TheVariants as step
use Rattle.lexopt_commands.specs.declared.command.Command.{Command}
use Rattle.lexopt_commands.specs.declared.command.Runs.{Runs}
use Rattle.lexopt_commands.specs.declared.command.Runs.TheVariants as runs
use Rattle.lexopt_commands.specs.declared.commands.Commands.{Commands}
use Rattle.lexopt_commands.specs.Calls.{IsCompletionCall, path_of}
use Rattle.lexopt_commands.specs.Meanings.{command_of}

-- ---- the names of commands

-- the line for a command: its name after `+`, a tab, and its help text
abbrev pub name_line : {C : Type 0} → Command C → List ℕ
name_line c = codes "+" ++ c.name.now ++ codes "\t" ++ flat_map on_one_line (chars c.help.now)
    ++ line_feed ∷ []

-- the line for a command whose name begins with what was typed
abbrev pub begun_line : {C : Type 0} → List ℕ → Command C → List ℕ
begun_line typed c = if starts_with nat_eq c.name.now typed then name_line c else []

-- the lines for the commands whose names begin with what was typed, if a name can come
abbrev pub names_if : {C F V M S : Type 0} → Commands C F V M S → List ℕ → Bool → List ℕ
names_if c typed can = if can then flat_map (begun_line typed) c.commands.now else []

-- the same, by whether a name can come after these words
abbrev pub IsNamesText : {C F V M S : Type 0} → Commands C F V M S → List (List ℕ) → List ℕ
    → List ℕ → Type 0
IsNamesText c words typed text = (can : Bool) × TellsRest surplus (declaration_of c.options) words can
    × (text ≡ names_if c typed can)

-- ---- where a word is typed

pub data Place (C : Type 0) : Type 0 where
  -- after the name of a command, with its key, and these words after the name
  in_command : List ℕ → C → List (List ℕ) → Place C
  -- right after a name that asks for the help
  at_help : Place C
  -- after words that begin no line
  nowhere : Place C

-- by what the name after one that asks for the help does, and by the words after it
abbrev pub place_helped_by : {C : Type 0} → Runs C → List ℕ → List (List ℕ) → Place C
place_helped_by (runs.Command key) name rest = in_command name key rest
place_helped_by runs.Help name rest = nowhere

-- by the command whose name comes after one that asks for the help, and by the words after it
abbrev pub place_of_helped : {C : Type 0} → Option (Command C) → List (List ℕ) → Place C
place_of_helped (Some own) rest = place_helped_by own.runs own.name.now rest
place_of_helped None rest = nowhere

-- by the words after a name that asks for the help
abbrev pub place_at_help : {C : Type 0} → List (Command C) → List (List ℕ) → Place C
place_at_help commands [] = at_help
place_at_help commands (word ∷ rest) = place_of_helped (command_of commands word) rest

-- by what the first name does, and by the words after it
abbrev pub place_by : {C : Type 0} → List (Command C) → Runs C → List ℕ → List (List ℕ) → Place C
place_by commands (runs.Command key) name rest = in_command name key rest
place_by commands runs.Help name rest = place_at_help commands rest

-- by the command whose name comes first, and by the words after it
abbrev pub place_of : {C : Type 0} → List (Command C) → Option (Command C) → List (List ℕ) → Place C
place_of commands (Some own) rest = place_by commands own.runs own.name.now rest
place_of commands None rest = nowhere

-- by the words after the general options, of which there is one at least
abbrev pub place : {C : Type 0} → List (Command C) → List (List ℕ) → Place C
place commands [] = nowhere
place commands (word ∷ rest) = place_of commands (command_of commands word) rest

-- ---- what can come

-- what to do where this is typed at this place
abbrev pub IsPlaced : {C F V M S : Type 0} → Commands C F V M S → List ℕ → Place C → Step C F V M S
    → Type 0
IsPlaced c typed (in_command name key rest) (step.Command found path call) =
    (found ≡ key) × (string_bytes path ≡ path_of c.options name) × IsCompletionCall rest typed call
IsPlaced c typed at_help (step.Text text) =
    string_bytes text ≡ flat_map (begun_line typed) c.commands.now
IsPlaced c typed nowhere (step.Text text) = string_bytes text ≡ []
IsPlaced c typed place found = ⊥

-- The words are general options, and then comes a rest, by which the place is found.
pub record IsPlacedAfter {C F V M S : Type 0} (c : Commands C F V M S)
    (words : List (List ℕ)) (typed : List ℕ) (found : Step C F V M S) : Type 0 where
  pub front : List (List ℕ)
  pub word : List ℕ
  pub more : List (List ℕ)
  pub split : IsSplit surplus (declaration_of c.options) words front word more
  pub placed : IsPlaced c typed (place c.commands.now (word ∷ more)) found

-- this text is printed
abbrev pub IsText : {C F V M S : Type 0} → Step C F V M S → List ℕ → Type 0
IsText (step.Text found) text = string_bytes found ≡ text
IsText found text = ⊥

-- There is no such rest. The names that can come are offered, and then what the general declaration
-- offers.
pub record IsUnplaced {C F V M S : Type 0} (c : Commands C F V M S)
    (words : List (List ℕ)) (typed : List ℕ) (found : Step C F V M S) : Type 0 where
  pub without_rest : HaveNoRest surplus (declaration_of c.options) words
  pub names : List ℕ
  pub are_names : IsNamesText c words typed names
  pub own : List ℕ
  pub is_own : IsCompletionText c.options words typed own
  pub printed : IsText found (names ++ own)

-- what to do where this is typed after these words
abbrev pub IsCompletionStep : {C F V M S : Type 0} → Commands C F V M S → List (List ℕ)
    → List ℕ → Step C F V M S → Type 0
IsCompletionStep c words typed found =
    IsPlacedAfter c words typed found ⊎ IsUnplaced c words typed found
