-- What words from the name of a command on mean. The source is `docs/behaviour.md`.
use Rattle.std.specs.Prelude.{ℕ, ◌==◌, if◌then◌else◌, nat_eq, List, [], ◌∷◌, codes, length}
use Rattle.std.specs.Prelude.{Option, Some, None, position, slice_get}
use Rattle.std.specs.List.{insert, starts_with}
use Rattle.std.specs.Option.{unwrap_or}
use Rattle.std.specs.Cmp.Lexicographic.{pointwise}
use Rattle.lexopt_commands.specs.declared.command.Command.{Command}
use Rattle.lexopt_commands.specs.declared.command.Runs.{Runs}
use Rattle.lexopt_commands.specs.declared.command.Runs.TheVariants as runs

-- the command at this index
abbrev pub command_at : {C : Type 0} → List (Command C) → Option ℕ → Option (Command C)
command_at commands None = None
command_at commands (Some i) = slice_get commands i

-- the first command with this name
abbrev pub command_of : {C : Type 0} → List (Command C) → List ℕ → Option (Command C)
command_of commands name =
    command_at commands (position (λ c. pointwise ◌==◌ c.name.now name) commands)

pub data Meaning (C : Type 0) : Type 0 where
  -- the command with this name and key, and the words for it
  command : List ℕ → C → List (List ℕ) → Meaning C
  -- the help of the program is asked for
  help : Meaning C
  -- there is no word
  missing : Meaning C
  -- this word is not the name of a command; a command of that name would get these words
  unknown : List ℕ → List (List ℕ) → Meaning C

-- the word that asks a command for its help
abbrev pub help_word : List ℕ
help_word = codes "--help"

-- the index of the first of these words that begins with a dash
abbrev pub first_dashed : List (List ℕ) → Option ℕ
first_dashed words = position (λ word. starts_with nat_eq word (codes "-")) words

-- these words, and the word that asks a command for its help: it comes before the first of them that
-- begins with a dash, or after all if none does, so that no option and no separator comes before it
abbrev pub with_help : List (List ℕ) → List (List ℕ)
with_help words = insert words (unwrap_or (first_dashed words) (length words)) help_word

-- what a name and the words after it mean after a name that asks for the help, by what the name
-- does: a command gets the words after its name, and the word that asks for its help among them
abbrev pub helped_by : {C : Type 0} → Runs C → List ℕ → List (List ℕ) → Meaning C
helped_by (runs.Command key) name rest = command name key (with_help rest)
helped_by runs.Help name rest = help

-- what a word and the words after it mean after a name that asks for the help, by the command that
-- has the word as its name
abbrev pub helped : {C : Type 0} → Option (Command C) → List ℕ → List (List ℕ) → Meaning C
helped (Some own) word rest = helped_by own.runs own.name.now rest
helped None word rest =
    if pointwise ◌==◌ word help_word then help else unknown word (with_help rest)

-- what words mean after a name that asks for the help
abbrev pub help_of : {C : Type 0} → List (Command C) → List (List ℕ) → Meaning C
help_of commands [] = help
help_of commands (word ∷ rest) = helped (command_of commands word) word rest

-- what a name and the words after it mean, by what the name does
abbrev pub named_by : {C : Type 0} → List (Command C) → Runs C → List ℕ → List (List ℕ) → Meaning C
named_by commands (runs.Command key) name rest = command name key rest
named_by commands runs.Help name rest = help_of commands rest

-- what a word and the words after it mean, by the command that has the word as its name
abbrev pub named : {C : Type 0} → List (Command C) → Option (Command C) → List ℕ → List (List ℕ)
    → Meaning C
named commands (Some own) word rest = named_by commands own.runs own.name.now rest
named commands None word rest = unknown word rest

-- what the words after the general options mean
abbrev pub meaning : {C : Type 0} → List (Command C) → List (List ℕ) → Meaning C
meaning commands [] = missing
meaning commands (word ∷ rest) = named commands (command_of commands word) word rest
