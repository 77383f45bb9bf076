-- What is wrong with the words after the general options, as contracts see it.
use Rattle.std.specs.Prelude.{◌≡◌, ℕ, List, Vec, map}
use Rattle.std.specs.Borrow.{Bor}
use Rattle.std.specs.Global.{Global}
use Rattle.lexopt_spec.specs.Pieces.{lossy}
use Rattle.lexopt_options_spec.specs.Nearest.{IsHinted}
use Rattle.lexopt_options.specs.declared.mistake.Mistake.{Mistake}
use Rattle.lexopt_options.specs.declared.mistake.Mistake.TheVariants as mistake
use Rattle.lexopt_commands.specs.declared.command.Command.{Command}
use Rattle.lexopt_commands.specs.Meanings.{meaning, missing, unknown}
use Rattle.lexopt_commands.specs.Names.{names_of}

-- the hints for this word
abbrev pub IsHint : {C : Type 0} → List (Command C) → List ℕ → List (List ℕ) → Type 0
IsHint commands word hints = IsHinted (names_of commands) (lossy word) hints

-- this is the mistake of these words
pub data IsMistake {C : Type 0} (commands : List (Command C)) (words : List (List ℕ))
    : Mistake → Type 0 where
  missing_command : (names : Vec (Bor (List ℕ)) Global) → meaning commands words ≡ missing
      → map (λ name. name.now) names.items ≡ names_of commands
      → IsMistake commands words (mistake.MissingCommand names)
  unknown_command : (word : List ℕ) (rest : Vec (List ℕ) Global)
      (hints : Vec (Bor (List ℕ)) Global) → meaning commands words ≡ unknown word rest.items
      → IsHint commands word (map (λ hint. hint.now) hints.items)
      → IsMistake commands words (mistake.UnknownCommand word rest hints)
