-- The results of reading a line of a program with commands: the general options, and what the words
-- after them mean. The source is `docs/behaviour.md`.
use Rattle.std.specs.Prelude.{◌≡◌, ◌⊎◌, ℕ, List, Some, None, Vec}
use Rattle.std.specs.Global.{Global}
use Rattle.std.specs.declared.convert.Infallible.{Infallible}
use Rattle.lexopt_options_spec.specs.Asking.{first_asked}
use Rattle.lexopt_options_spec.specs.Declaration as spec
use Rattle.lexopt_options_spec.specs.Legal as legal
use Rattle.lexopt_declaration.specs.Lookups.{help_names}
use Rattle.lexopt_options.specs.declared.options.Options.{Options}
use Rattle.lexopt_options.specs.declared.parsed.Asked.TheVariants.{Help}
use Rattle.lexopt_options.specs.declared.parsed.Parsed.{Parsed}
use Rattle.lexopt_options.specs.declared.refused.Line.TheVariants as front
use Rattle.lexopt_options.specs.declared.refused.Refused.{Refused}
use Rattle.lexopt_options.specs.Declarations.{declaration_of, options_of}
use Rattle.lexopt_options.specs.Keys.{AreReadAs, asked_view}
use Rattle.lexopt_options_spec.specs.Rest.{surplus}
use Rattle.lexopt_options.specs.RestLines.{IsRestRead}
use Rattle.lexopt_commands.specs.declared.commands.Commands.{Commands}
use Rattle.lexopt_commands.specs.declared.read.CommandLine.{CommandLine}
use Rattle.lexopt_commands.specs.declared.read.CommandLine.TheVariants as line
use Rattle.lexopt_commands.specs.Meanings.{command, help, meaning}
use Rattle.lexopt_commands.specs.Mistakes.{IsMistake}

-- ---- by the words after the general options

-- These words have this mistake, after general options that mean this.
pub record IsRefusedAfter {C F V M S : Type 0} (c : Commands C F V M S)
    (parsed : List (Parsed F V Infallible M S)) (rest : List (List ℕ))
    (refused : Refused F V Infallible M S) : Type 0 where
  pub program : refused.program.now ≡ (declaration_of c.options).program
  pub help : refused.help ≡ help_names (options_of c.options)
  pub before : refused.before.items ≡ parsed
  pub told : IsMistake c.commands.now rest refused.mistake

-- the result by these general options, by the keys, and these words after them
abbrev pub IsLineAfter : {C F V M S : Type 0} → Commands C F V M S → List (Parsed F V Infallible M S)
    → List (List ℕ) → CommandLine C F V M S → Type 0
IsLineAfter c parsed rest (line.Command own name key words) =
    (own.items ≡ parsed) × (meaning c.commands.now rest ≡ command name.now key words.items)
IsLineAfter c parsed rest (line.Asked asked) = (meaning c.commands.now rest ≡ help) × (asked ≡ Help)
IsLineAfter c parsed rest (line.Refused refused) = IsRefusedAfter c parsed rest refused

-- The words are general options that mean this and ask for nothing, and then a rest, which may be
-- empty. This is the result by both.
pub record IsAfterOptions {C F V M S : Type 0} (c : Commands C F V M S)
    (words : List (List ℕ)) (line : CommandLine C F V M S) : Type 0 where
  pub rest : List (List ℕ)
  pub parsed : Vec (Parsed F V Infallible M S) Global
  pub read : IsRestRead surplus c.options words rest (front.Parsed parsed)
  pub after : IsLineAfter c parsed.items rest line

-- ---- by the general options alone

-- they ask for the help or the version before any mistake, or have a mistake
abbrev pub IsByOptions : {C F V M S : Type 0} → Options F V Infallible M S → List (List ℕ)
    → CommandLine C F V M S → Type 0
IsByOptions o words (line.Command parsed name key own) = ⊥
IsByOptions o words (line.Asked asked) =
    (rest : List (List ℕ)) × IsRestRead surplus o words rest (front.Asked asked)
IsByOptions o words (line.Refused refused) =
    (rest : List (List ℕ)) × IsRestRead surplus o words rest (front.Refused refused)

-- ---- all

-- the result of reading the line of these words
abbrev pub IsLineRead : {C F V M S : Type 0} → Commands C F V M S → List (List ℕ)
    → CommandLine C F V M S → Type 0
IsLineRead c words line = IsByOptions c.options words line ⊎ IsAfterOptions c words line

-- the result is that the line asks for this
abbrev pub IsLineAsking : {C F V M S : Type 0} → spec.Asked → CommandLine C F V M S → Type 0
IsLineAsking asked (line.Asked own) = asked_view own ≡ asked
IsLineAsking asked line = ⊥

-- the result by this list of general options, after their defaults, and these words after them: what
-- the options ask for; or, if they ask for nothing, what the words mean
pub record IsLineOf {C F V M S : Type 0} (c : Commands C F V M S) (l : List legal.Parsed)
    (rest : List (List ℕ)) (line : CommandLine C F V M S) : Type 0 where
  pub asks : (asked : spec.Asked) → first_asked (declaration_of c.options).options l ≡ Some asked
      → IsLineAsking asked line
  pub after : first_asked (declaration_of c.options).options l ≡ None
      → (parsed : List (Parsed F V Infallible M S)) × AreReadAs (options_of c.options) l parsed
      × IsLineAfter c parsed rest line

-- the result is the command with this name and key, with these words and this list of general
-- options, after their defaults
abbrev pub IsCommandLine : {C F V M S : Type 0} → Commands C F V M S → List legal.Parsed → List ℕ → C
    → List (List ℕ) → CommandLine C F V M S → Type 0
IsCommandLine c l name key words (line.Command parsed own k rest) =
    AreReadAs (options_of c.options) l parsed.items × (own.now ≡ name) × (k ≡ key)
    × (rest.items ≡ words)
IsCommandLine c l name key words line = ⊥
