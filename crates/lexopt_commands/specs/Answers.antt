-- What a program with commands has to do about its words, or about a request of a shell. The source
-- is `docs/behaviour.md`.
use Rattle.std.specs.Prelude.{◌≡◌, ℕ, List, [], ◌∷◌, ◌++◌, Vec, string_bytes}
use Rattle.std.specs.Borrow.{Bor}
use Rattle.std.specs.Global.{Global}
use Rattle.std.specs.declared.convert.Infallible.{Infallible}
use Rattle.lexopt_options_spec.specs.Declaration.{Asked, brief, for_brief_help, for_help, for_version}
use Rattle.lexopt_options_spec.specs.Declaration.{full}
use Rattle.lexopt_options_spec.specs.Help.{line_feed}
use Rattle.lexopt_options.specs.declared.request.Request.{Request}
use Rattle.lexopt_options.specs.declared.request.Request.TheVariants as request
use Rattle.lexopt_options.specs.declared.parsed.Asked as rust
use Rattle.lexopt_options.specs.declared.parsed.Parsed.{Parsed}
use Rattle.lexopt_options.specs.Answers.{IsUnknownRequest, script_lines}
use Rattle.lexopt_options.specs.Declarations.{declaration_of}
use Rattle.lexopt_options.specs.Keys.{asked_view}
use Rattle.lexopt_commands.specs.declared.answer.Step.{Step}
use Rattle.lexopt_commands.specs.declared.answer.Step.TheVariants as step
use Rattle.lexopt_commands.specs.declared.call.Call.{Call}
use Rattle.lexopt_commands.specs.declared.commands.Commands.{Commands}
use Rattle.lexopt_commands.specs.declared.read.CommandLine.TheVariants as line
use Rattle.lexopt_commands.specs.Calls.{path_of}
use Rattle.lexopt_commands.specs.Completions.{IsCompletionStep}
use Rattle.lexopt_commands.specs.Help.{IsHelp}
use Rattle.lexopt_commands.specs.Lines.{IsLineRead}

-- the text is the help at this width, or the version and a line feed
abbrev pub IsAskedText : {C F V M S : Type 0} → Commands C F V M S → Asked → ℕ → List ℕ → Type 0
IsAskedText c for_help width text =
    IsHelp full (declaration_of c.options) c.commands.now width text
IsAskedText c for_brief_help width text =
    IsHelp brief (declaration_of c.options) c.commands.now width text
IsAskedText c (for_version version) width text = text ≡ version ++ line_feed ∷ []

-- The words are the line of a command. Its call has the words after its name, and the general
-- options: these, and then those of the line.
pub record IsCommandStep {C F V M S : Type 0} (c : Commands C F V M S)
    (before : List (Parsed F V Infallible M S)) (words : List (List ℕ)) (key : C)
    (path : List ℕ) (call : Call F V M S) : Type 0 where
  pub parsed : Vec (Parsed F V Infallible M S) Global
  pub name : Bor (List ℕ)
  pub own : Vec (List ℕ) Global
  pub read : IsLineRead c words (line.Command parsed name key own)
  pub by_path : path ≡ path_of c.options name.now
  pub general : call.general.items ≡ before ++ parsed.items
  pub line : call.request ≡ request.Line own

-- what to do about these words, which come after these general options, with the help at this width
abbrev pub IsStep : {C F V M S : Type 0} → Commands C F V M S → List (Parsed F V Infallible M S)
    → List (List ℕ) → ℕ → Step C F V M S → Type 0
IsStep c before words width (step.Command key path call) =
    IsCommandStep c before words key (string_bytes path) call
IsStep c before words width (step.Text text) = (asked : rust.Asked)
    × IsLineRead c words (line.Asked asked)
    × IsAskedText c (asked_view asked) width (string_bytes text)
IsStep c before words width (step.Refused refused) = IsLineRead c words (line.Refused refused)

-- what to do about this request, which comes after these general options, with the help at this
-- width
abbrev pub IsRequestStep : {C F V M S : Type 0} → Commands C F V M S
    → List (Parsed F V Infallible M S) → Request → ℕ → Step C F V M S → Type 0
IsRequestStep c before (request.Line words) width found = IsStep c before words.items width found
IsRequestStep c before (request.Completion words typed) width found =
    IsCompletionStep c words.items typed found
IsRequestStep c before (request.Script shell) width (step.Text text) =
    string_bytes text ≡ script_lines c.options shell
IsRequestStep c before request.Unknown width (step.Refused refused) =
    IsUnknownRequest c.options refused
IsRequestStep c before asked width found = ⊥
