-- What is handed on to a command: the words after its name, or what a shell asks about them. The
-- source is `docs/behaviour.md`.
use Rattle.std.specs.Prelude.{◌≡◌, ℕ, List, [], ◌∷◌, ◌++◌, Vec}
use Rattle.std.specs.Global.{Global}
use Rattle.std.specs.declared.convert.Infallible.{Infallible}
use Rattle.lexopt_options_spec.specs.Help.{blank}
use Rattle.lexopt_options.specs.declared.answer.Answer.{Answer}
use Rattle.lexopt_options.specs.declared.options.Options.{Options}
use Rattle.lexopt_options.specs.declared.parsed.Parsed.{Parsed}
use Rattle.lexopt_options.specs.declared.request.Request.TheVariants as request
use Rattle.lexopt_options.specs.Answers.{IsRequestAnswer}
use Rattle.lexopt_options.specs.Declarations.{declaration_of}
use Rattle.lexopt_commands.specs.declared.call.Call.{Call}

-- the path of a command: the name of the program, or the path before it, a blank and the command's
-- name
abbrev pub path_of : {F V P M S : Type 0} → Options F V P M S → List ℕ → List ℕ
path_of o name = (declaration_of o).program ++ blank ∷ name

-- The call asks a command what can come where this is typed after these words. It has no general
-- options.
pub record IsCompletionCall {F V M S : Type 0} (words : List (List ℕ)) (typed : List ℕ)
    (call : Call F V M S) : Type 0 where
  pub general : call.general.items ≡ []
  pub before : Vec (List ℕ) Global
  pub same : before.items ≡ words
  pub asked : call.request ≡ request.Completion before typed

-- the general options of the call, and what `answer_request` of these options returns for what the
-- call asks for
abbrev pub IsCallAnswer : {F V M S G W P N T : Type 0} → Call F V M S → Options G W P N T → ℕ
    → Vec (Parsed F V Infallible M S) Global × Answer G W P N T → Type 0
IsCallAnswer call o width found =
    (found.0 ≡ call.general) × IsRequestAnswer o call.request width found.1
