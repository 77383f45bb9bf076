-- What a program is asked for: by its user, or by a shell. The source is `docs/behaviour.md`.
use Rattle.std.specs.Prelude.{◌≡◌, ◌≢◌, ◌⊎◌, ◌++◌, ◌∷◌, ℕ, List, [], Option, Some, None}
use Rattle.lexopt_declaration.specs.Scripts.{request_text}
use Rattle.lexopt_declaration.specs.declared.shell.Shell.{Shell}
use Rattle.lexopt_declaration.specs.declared.shell.ShellRequest.{ShellRequest}
use Rattle.lexopt_declaration.specs.declared.shell.ShellRequest.TheVariants as asks
use Rattle.lexopt_options.specs.declared.request.Request.{Request}
use Rattle.lexopt_options.specs.declared.request.Request.TheVariants.{Line, Completion, Script}
use Rattle.lexopt_options.specs.declared.request.Request.TheVariants.{Unknown}

-- the last of these words is typed, after the others; without words nothing is typed after none
abbrev pub IsTyped : List (List ℕ) → List (List ℕ) → List ℕ → Type 0
IsTyped words before typed = (words ≡ before ++ typed ∷ [])
    ⊎ ((words ≡ []) × (before ≡ []) × (typed ≡ []))

-- the request asks what can come where the last of these words is typed
abbrev pub IsCompletionRequest : List (List ℕ) → Request → Type 0
IsCompletionRequest words (Completion before typed) = IsTyped words before.items typed
IsCompletionRequest words request = ⊥

-- the request by the value of the variable by which shells ask, if it is set, and by the words of
-- the command line
abbrev pub IsRequest : Option (List ℕ) → List (List ℕ) → Request → Type 0
IsRequest value words (Line own) = ((value ≡ None) ⊎ (value ≡ Some [])) × (own.items ≡ words)
IsRequest value words (Completion before typed) =
    ((shell : Shell) × (value ≡ Some (request_text (asks.Completion shell))))
    × IsTyped words before.items typed
IsRequest value words (Script shell) = value ≡ Some (request_text (asks.Script shell))
IsRequest value words Unknown = (text : List ℕ) × (value ≡ Some text) × (text ≢ [])
    × ((request : ShellRequest) → text ≢ request_text request)
