-- What a shell asks for.
use Rattle.std.proofs.Common.{◌≡◌, ℕ, List, Option, Some}
use Rattle.lexopt_declaration.specs.Scripts.{request_text}
use Rattle.lexopt_declaration.specs.declared.shell.Shell.{Shell}
use Rattle.lexopt_declaration.specs.declared.shell.ShellRequest.TheVariants as asks
use Rattle.lexopt_options.specs.declared.request.Request.{Request}
use Rattle.lexopt_options.specs.declared.request.Request.TheVariants as request
use Rattle.lexopt_options.specs.Requests.{IsCompletionRequest, IsRequest}

pub completion_asked : (value : Option (List ℕ)) (words : List (List ℕ)) (shell : Shell) (r : Request) → value ≡ Some (request_text (asks.Completion shell)) → IsCompletionRequest words r → IsRequest value words r
completion_asked value words shell (request.Completion before typed) asked is = ((shell, asked), is)
completion_asked value words shell r asked is = absurd is
