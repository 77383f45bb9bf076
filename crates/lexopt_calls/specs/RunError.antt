-- The messages and exit statuses of failed runs.
use Rattle.std.specs.Prelude.{ℕ, List, ◌++◌, codes}
use Rattle.std.specs.Fmt.{decimal}
use Rattle.lexopt_calls.specs.declared.run_error.RunError.{RunError}
use Rattle.lexopt_calls.specs.declared.run_error.RunError.TheVariants.{BadLine, TooLong}
use Rattle.lexopt_calls.specs.declared.run_error.RunError.TheVariants.{ReadFailed, WriteFailed}
use Rattle.lexopt_calls.specs.declared.run_error.RunError.TheVariants.{NoMemory}

-- the message that `{}` prints
abbrev pub run_message : RunError → List ℕ
run_message (BadLine line) = codes "line " ++ (decimal line ++ codes " refused")
run_message TooLong = codes "script too long"
run_message ReadFailed = codes "read failed"
run_message WriteFailed = codes "write failed"
run_message NoMemory = codes "out of memory"

-- 2 if the script is at fault, otherwise 1
abbrev pub status_of : RunError → ℕ
status_of (BadLine line) = 2
status_of TooLong = 2
status_of ReadFailed = 1
status_of WriteFailed = 1
status_of NoMemory = 1
