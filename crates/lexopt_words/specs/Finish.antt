-- The status with which a program ends.
use Rattle.std.specs.Prelude.{ℕ, Result, Ok, Err}
use Rattle.std.specs.IoError.{error_kind}
use Rattle.std.specs.Process.{exit_status}
use Rattle.std.specs.declared.process.ExitCode.{ExitCode}
use Rattle.std.specs.declared.io.Error.{Error}
use Rattle.std.specs.declared.io.ErrorKind.{ErrorKind}
use Rattle.std.specs.declared.io.ErrorKind.TheVariants.{BrokenPipe}

-- the status after a failure of this kind: 141 if nobody reads what the program prints, otherwise 1
abbrev pub status_after : ErrorKind → ℕ
status_after BrokenPipe = 141
status_after kind = 1

-- the status of a program whose work returned this
abbrev pub status_of : Result ExitCode Error → ℕ
status_of (Ok code) = exit_status code
status_of (Err error) = status_after (error_kind error)
