-- The message about a command that cannot be declared. The source is `docs/formats.md`.
use Rattle.std.specs.Prelude.{ℕ, List, ◌++◌, codes}
use Rattle.lexopt_options_spec.specs.Help.{escaped_text}
use Rattle.lexopt_commands.specs.declared.command.CommandError.{CommandError}
use Rattle.lexopt_commands.specs.declared.command.Reason.{Reason}
use Rattle.lexopt_commands.specs.declared.command.Reason.TheVariants.{EmptyName, DashName}
use Rattle.lexopt_commands.specs.declared.command.Reason.TheVariants.{ReplacementInName}
use Rattle.lexopt_commands.specs.declared.command.Reason.TheVariants.{BlankOrControlInName}
use Rattle.lexopt_commands.specs.declared.command.Reason.TheVariants.{SameName}

-- why a command cannot be declared
abbrev pub reason_text : Reason → List ℕ
reason_text EmptyName = codes "its name is empty"
reason_text DashName = codes "its name begins with '-'"
reason_text ReplacementInName = codes "its name has U+FFFD in it"
reason_text BlankOrControlInName = codes "its name has a blank or a control character in it"
reason_text SameName = codes "a command before it has its name"

-- which command cannot be declared, and why
abbrev pub command_error_text : CommandError → List ℕ
command_error_text error =
    codes "command '" ++ (escaped_text error.name.now ++ (codes "': " ++ reason_text error.reason))
