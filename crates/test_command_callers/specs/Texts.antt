-- What is printed of a command that cannot be declared, by plain data.
use Rattle.std.specs.Prelude.{◌++◌, List, ℕ, codes}
use Rattle.std.specs.List.{flat_map}
use Rattle.std.specs.Str.{chars}
use Rattle.lexopt_spec.specs.Text.{escaped}
use Rattle.lexopt_commands.specs.declared.command.CommandError.{CommandError}
use Rattle.lexopt_commands.specs.declared.command.Reason.{Reason}
use Rattle.lexopt_commands.specs.declared.command.Reason.TheVariants as reason

abbrev pub reason_line : Reason → List ℕ
reason_line reason.EmptyName = codes "its name is empty"
reason_line reason.DashName = codes "its name begins with '-'"
reason_line reason.ReplacementInName = codes "its name has U+FFFD in it"
reason_line reason.BlankOrControlInName =
    codes "its name has a blank or a control character in it"
reason_line reason.SameName = codes "a command before it has its name"

-- a name
abbrev pub printed_text : List ℕ → List ℕ
printed_text text = flat_map escaped (chars text)

abbrev pub error_line : CommandError → List ℕ
error_line e =
    codes "command '" ++ (printed_text e.name.now ++ (codes "': " ++ reason_line e.reason))
