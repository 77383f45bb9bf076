-- The scripts by which shells complete the lines of a program. Their texts are those of `shell.rt`.
use Rattle.std.specs.Prelude.{ℕ, ◌==◌, List, ◌++◌, codes, encode_utf8, if◌then◌else◌, map}
use Rattle.std.specs.List.{flat_map}
use Rattle.std.specs.Str.{chars}
use Rattle.std.specs.Char.{is_ascii_alphanumeric, to_ascii_uppercase}
use Rattle.lexopt_declaration.specs.declared.shell.Shell.{Shell}
use Rattle.lexopt_declaration.specs.declared.shell.Shell.TheVariants.{Bash, Zsh, Fish}
use Rattle.lexopt_declaration.specs.declared.shell.ShellRequest.{ShellRequest}
use Rattle.lexopt_declaration.specs.declared.shell.ShellRequest.TheVariants as asks
use Rattle.lexopt_declaration.specs.declared.shell.Script.{Script}
use Rattle.lexopt_declaration.specs.declared.shell.TheConstants.{BASH, ZSH, FISH}

abbrev pub shell_name : Shell → List ℕ
shell_name Bash = codes "bash"
shell_name Zsh = codes "zsh"
shell_name Fish = codes "fish"

-- ---- what a shell asks for

-- the value of the variable that makes this request
abbrev pub request_text : ShellRequest → List ℕ
request_text (asks.Script shell) = shell_name shell ++ codes "_source"
request_text (asks.Completion shell) = shell_name shell ++ codes "_complete"

-- a letter in upper case, a digit as it is, and an underscore for any other byte
abbrev pub variable_byte : ℕ → ℕ
variable_byte b = if is_ascii_alphanumeric b then to_ascii_uppercase b else 0x5F

-- the name of the variable by which shells ask a program of this name
abbrev pub variable_name : List ℕ → List ℕ
variable_name program = codes "_" ++ map variable_byte program ++ codes "_COMPLETE"

-- ---- the scripts

-- a character of a script as it is written: `§` is the name of the program, and `¶` that of the
-- variable
abbrev pub script_character : List ℕ → List ℕ → ℕ → List ℕ
script_character program variable c =
    if c == 0xA7 then program else (if c == 0xB6 then variable else encode_utf8 c)

abbrev pub with_names : List ℕ → List ℕ → List ℕ → List ℕ
with_names program variable text = flat_map (script_character program variable) (chars text)

-- the script of a shell for the program of this name, with the name of its variable
abbrev pub shell_script : Shell → List ℕ → List ℕ → List ℕ
shell_script Bash program variable = with_names program variable BASH.now
shell_script Zsh program variable = with_names program variable ZSH.now
shell_script Fish program variable = with_names program variable FISH.now

abbrev pub script_text : Script → List ℕ
script_text script = shell_script script.shell script.program.now script.variable.now
