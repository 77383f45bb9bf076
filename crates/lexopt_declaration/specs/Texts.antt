-- How messages and completions show what is declared. The source is `docs/formats.md`.
use Rattle.std.specs.Prelude.{ℕ, List, [], ◌++◌, Option, Some, None, codes, encode_utf8}
use Rattle.std.specs.Prelude.{nat_lt, ◌==◌, ◌||◌, if◌then◌else◌}
use Rattle.std.specs.Prelude.{◌∷◌, map}
use Rattle.lexopt_spec.specs.Text.{escaped}
use Rattle.lexopt_options_spec.specs.Help.{escaped_text, list_text}
use Rattle.lexopt_declaration.specs.declared.declaration.Names.{Names}
use Rattle.lexopt_declaration.specs.declared.declaration.Names.TheVariants.{Short, Long, Both}

-- an option with its dashes: by its name, if it has one
abbrev pub names_text : Names → List ℕ
names_text (Short c) = codes "-" ++ escaped c
names_text (Long name) = codes "--" ++ escaped_text name.now
names_text (Both c name) = codes "--" ++ escaped_text name.now

-- where the help is, if an option for it is declared
abbrev pub help_line : List ℕ → Option Names → List ℕ
help_line program None = []
help_line program (Some names) = codes "\nTry '"
    ++ (program ++ (codes " " ++ (names_text names ++ codes "' for more information.")))

-- a name in quotes, with these dashes before it
abbrev pub name_in_quotes : List ℕ → List ℕ → List ℕ
name_in_quotes dashes name = codes "'" ++ (dashes ++ (escaped_text name ++ codes "'"))

-- which names may have been meant, each with these dashes before it
abbrev pub hint_text : List ℕ → List (List ℕ) → List ℕ
hint_text dashes [] = []
hint_text dashes (name ∷ []) =
    codes "; did you mean " ++ (name_in_quotes dashes name ++ codes "?")
hint_text dashes (name ∷ names) = codes "; did you mean one of "
    ++ (list_text (map (name_in_quotes dashes) (name ∷ names)) ++ codes "?")

-- a character of a help text on one line: a blank for a control character of ASCII
abbrev pub on_one_line : ℕ → List ℕ
on_one_line c = if nat_lt c 0x20 || c == 0x7F then codes " " else encode_utf8 c
