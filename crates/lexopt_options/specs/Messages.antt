-- The messages about a line that is refused. The source is `docs/formats.md`.
use Rattle.std.specs.Prelude.{ℕ, List, [], ◌++◌, Option, codes, map, string_bytes}
use Rattle.lexopt_spec.specs.Text.{escaped, unexpected_option_message, visible}
use Rattle.lexopt_options_spec.specs.Help.{escaped_text, list_text}
use Rattle.lexopt_declaration.specs.Texts.{help_line, hint_text, names_text}
use Rattle.lexopt_declaration.specs.declared.declaration.Names.{Names}
use Rattle.lexopt_options.specs.declared.mistake.Mistake.{Mistake}
use Rattle.lexopt_options.specs.declared.mistake.Mistake.TheVariants.{UnknownOption}
use Rattle.lexopt_options.specs.declared.mistake.Mistake.TheVariants.{UnexpectedValue, MissingValue}
use Rattle.lexopt_options.specs.declared.mistake.Mistake.TheVariants.{InvalidArgument, InvalidValue}
use Rattle.lexopt_options.specs.declared.mistake.Mistake.TheVariants.{UnexpectedArgument}
use Rattle.lexopt_options.specs.declared.mistake.Mistake.TheVariants.{MissingArgument, MissingOption}
use Rattle.lexopt_options.specs.declared.mistake.Mistake.TheVariants.{MissingCommand, UnknownCommand}
use Rattle.lexopt_options.specs.declared.mistake.Mistake.TheVariants.{Exclusive, InvalidVariable}
use Rattle.lexopt_options.specs.declared.mistake.OptionName.{OptionName}
use Rattle.lexopt_options.specs.declared.mistake.OptionName.TheVariants.{Short, Long}

-- a name with its dashes
abbrev pub name_text : OptionName → List ℕ
name_text (Short c) = codes "-" ++ escaped c
name_text (Long name) = codes "--" ++ escaped_text (string_bytes name)

abbrev pub message : Mistake → List ℕ
message (UnknownOption name hints) = unexpected_option_message (name_text name)
    ++ hint_text (codes "--") (map (λ hint. hint.now) hints.items)
message (UnexpectedValue option value) = codes "unexpected argument for option '"
    ++ (escaped_text (string_bytes option) ++ (codes "': " ++ visible value))
message (MissingValue option placeholder) = codes "missing argument "
    ++ (escaped_text placeholder.now
    ++ (codes " for option '" ++ (escaped_text (string_bytes option) ++ codes "'")))
message (InvalidValue option value values) = codes "invalid value " ++ (visible value
    ++ (codes " for '" ++ (names_text option
    ++ (codes "': one of " ++ list_text (map (λ own. escaped_text own.now) values.now)))))
message (UnexpectedArgument word) = codes "unexpected argument " ++ visible word
message (MissingArgument placeholder) = codes "missing argument " ++ escaped_text placeholder.now
message (InvalidArgument placeholder word values) = codes "invalid argument " ++ (visible word
    ++ (codes " for " ++ (escaped_text placeholder.now
    ++ (codes ": one of " ++ list_text (map (λ own. escaped_text own.now) values.now)))))
message (MissingOption names) = codes "missing option '" ++ (names_text names ++ codes "'")
message (Exclusive names others) = codes "options '" ++ (names_text names
    ++ (codes "' and '" ++ (names_text others ++ codes "' cannot be used together")))
message (MissingCommand names) =
    codes "missing command: one of " ++ list_text (map (λ name. escaped_text name.now) names.items)
message (UnknownCommand word rest hints) = codes "unknown command " ++ (visible word
    ++ hint_text [] (map (λ hint. hint.now) hints.items))
message (InvalidVariable name) = codes "invalid value of " ++ (escaped_text (string_bytes name)
    ++ (codes ": one of bash_source, bash_complete, zsh_source, zsh_complete, fish_source, "
    ++ codes "fish_complete"))

-- the name of the program and the message, and where the help is
abbrev pub refusal_text : List ℕ → Option Names → List ℕ → List ℕ
refusal_text program help what = program ++ (codes ": " ++ (what ++ help_line program help))
