-- The texts of declared options and their errors, and which of two options cannot be declared, by
-- plain data.
use Rattle.std.specs.Prelude.{◌≡◌, ◌≢◌, ◌⊎◌, ◌&&◌, zero, suc, ℕ, Bool, true, false, List, []}
use Rattle.std.specs.Prelude.{◌∷◌, ◌++◌, map, Option, Some, None, codes, string_bytes}
use Rattle.anyhow.specs.Error.{error_message}
use Rattle.std.specs.List.{flat_map, list_all}
use Rattle.std.specs.Str.{chars}
use Rattle.lexopt_spec.specs.Text.{escaped, visible}
use Rattle.lexopt_words.specs.Message as words
use Rattle.lexopt_words.specs.declared.error.Error.{Error}
use Rattle.lexopt_words.specs.declared.error.Error.TheVariants as error
use Rattle.lexopt_line_spec.specs.Table.{flag, one}
use Rattle.lexopt_options_spec.specs.Declaration as spec
use Rattle.lexopt_options_spec.specs.Declaration.{IsFirstFault, are_clear, are_listable}
use Rattle.lexopt_options_spec.specs.Declaration.{is_sound}
use Rattle.lexopt_options_spec.specs.Help.{IsUsage, list_text}
use Rattle.lexopt_declaration.specs.declared.declaration.Count.{Count}
use Rattle.lexopt_declaration.specs.declared.declaration.Count.TheVariants as count
use Rattle.lexopt_declaration.specs.Declarations.{declaration_view}
use Rattle.lexopt_runtime_options.specs.Faults.{IsDeclarationError}
use Rattle.lexopt_declaration.specs.Models.{option_view, positional_view}
use Rattle.lexopt_declaration.specs.declared.declaration.Declaration.{Declaration}
use Rattle.lexopt_runtime_options.specs.declared.faults.DeclarationError.{DeclarationError}
use Rattle.lexopt_runtime_options.specs.declared.faults.DeclarationError.TheVariants as refusal
use Rattle.lexopt_declaration.specs.declared.declaration.Names.{Names}
use Rattle.lexopt_declaration.specs.declared.declaration.Names.TheVariants.{Short, Long, Both}
use Rattle.lexopt_runtime_options.specs.declared.faults.Reason.{Reason}
use Rattle.lexopt_runtime_options.specs.declared.faults.Reason.TheVariants as reason
use Rattle.lexopt_options.specs.declared.mistake.Mistake.{Mistake}
use Rattle.lexopt_options.specs.declared.mistake.Mistake.TheVariants as mistake
use Rattle.lexopt_options.specs.declared.mistake.OptionName.{OptionName}
use Rattle.lexopt_options.specs.declared.mistake.OptionName.TheVariants as typed
use Rattle.lexopt_options.specs.declared.refused.Refused.{Refused}
use Rattle.lexopt_options.specs.declared.usage.Report.{Report}
use Rattle.lexopt_options.specs.declared.usage.UsageError.{UsageError}
use Rattle.lexopt_options.specs.declared.usage.UsageError.TheVariants as usage

-- ---- names, and an option that cannot be declared

-- a name or a placeholder
abbrev pub printed_text : List ℕ → List ℕ
printed_text text = flat_map escaped (chars text)

abbrev pub names_line : Names → List ℕ
names_line (Short c) = codes "-" ++ escaped c
names_line (Long name) = codes "--" ++ printed_text name.now
names_line (Both c name) = codes "--" ++ printed_text name.now

-- the reason why a list cannot be declared
abbrev pub list_reason : List ℕ
list_reason =
    codes "the list of its values is empty, or one of them is empty, begins with '-' or '=', "
    ++ codes "or has a blank or a control character in it"

abbrev pub reason_line : Reason → List ℕ
reason_line reason.DashName = codes "its character is '-'"
reason_line reason.EmptyName = codes "its name is empty"
reason_line reason.EqualsInName = codes "its name has '=' in it"
reason_line reason.ReplacementInName = codes "its name has U+FFFD in it"
reason_line reason.BlankOrControlInName =
    codes "its name has a blank or a control character in it"
reason_line reason.BadPlaceholder = codes "its placeholder is empty or begins with '-' or '='"
reason_line reason.BadList = list_reason
reason_line reason.BadDefault = codes "it has a default, but is required, does not always have one value, or "
    ++ codes "does not accept it"
reason_line reason.BadLabel =
    codes "its label shows a flag or a negation that is not declared before it, or whose own "
    ++ codes "label shows another, or that does not fit its names"
reason_line reason.BadExclusive = codes "it excludes other options, but is required"
reason_line reason.SameName = codes "an option before it has one of its names"

abbrev pub declaration_line : DeclarationError → List ℕ
declaration_line (refusal.Option option reason) =
    codes "option '" ++ (names_line option ++ (codes "': " ++ reason_line reason))
declaration_line (refusal.Positional placeholder) = codes "positional argument "
    ++ (printed_text placeholder.now ++ codes ": one before it may occur more than once too")
declaration_line (refusal.BadList placeholder) =
    codes "positional argument " ++ (printed_text placeholder.now ++ (codes ": " ++ list_reason))

-- ---- a line that is refused

abbrev pub typed_name : OptionName → List ℕ
typed_name (typed.Short c) = codes "-" ++ escaped c
typed_name (typed.Long name) = codes "--" ++ printed_text (string_bytes name)

-- a name after these dashes, in quotes
abbrev pub hinted : List ℕ → List ℕ → List ℕ
hinted dashes name = codes "'" ++ (dashes ++ (printed_text name ++ codes "'"))

-- the names that may have been meant, after these dashes
abbrev pub hints_line : List ℕ → List (List ℕ) → List ℕ
hints_line dashes [] = []
hints_line dashes (name ∷ []) = codes "; did you mean " ++ (hinted dashes name ++ codes "?")
hints_line dashes (name ∷ names) =
    codes "; did you mean one of " ++ (list_text (map (hinted dashes) (name ∷ names)) ++ codes "?")

abbrev pub mistake_line : Mistake → List ℕ
mistake_line (mistake.UnknownOption name hints) =
    (codes "invalid option '" ++ (typed_name name ++ codes "'"))
    ++ hints_line (codes "--") (map (λ hint. hint.now) hints.items)
mistake_line (mistake.UnexpectedValue option value) = codes "unexpected argument for option '"
    ++ (printed_text (string_bytes option) ++ (codes "': " ++ visible value))
mistake_line (mistake.MissingValue option placeholder) = codes "missing argument "
    ++ (printed_text placeholder.now
    ++ (codes " for option '" ++ (printed_text (string_bytes option) ++ codes "'")))
mistake_line (mistake.InvalidValue option value values) = codes "invalid value "
    ++ (visible value ++ (codes " for '" ++ (names_line option
    ++ (codes "': one of " ++ list_text (map (λ v. printed_text v.now) values.now)))))
mistake_line (mistake.UnexpectedArgument word) = codes "unexpected argument " ++ visible word
mistake_line (mistake.MissingArgument placeholder) =
    codes "missing argument " ++ printed_text placeholder.now
mistake_line (mistake.InvalidArgument placeholder word values) = codes "invalid argument "
    ++ (visible word ++ (codes " for " ++ (printed_text placeholder.now
    ++ (codes ": one of " ++ list_text (map (λ v. printed_text v.now) values.now)))))
mistake_line (mistake.MissingOption names) =
    codes "missing option '" ++ (names_line names ++ codes "'")
mistake_line (mistake.Exclusive names others) = codes "options '" ++ (names_line names
    ++ (codes "' and '" ++ (names_line others ++ codes "' cannot be used together")))
mistake_line (mistake.MissingCommand names) =
    codes "missing command: one of " ++ list_text (map (λ name. printed_text name.now) names.items)
mistake_line (mistake.UnknownCommand word rest hints) = codes "unknown command " ++ (visible word
    ++ hints_line [] (map (λ hint. hint.now) hints.items))
mistake_line (mistake.InvalidVariable name) = codes "invalid value of "
    ++ (printed_text (string_bytes name)
    ++ (codes ": one of bash_source, bash_complete, zsh_source, zsh_complete, fish_source, "
    ++ codes "fish_complete"))

-- the second line, which names the option for the help
abbrev pub try_line : List ℕ → Option Names → List ℕ
try_line program None = []
try_line program (Some names) = codes "\nTry '"
    ++ (program ++ (codes " " ++ (names_line names ++ codes "' for more information.")))

abbrev pub refused_line : {F V P M S : Type 0} → Refused F V P M S → List ℕ
refused_line r = r.program.now
    ++ (codes ": " ++ (mistake_line r.mistake ++ try_line r.program.now r.help))

-- ---- a mistake that the program found

abbrev pub of_option : Option Names → List ℕ
of_option None = []
of_option (Some names) = codes " for '" ++ (names_line names ++ codes "'")

abbrev pub value_line : Option Names → Error → List ℕ
value_line names (error.ParsingFailed value cause) =
    (codes "invalid value " ++ visible (string_bytes value))
    ++ (of_option names ++ (codes ": " ++ error_message cause))
value_line names (error.NonUnicodeValue value) =
    (codes "invalid value " ++ visible value) ++ (of_option names ++ codes ": not UTF-8")
value_line names error.OutOfMemory = codes "out of memory"
value_line names other =
    codes "invalid value" ++ (of_option names ++ (codes ": " ++ words.message other))

abbrev pub usage_line : UsageError → List ℕ
usage_line (usage.Invalid names error) = value_line names error
usage_line (usage.Text text) = text.now
usage_line (usage.Formatted text) = string_bytes text
usage_line usage.OutOfMemory = codes "out of memory"

-- the second line of a mistake, and none if memory ran out
abbrev pub try_after : List ℕ → Option Names → UsageError → List ℕ
try_after program help (usage.Invalid names error) = try_line program help
try_after program help (usage.Text text) = try_line program help
try_after program help (usage.Formatted text) = try_line program help
try_after program help usage.OutOfMemory = []

abbrev pub report_line : Report → List ℕ
report_line r = r.program.now
    ++ (codes ": " ++ (usage_line r.error ++ try_after r.program.now r.help r.error))

-- ---- two options that cannot be declared

-- an option of one value, which is in this list
abbrev pub listed_option : List ℕ → List (List ℕ) → spec.Declared
listed_option placeholder values = record {
  short_name = Some 118;
  long_name = Some (codes "verbose");
  kind = one;
  placeholder = placeholder;
  help = [];
  details = None;
  asks = None;
  heading = None;
  hidden = false;
  required = false;
  default = None;
  exclusive = None;
  words = spec.listed values;
  hides_list = false;
  aliases = [];
  beside = spec.nothing;
}

abbrev pub two_options : ℕ → List ℕ → List ℕ → List (List ℕ) → List spec.Declared
two_options character name placeholder values = record {
  short_name = Some character;
  long_name = Some name;
  kind = flag;
  placeholder = [];
  help = [];
  details = None;
  asks = None;
  heading = None;
  hidden = false;
  required = false;
  default = None;
  exclusive = None;
  words = spec.files;
  hides_list = false;
  aliases = [];
  beside = spec.nothing;
} ∷ listed_option placeholder values ∷ []

abbrev pub reason_of : Reason → spec.Reason
reason_of reason.DashName = spec.dash_name
reason_of reason.EmptyName = spec.empty_name
reason_of reason.EqualsInName = spec.equals_in_name
reason_of reason.ReplacementInName = spec.replacement_in_name
reason_of reason.BlankOrControlInName = spec.blank_or_control_in_name
reason_of reason.BadPlaceholder = spec.bad_placeholder
reason_of reason.BadList = spec.bad_list
reason_of reason.BadDefault = spec.bad_default
reason_of reason.BadLabel = spec.bad_label
reason_of reason.BadExclusive = spec.bad_exclusive
reason_of reason.SameName = spec.same_name

-- the character of the first option, or of the second
abbrev pub character_at : ℕ → ℕ → ℕ
character_at character zero = character
character_at character (suc index) = 118

-- the option with this character is the first that cannot be declared, for this reason
abbrev pub IsFaultOf : ℕ → List ℕ → List ℕ → List (List ℕ) → ℕ × Reason → Type 0
IsFaultOf character name placeholder values fault = (index : ℕ)
    × IsFirstFault (two_options character name placeholder values) index (reason_of fault.1)
    × (fault.0 ≡ character_at character index)

-- ---- a declaration, by the definitions that the clause of `try_new` cites

-- everything can be declared together, and the text is the usage line at this width
abbrev pub IsUsageWith : {F V P M S : Type 0} → ℕ → Declaration F V P M S → List ℕ → Type 0
IsUsageWith width d text = (is_sound (map option_view d.options.now) ≡ true)
    × (are_clear (map positional_view d.positionals.now) ≡ true)
    × (are_listable (map positional_view d.positionals.now) ≡ true)
    × IsUsage width (declaration_view d) text

-- not everything can be declared together, and the text is that of the error
abbrev pub IsErrorWith : {F V P M S : Type 0} → Declaration F V P M S → List ℕ → Type 0
IsErrorWith d text = (error : DeclarationError) × IsDeclarationError d error
    × (text ≡ declaration_line error)

-- ---- an option and two positionals, declared together

abbrev pub one_option : ℕ → List ℕ → List spec.Declared
one_option character help = record {
  short_name = Some character;
  long_name = None;
  kind = flag;
  placeholder = [];
  help = help;
  details = None;
  asks = None;
  heading = None;
  hidden = false;
  required = false;
  default = None;
  exclusive = None;
  words = spec.files;
  hides_list = false;
  aliases = [];
  beside = spec.nothing;
}
    ∷ []

abbrev pub count_of : Count → spec.Count
count_of count.Once = spec.once
count_of count.AtMostOnce = spec.at_most_once
count_of count.AnyNumber = spec.any_number
count_of count.AtLeastOnce = spec.at_least_once

abbrev pub two_words : List ℕ → Count → Count → List (List ℕ) → List spec.Positional
two_words help first second values = record {
  placeholder = codes "FROM";
  count = count_of first;
  help = help;
  words = spec.directories;
  hides_list = false;
}
    ∷ record {
      placeholder = codes "TO";
      count = count_of second;
      help = help;
      words = spec.listed values;
      hides_list = false;
    }
    ∷ []

abbrev pub small_tool : ℕ → List ℕ → Count → Count → List (List ℕ) → spec.Declaration
small_tool character help first second values = record {
  program = codes "small";
  about = [];
  usage = [];
  options = one_option character help;
  positionals = two_words help first second values;
  epilogue = [];
  short_equals = true;
}

-- a positional with this count may occur more than once
abbrev pub repeats : Count → Bool
repeats count.Once = false
repeats count.AtMostOnce = false
repeats count.AnyNumber = true
repeats count.AtLeastOnce = true

-- a list is not empty, and each of these values can be in it
abbrev pub CanBeListed : List (List ℕ) → Type 0
CanBeListed values = (values ≢ []) × (list_all spec.is_listable values ≡ true)

-- The option can be declared, at most one positional may occur more than once, and the list of the
-- second can be declared. The text is the usage line at this width.
abbrev pub IsUsageOf : ℕ → ℕ → List ℕ → Count → Count → List (List ℕ) → List ℕ → Type 0
IsUsageOf width character help first second values text =
    (is_sound (one_option character help) ≡ true)
    × ((repeats first && repeats second) ≡ false) × CanBeListed values
    × IsUsage width (small_tool character help first second values) text

-- The option cannot be declared, for the reason in the text. Or it can be declared, and both
-- positionals may occur more than once, and the text names the second. Or the option can be
-- declared, at most one positional may occur more than once, and the text reports the list of the
-- second, which cannot be declared.
abbrev pub IsErrorOf : ℕ → List ℕ → Count → Count → List (List ℕ) → List ℕ → Type 0
IsErrorOf character help first second values text = ((reason : Reason)
    × IsFirstFault (one_option character help) 0 (reason_of reason)
    × (text ≡ codes "option '-" ++ (escaped character ++ (codes "': " ++ reason_line reason))))
    ⊎ ((is_sound (one_option character help) ≡ true) × ((repeats first && repeats second) ≡ true)
    × (text ≡ codes "positional argument TO: one before it may occur more than once too"))
    ⊎ ((is_sound (one_option character help) ≡ true) × ((repeats first && repeats second) ≡ false)
    × (¬ CanBeListed values) × (text ≡ codes "positional argument TO: " ++ list_reason))
