-- Mistakes that a program itself finds, and the messages about them. The source is
-- `docs/formats.md`.
use Rattle.std.specs.Prelude.{◌≡◌, ℕ, Bool, false, List, [], ◌++◌, Option, Some, None, codes}
use Rattle.std.specs.Prelude.{IsUtf8, Result, Ok, Err, position, string_bytes}
use Rattle.anyhow.specs.Error.{error_message}
use Rattle.anyhow.specs.declared.error.Error.{Error as Cause}
use Rattle.lexopt_spec.specs.Text.{no_memory_message, visible}
use Rattle.lexopt_words.specs.Message as words
use Rattle.lexopt_words.specs.declared.error.Error.{Error}
use Rattle.lexopt_words.specs.declared.error.Error.TheVariants.{ParsingFailed, NonUnicodeValue}
use Rattle.lexopt_words.specs.declared.error.Error.TheVariants.{OutOfMemory}
use Rattle.lexopt_declaration.specs.declared.declaration.Names.{Names}
use Rattle.lexopt_words.specs.Conversions.{IsNotUnicode, IsParsed}
use Rattle.lexopt_declaration.specs.Lookups.{names_at}
use Rattle.lexopt_declaration.specs.Texts.{help_line, names_text}
use Rattle.lexopt_declaration.specs.declared.declaration.Declared.{Declared}
use Rattle.lexopt_declaration.specs.declared.declaration.Kind.{Kind}
use Rattle.lexopt_declaration.specs.declared.declaration.Kind.TheVariants as kind
use Rattle.lexopt_options.specs.declared.usage.Report.{Report}
use Rattle.lexopt_options.specs.declared.usage.UsageError.{UsageError}
use Rattle.lexopt_options.specs.declared.usage.UsageError.TheVariants as usage

-- which option the value is for, if one is named
abbrev pub for_option : Option Names → List ℕ
for_option None = []
for_option (Some names) = codes " for '" ++ (names_text names ++ codes "'")

abbrev pub value_message : List ℕ → List ℕ
value_message value = codes "invalid value " ++ visible value

-- what is invalid: the value, if the error has it
abbrev pub what_message : Error → List ℕ
what_message (ParsingFailed value cause) = value_message (string_bytes value)
what_message (NonUnicodeValue value) = value_message value
what_message error = codes "invalid value"

-- the reason
abbrev pub why_message : Error → List ℕ
why_message (ParsingFailed value cause) = codes ": " ++ error_message cause
why_message (NonUnicodeValue value) = codes ": not UTF-8"
why_message error = codes ": " ++ words.message error

-- that memory ran out; or what is invalid, for which option, and the reason
abbrev pub invalid_message : Option Names → Error → List ℕ
invalid_message option OutOfMemory = no_memory_message
invalid_message option error = what_message error ++ (for_option option ++ why_message error)

abbrev pub usage_message : UsageError → List ℕ
usage_message (usage.Invalid option error) = invalid_message option error
usage_message (usage.Text text) = text.now
usage_message (usage.Formatted text) = string_bytes text
usage_message usage.OutOfMemory = no_memory_message

-- where the help is, unless memory ran out
abbrev pub report_help : List ℕ → Option Names → UsageError → List ℕ
report_help program help usage.OutOfMemory = []
report_help program help error = help_line program help

abbrev pub report_text : Report → List ℕ
report_text r = r.program.now
    ++ (codes ": " ++ (usage_message r.error ++ report_help r.program.now r.help r.error))

-- the exit status: 1 if memory ran out, otherwise that of a usage error
abbrev pub report_status : UsageError → ℕ
report_status usage.OutOfMemory = 1
report_status error = 2

-- ---- a value that is converted

-- a value could not be converted, or memory ran out
abbrev pub invalid : Option Names → Error → UsageError
invalid option OutOfMemory = usage.OutOfMemory
invalid option error = usage.Invalid option error

-- the error names the option
abbrev pub named : {T : Type 0} → Option Names → Result T Error → Result T UsageError
named option (Ok value) = Ok value
named option (Err error) = Err (invalid option error)

-- what the type's `FromStr` makes of the word; or the error, which names the option
pub record ConvertsFor {T E : Type 0} (option : Option Names)
    (gives : List ℕ → Result T E → Type 0) (converts : E → Cause → Type 0) (word : List ℕ)
    (result : Result T UsageError) : Type 0 where
  pub answer : Result T Error
  pub text : IsUtf8 word → (read : Result T E) × gives word read
      × IsParsed converts word read answer
  pub damaged : (IsUtf8 word → ⊥) → IsNotUnicode word answer
  pub named_so : result ≡ named option answer

-- ---- the first option with a key

abbrev pub is_value : {F V M S : Type 0} → (V → V → Bool) → V → Kind F V M S → Bool
is_value eq key (kind.Value own placeholder) = eq own key
is_value eq key k = false

abbrev pub is_maybe : {F V M S : Type 0} → (M → M → Bool) → M → Kind F V M S → Bool
is_maybe eq key (kind.Maybe own placeholder) = eq own key
is_maybe eq key k = false

abbrev pub is_values : {F V M S : Type 0} → (S → S → Bool) → S → Kind F V M S → Bool
is_values eq key (kind.Values own placeholder) = eq own key
is_values eq key k = false

abbrev pub value_names : {F V M S : Type 0} → (V → V → Bool) → V → List (Declared F V M S)
    → Option Names
value_names eq key options = names_at options (position (λ o. is_value eq key o.kind) options)

abbrev pub maybe_names : {F V M S : Type 0} → (M → M → Bool) → M → List (Declared F V M S)
    → Option Names
maybe_names eq key options = names_at options (position (λ o. is_maybe eq key o.kind) options)

abbrev pub values_names : {F V M S : Type 0} → (S → S → Bool) → S → List (Declared F V M S)
    → Option Names
values_names eq key options = names_at options (position (λ o. is_values eq key o.kind) options)
