-- The messages and causes of errors.
use Rattle.std.specs.Prelude.{ℕ, List, Option, Some, None, string_bytes}
use Rattle.anyhow.specs.declared.error.Error.{Error as Cause}
use Rattle.anyhow.specs.Error.{IsMadeOf, error_message}
use Rattle.lexopt_spec.specs.Text.{missing_message, unexpected_option_message}
use Rattle.lexopt_spec.specs.Text.{unexpected_argument_message, unexpected_value_message}
use Rattle.lexopt_spec.specs.Text.{parsing_failed_message, non_unicode_message, no_memory_message}
use Rattle.lexopt_words.specs.declared.error.Error.{Error}
use Rattle.lexopt_words.specs.declared.error.Error.TheVariants.{MissingValue, UnexpectedOption}
use Rattle.lexopt_words.specs.declared.error.Error.TheVariants.{UnexpectedArgument, UnexpectedValue}
use Rattle.lexopt_words.specs.declared.error.Error.TheVariants.{ParsingFailed, NonUnicodeValue}
use Rattle.lexopt_words.specs.declared.error.Error.TheVariants.{Custom, OutOfMemory}

-- the message that `{}` and `{:?}` print
abbrev pub message : Error → List ℕ
message (MissingValue None) = missing_message None
message (MissingValue (Some option)) = missing_message (Some (string_bytes option))
message (UnexpectedOption option) = unexpected_option_message (string_bytes option)
message (UnexpectedArgument value) = unexpected_argument_message value
message (UnexpectedValue option value) = unexpected_value_message (string_bytes option) value
message (ParsingFailed value error) =
    parsing_failed_message (string_bytes value) (error_message error)
message (NonUnicodeValue value) = non_unicode_message value
message (Custom error) = error_message error
message OutOfMemory = no_memory_message

-- the cause of an error, if it has one
abbrev pub cause_of : Error → Option Cause
cause_of (MissingValue option) = None
cause_of (UnexpectedOption option) = None
cause_of (UnexpectedArgument value) = None
cause_of (UnexpectedValue option value) = None
cause_of (ParsingFailed value error) = Some error
cause_of (NonUnicodeValue value) = None
cause_of (Custom error) = Some error
cause_of OutOfMemory = None

-- the error is `Custom`, and the message of its cause is this text, or a text of at most 120 bytes
-- that ends in three dots
abbrev pub IsCustom : List ℕ → Error → Type 0
IsCustom text (MissingValue option) = ⊥
IsCustom text (UnexpectedOption option) = ⊥
IsCustom text (UnexpectedArgument value) = ⊥
IsCustom text (UnexpectedValue option value) = ⊥
IsCustom text (ParsingFailed value error) = ⊥
IsCustom text (NonUnicodeValue value) = ⊥
IsCustom text (Custom error) = IsMadeOf (Some text) error
IsCustom text OutOfMemory = ⊥
