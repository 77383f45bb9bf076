-- The result of a conversion of a value.
use Rattle.std.specs.Prelude.{◌≡◌, ◌⊎◌, List, ℕ, Result, Ok, Err, MatchResult, string_bytes}
use Rattle.anyhow.specs.declared.error.Error.{Error as Cause}
use Rattle.lexopt_words.specs.declared.error.Error.{Error}
use Rattle.lexopt_words.specs.declared.error.Error.TheVariants.{MissingValue, UnexpectedOption}
use Rattle.lexopt_words.specs.declared.error.Error.TheVariants.{UnexpectedArgument, UnexpectedValue}
use Rattle.lexopt_words.specs.declared.error.Error.TheVariants.{ParsingFailed, NonUnicodeValue}
use Rattle.lexopt_words.specs.declared.error.Error.TheVariants.{Custom, OutOfMemory}

-- the error is `ParsingFailed` with the text, and `P` holds of its cause
abbrev pub IsParsingFailed : List ℕ → (Cause → Type 0) → Error → Type 0
IsParsingFailed text P (MissingValue option) = ⊥
IsParsingFailed text P (UnexpectedOption option) = ⊥
IsParsingFailed text P (UnexpectedArgument value) = ⊥
IsParsingFailed text P (UnexpectedValue option value) = ⊥
IsParsingFailed text P (ParsingFailed value cause) = (string_bytes value ≡ text) × P cause
IsParsingFailed text P (NonUnicodeValue value) = ⊥
IsParsingFailed text P (Custom error) = ⊥
IsParsingFailed text P OutOfMemory = ⊥

-- the result for a text, given what the function returned for it: the function's value, or an error
-- with the text and a cause that `converts` makes of the function's error, or `OutOfMemory`
abbrev pub IsParsed : {T E : Type 0} → (E → Cause → Type 0) → List ℕ → Result T E → Result T Error
    → Type 0
IsParsed converts text (Ok value) result = result ≡ Ok value
IsParsed converts text (Err error) result = MatchResult result (λ _. ⊥) (λ e. (e ≡ OutOfMemory)
    ⊎ IsParsingFailed text (converts error) e)

-- the result for a word that is not UTF-8
abbrev pub IsNotUnicode : {T : Type 0} → List ℕ → Result T Error → Type 0
IsNotUnicode word result = MatchResult result (λ _. ⊥) (λ e. (e ≡ OutOfMemory)
    ⊎ (e ≡ NonUnicodeValue word))
