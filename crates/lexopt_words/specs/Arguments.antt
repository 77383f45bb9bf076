-- Which arguments are options, and the error for an argument that a program does not know.
use Rattle.std.specs.Prelude.{◌≡◌, ℕ, List, Some, string_bytes}
use Rattle.lexopt_spec.specs.UnreadLine.{LastOption, short_option, long_option, spelling}
use Rattle.lexopt_words.specs.declared.error.Arg.{Arg}
use Rattle.lexopt_words.specs.declared.error.Arg.TheVariants.{Short, Long, Value}
use Rattle.lexopt_words.specs.declared.error.Error.{Error}
use Rattle.lexopt_words.specs.declared.error.Error.TheVariants.{MissingValue, UnexpectedOption}
use Rattle.lexopt_words.specs.declared.error.Error.TheVariants.{UnexpectedArgument, UnexpectedValue}
use Rattle.lexopt_words.specs.declared.error.Error.TheVariants.{ParsingFailed, NonUnicodeValue}
use Rattle.lexopt_words.specs.declared.error.Error.TheVariants.{Custom, OutOfMemory}

-- the argument is an option
abbrev pub IsOption : Arg → Type 0
IsOption (Short c) = Unit {0}
IsOption (Long name) = Unit {0}
IsOption (Value value) = ⊥

-- the argument is the option with this character or with this name
abbrev pub IsNamed : ℕ → List ℕ → Arg → Type 0
IsNamed short long (Short c) = c ≡ short
IsNamed short long (Long name) = name.now ≡ long
IsNamed short long (Value value) = ⊥

-- the error is `UnexpectedOption` with the spelling of this option, or `OutOfMemory`
abbrev pub RefusesOption : LastOption → Error → Type 0
RefusesOption last (MissingValue spelled) = ⊥
RefusesOption last (UnexpectedOption spelled) = spelling last ≡ Some (string_bytes spelled)
RefusesOption last (UnexpectedArgument value) = ⊥
RefusesOption last (UnexpectedValue spelled value) = ⊥
RefusesOption last (ParsingFailed value error) = ⊥
RefusesOption last (NonUnicodeValue value) = ⊥
RefusesOption last (Custom error) = ⊥
RefusesOption last OutOfMemory = Unit {0}

-- `unexpected` may return this error for the argument
abbrev pub Refuses : Arg → Error → Type 0
Refuses (Short c) e = RefusesOption (short_option c) e
Refuses (Long name) e = RefusesOption (long_option name.now) e
Refuses (Value value) e = e ≡ UnexpectedArgument value
