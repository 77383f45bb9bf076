-- The messages of the errors of `spell`.
use Rattle.std.specs.Prelude.{ℕ, List, ◌++◌, codes}
use Rattle.std.specs.Fmt.{decimal}
use Rattle.lexopt_spec.specs.Text.{no_memory_message}
use Rattle.lexopt_spell.specs.declared.spell.Reason.{Reason}
use Rattle.lexopt_spell.specs.declared.spell.Reason.TheVariants.{EqualsInName, UnexpectedValue}
use Rattle.lexopt_spell.specs.declared.spell.Reason.TheVariants.{MissingValue, WantsMany, NotMany}
use Rattle.lexopt_spell.specs.declared.spell.Reason.TheVariants.{EmptyValue, OptionAmongValues}
use Rattle.lexopt_spell.specs.declared.spell.Reason.TheVariants.{EmptyName, PastSeparator}
use Rattle.lexopt_spell.specs.declared.spell.Reason.TheVariants.{DashWithoutFlag}
use Rattle.lexopt_spell.specs.declared.spell.SpellError.{SpellError}
use Rattle.lexopt_spell.specs.declared.spell.SpellError.TheVariants.{AtFault, OutOfMemory}

abbrev pub reason_message : Reason → List ℕ
reason_message EqualsInName = codes "a long option cannot have `=` in its name"
reason_message UnexpectedValue = codes "by the table the option has no value, and is given one"
reason_message MissingValue = codes "by the table the option wants a value, and is given none"
reason_message WantsMany = codes "by the table the option has several values: give them as a list"
reason_message NotMany = codes "by the table the option does not have several values"
reason_message EmptyValue =
    codes "an empty value cannot come right after a character where `short_equals` is off"
reason_message OptionAmongValues = codes "one of several values would be read as an option"
reason_message EmptyName = codes "a long option with an empty name needs one value after `=`"
reason_message PastSeparator =
    codes "an option cannot come after a positional that needs `--` before it"
reason_message DashWithoutFlag =
    codes "the option `-` can only come right after a flag of one character"

abbrev pub message : SpellError → List ℕ
message (AtFault index reason) =
    codes "items[" ++ (decimal index ++ (codes "]: " ++ reason_message reason))
message OutOfMemory = no_memory_message
