-- The messages about what cannot be declared. The source is `docs/formats.md`.
use Rattle.std.specs.Prelude.{ℕ, List, ◌++◌, codes}
use Rattle.lexopt_options_spec.specs.Help.{escaped_text}
use Rattle.lexopt_declaration.specs.Texts.{names_text}
use Rattle.lexopt_runtime_options.specs.declared.faults.DeclarationError.{DeclarationError}
use Rattle.lexopt_runtime_options.specs.declared.faults.DeclarationError.TheVariants as error
use Rattle.lexopt_runtime_options.specs.declared.faults.Reason.{Reason}
use Rattle.lexopt_runtime_options.specs.declared.faults.Reason.TheVariants.{DashName, EmptyName}
use Rattle.lexopt_runtime_options.specs.declared.faults.Reason.TheVariants.{EqualsInName}
use Rattle.lexopt_runtime_options.specs.declared.faults.Reason.TheVariants.{ReplacementInName}
use Rattle.lexopt_runtime_options.specs.declared.faults.Reason.TheVariants.{BlankOrControlInName}
use Rattle.lexopt_runtime_options.specs.declared.faults.Reason.TheVariants.{BadPlaceholder}
use Rattle.lexopt_runtime_options.specs.declared.faults.Reason.TheVariants.{BadList, BadDefault, BadLabel}
use Rattle.lexopt_runtime_options.specs.declared.faults.Reason.TheVariants.{BadExclusive, SameName}

-- why an option cannot be declared
abbrev pub reason_text : Reason → List ℕ
reason_text DashName = codes "its character is '-'"
reason_text EmptyName = codes "its name is empty"
reason_text EqualsInName = codes "its name has '=' in it"
reason_text ReplacementInName = codes "its name has U+FFFD in it"
reason_text BlankOrControlInName = codes "its name has a blank or a control character in it"
reason_text BadPlaceholder = codes "its placeholder is empty or begins with '-' or '='"
reason_text BadList =
    codes "the list of its values is empty, or one of them is empty, begins with '-' or '=', "
    ++ codes "or has a blank or a control character in it"
reason_text BadDefault = codes "it has a default, but is required, does not always have one value, or "
    ++ codes "does not accept it"
reason_text BadLabel =
    codes "its label shows a flag or a negation that is not declared before it, or whose own "
    ++ codes "label shows another, or that does not fit its names"
reason_text BadExclusive = codes "it excludes other options, but is required"
reason_text SameName = codes "an option before it has one of its names"

-- which option or positional cannot be declared, and why
abbrev pub declaration_error_text : DeclarationError → List ℕ
declaration_error_text (error.Option option reason) =
    codes "option '" ++ (names_text option ++ (codes "': " ++ reason_text reason))
declaration_error_text (error.Positional placeholder) = codes "positional argument "
    ++ (escaped_text placeholder.now ++ codes ": one before it may occur more than once too")
declaration_error_text (error.BadList placeholder) = codes "positional argument "
    ++ (escaped_text placeholder.now ++ (codes ": " ++ reason_text BadList))
