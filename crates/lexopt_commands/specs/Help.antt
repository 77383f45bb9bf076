-- The help of a program with commands: that of its general options, with an entry for each command.
-- The source is `docs/behaviour.md`.
use Rattle.std.specs.Prelude.{◌≡◌, ℕ, false, List, [], ◌∷◌, ◌++◌, codes}
use Rattle.std.specs.List.{AllZip, concat, flat_map}
use Rattle.lexopt_options_spec.specs.Declaration.{Count, Declaration, Detail, Positional, any_number}
use Rattle.lexopt_options_spec.specs.Declaration.{files, once}
use Rattle.lexopt_options_spec.specs.Help.{IsEntry, IsOption, IsParagraph, IsUsage, options_part}
use Rattle.lexopt_options_spec.specs.Help.{entered, set_apart, shown_epilogue}
use Rattle.lexopt_commands.specs.declared.command.Command.{Command}

-- a positional that only the usage line shows
abbrev pub usage_positional : List ℕ → Count → Positional
usage_positional placeholder count = record {
  placeholder = placeholder;
  count = count;
  help = [];
  words = files;
  hides_list = false;
}

-- the general options, with the name of a command and its arguments as positionals
abbrev pub with_command : Declaration → Declaration
with_command d = record d {
  positionals = usage_positional (codes "COMMAND") once
      ∷ usage_positional (codes "ARGUMENT") any_number ∷ [];
}

-- the text is the help: the usage; what the program does; an entry for each command, and for
-- each option that has one; and the paragraphs of the epilogue that are shown
pub record IsHelp {C : Type 0} (detail : Detail) (d : Declaration) (list : List (Command C))
    (width : ℕ) (text : List ℕ) : Type 0 where
  pub usage : List ℕ
  pub about : List ℕ
  pub commands : List (List ℕ)
  pub options : List (List ℕ)
  pub epilogue : List (List ℕ)
  pub usage_first : IsUsage width (with_command d) usage
  pub about_next : IsParagraph width d.about about
  pub each_command : AllZip (λ c. IsEntry width c.name.now c.help.now) list commands
  pub each_option : AllZip (IsOption detail width) (entered d.options) options
  pub each_paragraph : AllZip (IsParagraph width) (shown_epilogue detail d.epilogue) epilogue
  pub written : text ≡ usage ++ about ++ set_apart (concat commands)
      ++ options_part (concat options) ++ flat_map set_apart epilogue
