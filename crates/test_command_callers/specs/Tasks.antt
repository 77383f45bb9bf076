-- What lines of three commands mean, what completes a word, and what the help shows, by plain data.
use Rattle.std.specs.Prelude.{◌≡◌, ◌⊎◌, ◌++◌, ℕ, if◌then◌else◌, nat_eq, List, [], ◌∷◌}
use Rattle.std.specs.Prelude.{Option, Vec, codes, false, map, string_bytes}
use Rattle.std.specs.Global.{Global}
use Rattle.std.specs.List.{AllZip, concat, flat_map, starts_with}
use Rattle.std.specs.declared.convert.Infallible.{Infallible}
use Rattle.lexopt_options_spec.specs.Declaration.{Count, Declaration, Positional, any_number, files}
use Rattle.lexopt_options_spec.specs.Declaration.{full, once}
use Rattle.lexopt_options_spec.specs.Help.{IsEntry, IsOption, IsParagraph, IsUsage}
use Rattle.lexopt_options_spec.specs.Help.{entered, options_part, set_apart}
use Rattle.lexopt_options_spec.specs.Rest.{IsSplit, surplus}
use Rattle.lexopt_options_spec.specs.Legal as legal
use Rattle.lexopt_options_spec.specs.Nearest.{IsNearest, hinted_names}
use Rattle.lexopt_declaration.specs.declared.declaration.Declared.{Declared}
use Rattle.lexopt_options.specs.declared.mistake.Mistake.{Mistake}
use Rattle.lexopt_options.specs.declared.mistake.Mistake.TheVariants as mistake
use Rattle.lexopt_options.specs.declared.parsed.Asked.TheVariants.{Help}
use Rattle.lexopt_options.specs.declared.options.Options.{Options}
use Rattle.lexopt_options.specs.declared.request.Request.TheVariants as request
use Rattle.lexopt_options.specs.Answers.{IsCompletionText}
use Rattle.lexopt_options.specs.Declarations.{declaration_of}
use Rattle.lexopt_options.specs.Keys.{AreReadAs}
use Rattle.lexopt_commands.specs.declared.answer.Step.{Step}
use Rattle.lexopt_commands.specs.declared.answer.Step.TheVariants as step
use Rattle.lexopt_commands.specs.declared.read.CommandLine.{CommandLine}
use Rattle.lexopt_commands.specs.declared.read.CommandLine.TheVariants as line
use Rattle.test_command_callers.specs.declared.commands.Task.{Task}

-- the names of the commands, and the line about each
abbrev pub task_helps : List (List ℕ × List ℕ)
task_helps = (codes "add", codes "add files")
    ∷ (codes "remote", codes "add or remove a remote")
    ∷ (codes "help", codes "print the help of a command") ∷ []

-- the line is this command, by its name and key, with these words, after these general options
abbrev pub IsTask : {F V M S : Type 0} → List (Declared F V M S) → List legal.Parsed → List ℕ → Task
    → List (List ℕ) → CommandLine Task F V M S → Type 0
IsTask options l name task words (line.Command parsed own key rest) =
    AreReadAs options l parsed.items × (own.now ≡ name) × (key ≡ task) × (rest.items ≡ words)
IsTask options l name task words line = ⊥

-- it asks for the help
abbrev pub IsAsking : {F V M S : Type 0} → CommandLine Task F V M S → Type 0
IsAsking (line.Asked asked) = asked ≡ Help
IsAsking line = ⊥

abbrev pub IsMissingName : Mistake → Type 0
IsMissingName (mistake.MissingCommand names) =
    map (λ name. name.now) names.items ≡ codes "add" ∷ codes "remote" ∷ codes "help" ∷ []
IsMissingName m = ⊥

-- it has no command
abbrev pub IsMissing : {F V M S : Type 0} → List (Declared F V M S) → List legal.Parsed
    → CommandLine Task F V M S → Type 0
IsMissing options l (line.Refused refused) = AreReadAs options l refused.before.items
    × IsMissingName refused.mistake
IsMissing options l line = ⊥

-- the hints for this text
abbrev pub AreHintsFor : List ℕ → List (List ℕ) → Type 0
AreHintsFor typed hints = (found : Option ℕ) × IsNearest (map (λ p. p.0) task_helps) typed found
    × (hints ≡ hinted_names (map (λ p. p.0) task_helps) typed found)

abbrev pub IsUnknownName : List ℕ → List ℕ → List (List ℕ) → Mistake → Type 0
IsUnknownName name typed words (mistake.UnknownCommand word rest hints) = (word ≡ name)
    × AreHintsFor typed (map (λ hint. hint.now) hints.items) × (rest.items ≡ words)
IsUnknownName name typed words m = ⊥

-- no command has this name, its hints are those for this text, and these are the words for it
abbrev pub IsUnknown : {F V M S : Type 0} → List (Declared F V M S) → List legal.Parsed → List ℕ
    → List ℕ → List (List ℕ) → CommandLine Task F V M S → Type 0
IsUnknown options l name typed words (line.Refused refused) =
    AreReadAs options l refused.before.items × IsUnknownName name typed words refused.mistake
IsUnknown options l name typed words line = ⊥

-- ---- completion of a typed word

-- this command, by its key and path, is asked to complete this typed word after these words
abbrev pub IsTaskAsked : {F V M S : Type 0} → Task → List ℕ → List (List ℕ) → List ℕ
    → Step Task F V M S → Type 0
IsTaskAsked task path rest typed (step.Command key found call) = (key ≡ task)
    × (string_bytes found ≡ path) × (call.general.items ≡ []) × (before : Vec (List ℕ) Global)
    × (before.items ≡ rest) × (call.request ≡ request.Completion before typed)
IsTaskAsked task path rest typed found = ⊥

-- this text is written
abbrev pub IsWritten : {F V M S : Type 0} → List ℕ → Step Task F V M S → Type 0
IsWritten text (step.Text own) = string_bytes own ≡ text
IsWritten text found = ⊥

-- the line of a name, if the name begins with what was typed
abbrev pub begun : List ℕ → List ℕ × List ℕ → List ℕ
begun typed p = if starts_with nat_eq p.0 typed then p.1 else []

-- the names of the commands, and the line of each
abbrev pub task_lines : List (List ℕ × List ℕ)
task_lines = (codes "add", codes "+add\tadd files\n")
    ∷ (codes "remote", codes "+remote\tadd or remove a remote\n")
    ∷ (codes "help", codes "+help\tprint the help of a command\n") ∷ []

-- the words are general options, and this name after them would be a positional
abbrev pub CanCome : Declaration → List (List ℕ) → List ℕ → Type 0
CanCome d words name = IsSplit surplus d (words ++ name ∷ []) words name []

abbrev pub IsLineOf : Declaration → List (List ℕ) → List ℕ → List ℕ × List ℕ → List ℕ → Type 0
IsLineOf d words typed p line = (CanCome d words p.0 × (line ≡ begun typed p))
    ⊎ ((¬ CanCome d words p.0) × (line ≡ []))

-- the lines of the names that can come are written, and then the completion by the general options
abbrev pub AreOffered : {F V M S : Type 0} → Options F V Infallible M S → List (List ℕ) → List ℕ
    → Step Task F V M S → Type 0
AreOffered o words typed (step.Text text) = (lines : List (List ℕ))
    × AllZip (IsLineOf (declaration_of o) words typed) task_lines lines × (own : List ℕ)
    × IsCompletionText o words typed own × (string_bytes text ≡ concat lines ++ own)
AreOffered o words typed found = ⊥

-- ---- the help

-- a positional that the usage line shows
abbrev pub shown : List ℕ → Count → Positional
shown placeholder count = record {
  placeholder = placeholder;
  count = count;
  help = [];
  words = files;
  hides_list = false;
}

-- the parts of the help, with an entry for each command before those of the options
pub record IsTaskHelp (d : Declaration) (width : ℕ) (text : List ℕ) : Type 0 where
  pub usage : List ℕ
  pub about : List ℕ
  pub commands : List (List ℕ)
  pub options : List (List ℕ)
  pub epilogue : List (List ℕ)
  pub usage_first : IsUsage width (record d {
    positionals = shown (codes "COMMAND") once ∷ shown (codes "ARGUMENT") any_number ∷ [];
  }) usage
  pub about_next : IsParagraph width d.about about
  pub each_command : AllZip (λ p. IsEntry width p.0 p.1) task_helps commands
  pub each_option : AllZip (IsOption full width) (entered d.options) options
  pub each_paragraph : AllZip (IsParagraph width) d.epilogue epilogue
  pub written : text ≡ usage ++ about ++ set_apart (concat commands)
      ++ options_part (concat options) ++ flat_map set_apart epilogue
