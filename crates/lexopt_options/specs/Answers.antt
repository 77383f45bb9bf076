-- What a program has to do about its words, or about a request of a shell. The source is
-- `docs/behaviour.md`.
use Rattle.std.specs.Prelude.{◌≡◌, ◌<◌, ◌^◌, ℕ, List, [], ◌∷◌, ◌++◌, String}
use Rattle.std.specs.Prelude.{Bool, true, false, ◌==◌, if◌then◌else◌, Option, Some, None, codes}
use Rattle.std.specs.Prelude.{option_map, slice_get, string_bytes, unwrap_or}
use Rattle.std.specs.Global.{Global}
use Rattle.std.specs.List.{flat_map, list_any}
use Rattle.std.specs.Str.{IsUtf8, chars}
use Rattle.std.specs.Str.Parse.{IsNumeral, digits_value, without_leading_plus}
use Rattle.lexopt_spec.specs.UnreadLine.{dash}
use Rattle.lexopt_options_spec.specs.Asking.{AskFor}
use Rattle.lexopt_options_spec.specs.Declaration.{Asked, Declaration, brief, for_brief_help}
use Rattle.lexopt_options_spec.specs.Declaration.{for_help, for_version, full}
use Rattle.lexopt_options_spec.specs.Help.{IsHelp, line_feed}
use Rattle.lexopt_options.specs.declared.answer.Answer.{Answer}
use Rattle.lexopt_options.specs.declared.answer.Answer.TheVariants as answer
use Rattle.lexopt_options.specs.declared.complete.Completion.{Completion}
use Rattle.lexopt_options.specs.declared.complete.Joined.{Joined}
use Rattle.lexopt_options.specs.declared.complete.Role.{Role}
use Rattle.lexopt_options.specs.declared.complete.Role.TheVariants as role
use Rattle.lexopt_options.specs.declared.mistake.Mistake.TheVariants as mistake
use Rattle.lexopt_options.specs.declared.options.Options.{Options}
use Rattle.lexopt_options.specs.declared.refused.Refused.{Refused}
use Rattle.lexopt_options.specs.declared.request.Request.{Request}
use Rattle.lexopt_options.specs.declared.request.Request.TheVariants as request
use Rattle.lexopt_declaration.specs.declared.declaration.Positional.{Positional}
use Rattle.lexopt_declaration.specs.declared.declaration.Words.{Words}
use Rattle.lexopt_declaration.specs.declared.declaration.Words.TheVariants.{Files, Directories}
use Rattle.lexopt_declaration.specs.declared.declaration.Words.TheVariants.{Text, Listed}
use Rattle.lexopt_declaration.specs.declared.shell.Shell.{Shell}
use Rattle.lexopt_declaration.specs.declared.spellings.Spelling.{Spelling}
use Rattle.lexopt_declaration.specs.Lookups.{help_names}
use Rattle.lexopt_declaration.specs.Models.{spelling_view}
use Rattle.lexopt_declaration.specs.Scripts.{shell_script, variable_name}
use Rattle.lexopt_declaration.specs.Texts.{on_one_line}
use Rattle.lexopt_options.specs.Completions.{IsCompletion}
use Rattle.lexopt_options.specs.Declarations.{declaration_of, options_of, positionals_of}
use Rattle.lexopt_options.specs.Lines.{IsRefused, LineMeans}

-- ---- what a shell reads

-- the line for a value of an option, by what completes it: the names of files, those of
-- directories, or nothing
abbrev pub names_line : Words → List ℕ
names_line Files = codes "files\n"
names_line Directories = codes "directories\n"
names_line Text = []
names_line (Listed values) = []

-- the names of files complete them
abbrev pub are_files : Words → Bool
are_files Files = true
are_files words = false

-- the names of directories complete them
abbrev pub are_directories : Words → Bool
are_directories Directories = true
are_directories words = false

-- the words of the positional at this index are completed so
abbrev pub are_at : {P : Type 0} → (Words → Bool) → List (Positional P) → ℕ → Bool
are_at are positionals i = unwrap_or (option_map (λ p. are p.words) (slice_get positionals i)) false

-- the line for a word that can belong to the positionals at these indices: the names of files
-- complete it if they complete one of these; otherwise those of directories if they complete one;
-- otherwise nothing does
abbrev pub arguments_line : {P : Type 0} → List (Positional P) → List ℕ → List ℕ
arguments_line positionals arguments =
    if list_any (λ i. are_at are_files positionals i) arguments then codes "files\n" else
    (if list_any (λ i. are_at are_directories positionals i) arguments then codes "directories\n" else [])

-- the line for a word that is not an option
abbrev pub word_line : {F V P M S : Type 0} → List (Positional P) → Option (Role F V M S) → List ℕ
    → List ℕ
word_line positionals None arguments = []
word_line positionals (Some role.Argument) arguments = arguments_line positionals arguments
word_line positionals (Some (role.Value option)) arguments = names_line option.now.words

-- the line for a value that comes after `before` in its word: the names of files complete it, those
-- of directories, or nothing
abbrev pub value_line : Words → List ℕ → List ℕ
value_line Files before = codes "files\t" ++ before ++ line_feed ∷ []
value_line Directories before = codes "directories\t" ++ before ++ line_feed ∷ []
value_line Text before = []
value_line (Listed values) before = []

abbrev pub joined_line : {F V M S : Type 0} → Option (Joined F V M S) → List ℕ
joined_line None = []
joined_line (Some joined) = value_line joined.option.now.words (string_bytes joined.before)

-- the line for a spelling: the spelling, a tab, and the help text of its option
abbrev pub spelling_line : List ℕ × List ℕ → List ℕ
spelling_line p = p.0 ++ codes "\t" ++ flat_map on_one_line (chars p.1) ++ line_feed ∷ []

-- the lines for spellings, unless nothing was typed
abbrev pub spelling_lines : List ℕ → List Spelling → List ℕ
spelling_lines [] spellings = []
spelling_lines (b ∷ bs) spellings = flat_map (λ s. spelling_line (spelling_view s)) spellings

-- the line for a value in a list: after `+`, unless it begins with a dash
abbrev pub listed_line : List ℕ → List ℕ
listed_line [] = codes "+\n"
listed_line (b ∷ bs) =
    if b == dash then b ∷ bs ++ line_feed ∷ [] else codes "+" ++ b ∷ bs ++ line_feed ∷ []

-- the lines for spellings and for values in lists, and those for what else can come
abbrev pub completion_text : {F V P M S : Type 0} → List (Positional P) → List ℕ
    → Completion F V M S → List ℕ
completion_text positionals typed c = spelling_lines typed c.spellings.items
    ++ flat_map (λ s. listed_line (string_bytes s)) c.values.items
    ++ word_line positionals c.word c.arguments.items ++ joined_line c.joined

-- the text describes what can come where this was typed after these words
abbrev pub IsCompletionText : {F V P M S : Type 0} → Options F V P M S → List (List ℕ) → List ℕ
    → List ℕ → Type 0
IsCompletionText o words typed text = (completion : Completion _ _ _ _)
    × IsCompletion o words typed completion
    × (text ≡ completion_text (positionals_of o) typed completion)

-- the script of this shell for the program, with a line feed at its end
abbrev pub script_lines : {F V P M S : Type 0} → Options F V P M S → Shell → List ℕ
script_lines o shell =
    shell_script shell (declaration_of o).program (variable_name (declaration_of o).program)
    ++ line_feed ∷ []

-- ---- the help and the version

-- the text is the full or the brief help at this width, or the version and a line feed
abbrev pub IsAskedText : Declaration → Asked → ℕ → List ℕ → Type 0
IsAskedText d for_help width text = IsHelp full d width text
IsAskedText d for_brief_help width text = IsHelp brief d width text
IsAskedText d (for_version version) width text = text ≡ version ++ line_feed ∷ []

-- the words ask for this text before any mistake
abbrev pub AskForText : Declaration → List (List ℕ) → ℕ → List ℕ → Type 0
AskForText d words width text =
    (asked : Asked) × AskFor d words asked × IsAskedText d asked width text

-- ---- the width of the terminal

-- the bytes are UTF-8, and a decimal number that is above 0 and fits into 64 bits
pub record IsCount (text : List ℕ) (n : ℕ) : Type 0 where
  pub is_text : IsUtf8 text
  pub numeral : IsNumeral 10 (without_leading_plus text)
  pub value : digits_value 10 (without_leading_plus text) ≡ n
  pub fits : n < 2 ^ 64
  pub some : 0 < n

-- the width that a text denotes: its number if it is one, otherwise 80
pub record IsWidth (text : List ℕ) (width : ℕ) : Type 0 where
  pub number : (n : ℕ) → IsCount text n → width ≡ n
  pub other : ((n : ℕ) → ¬ IsCount text n) → width ≡ 80

-- ---- all

-- the answer to these words, with the help at this width
abbrev pub IsAnswer : {F V P M S : Type 0} → Options F V P M S → List (List ℕ) → ℕ → Answer F V P M S
    → Type 0
IsAnswer o words width (answer.Parsed parsed) = LineMeans o words parsed.items
IsAnswer o words width (answer.Text text) =
    AskForText (declaration_of o) words width (string_bytes text)
IsAnswer o words width (answer.Refused refused) = IsRefused o words refused

-- the refusal of a request whose variable has a value that is not known
pub record IsUnknownRequest {F V P M S : Type 0} (o : Options F V P M S)
    (refused : Refused F V P M S) : Type 0 where
  pub program : refused.program.now ≡ (declaration_of o).program
  pub help : refused.help ≡ help_names (options_of o)
  pub before : refused.before.items ≡ []
  pub name : String Global
  pub variable : string_bytes name ≡ variable_name (declaration_of o).program
  pub mistake : refused.mistake ≡ mistake.InvalidVariable name

-- the answer to this request, with the help at this width
abbrev pub IsRequestAnswer : {F V P M S : Type 0} → Options F V P M S → Request → ℕ
    → Answer F V P M S → Type 0
IsRequestAnswer o (request.Line words) width found = IsAnswer o words.items width found
IsRequestAnswer o (request.Completion words typed) width (answer.Text text) =
    IsCompletionText o words.items typed (string_bytes text)
IsRequestAnswer o (request.Script shell) width (answer.Text text) =
    string_bytes text ≡ script_lines o shell
IsRequestAnswer o request.Unknown width (answer.Refused refused) = IsUnknownRequest o refused
IsRequestAnswer o request width found = ⊥
