-- The tool that `declared.rt` declares, by the grammar and by plain data.
use Rattle.std.specs.Prelude.{◌≡◌, ℕ, List, [], ◌∷◌, Option, Some, None, codes, Bool, true, false}
use Rattle.std.specs.Prelude.{◌≢◌, ◌⊎◌, ◌++◌, ◌-◌, ◌==◌, ◌||◌, if◌then◌else◌, Contains, String}
use Rattle.std.specs.Prelude.{encode_utf8, length, nat_lt}
use Rattle.std.specs.Global.{Global}
use Rattle.std.specs.Str.{chars}
use Rattle.std.specs.Prelude.{map, slice_get, string_bytes}
use Rattle.std.specs.List.{AllZip, flat_map, list_any}
use Rattle.lexopt_declaration.specs.declared.declaration.Names.{Names}
use Rattle.lexopt_declaration.specs.declared.declaration.Names.TheVariants as names
use Rattle.lexopt_declaration.specs.Scripts.{shell_script}
use Rattle.lexopt_declaration.specs.declared.shell.Shell.{Shell}
use Rattle.lexopt_declaration.specs.declared.shell.Shell.TheVariants.{Bash, Zsh, Fish}
use Rattle.lexopt_declaration.specs.declared.spellings.Spelling.{Spelling}
use Rattle.lexopt_spec.specs.UnreadLine.{Tail}
use Rattle.lexopt_line_spec.specs.Table.{Kind, flag, one, optional, several, short, long}
use Rattle.lexopt_options_spec.specs.Declaration.{Declaration, Declared, once}
use Rattle.lexopt_options_spec.specs.Declaration.{at_most_once, any_number, brief, for_brief_help}
use Rattle.lexopt_options_spec.specs.Declaration.{for_help, for_version, full}
use Rattle.lexopt_options_spec.specs.Declaration as spec
use Rattle.lexopt_options_spec.specs.Declaration.{Positional, directories, files, listed}
use Rattle.lexopt_options_spec.specs.Asking.{AskFor, first_asked, parsed_before}
use Rattle.lexopt_options_spec.specs.Completion as completion
use Rattle.lexopt_options_spec.specs.Completion.{AreOwnersIn, Completes, HasRole, IsJoined}
use Rattle.lexopt_options_spec.specs.Completion.{Spelled, offered, offered_values}
use Rattle.lexopt_options_spec.specs.Help.{IsHelp, Line as HelpLine, Wraps, below}
use Rattle.lexopt_options_spec.specs.Legal as legal
use Rattle.lexopt_options_spec.specs.Legal.{Means}
use Rattle.lexopt_options_spec.specs.Nearest.{IsHint}
use Rattle.lexopt_options_spec.specs.Places.{ArePlaces}
use Rattle.lexopt_options_spec.specs.Stops as stops
use Rattle.lexopt_options_spec.specs.Stops.{StopsAt, placeholder_at, required_placeholder}
use Rattle.lexopt_options.specs.declared.answer.Answer.{Answer}
use Rattle.lexopt_options.specs.declared.answer.Answer.TheVariants as answer
use Rattle.lexopt_options.specs.declared.complete.Joined.{Joined}
use Rattle.lexopt_options.specs.declared.complete.Role.{Role}
use Rattle.lexopt_options.specs.declared.complete.Role.TheVariants as role
use Rattle.lexopt_options.specs.declared.mistake.Mistake.{Mistake}
use Rattle.lexopt_options.specs.declared.mistake.Mistake.TheVariants as mistake
use Rattle.lexopt_options.specs.declared.mistake.OptionName.TheVariants as name
use Rattle.lexopt_options.specs.declared.refused.Line.{Line}
use Rattle.lexopt_options.specs.declared.refused.Line.TheVariants as line
use Rattle.lexopt_options.specs.declared.refused.Refused.{Refused}
use Rattle.lexopt_options.specs.declared.request.Request.{Request}
use Rattle.lexopt_options.specs.declared.request.Request.TheVariants as request
use Rattle.lexopt_options.specs.declared.parsed.Asked.{Asked}
use Rattle.lexopt_options.specs.declared.parsed.Asked.TheVariants as asked
use Rattle.lexopt_options.specs.declared.parsed.Parsed.{Parsed}
use Rattle.lexopt_options.specs.declared.parsed.Parsed.TheVariants as parsed
use Rattle.test_option_callers.specs.declared.declared.Flag.{Flag}
use Rattle.test_option_callers.specs.declared.declared.Value.{Value}
use Rattle.test_option_callers.specs.declared.declared.Maybe.{Maybe}
use Rattle.test_option_callers.specs.declared.declared.Values.{Values}
use Rattle.test_option_callers.specs.declared.declared.Word.{Word}
use Rattle.test_option_callers.specs.declared.declared.Word.TheVariants.{From, To, More}

-- an option that is no request, neither hidden nor required, without a heading, and whose values
-- are files
abbrev pub plain : Option ℕ → Option (List ℕ) → Kind → List ℕ → List ℕ → Declared
plain c name kind placeholder help = record {
  short_name = c;
  long_name = name;
  kind = kind;
  placeholder = placeholder;
  help = help;
  details = None;
  asks = None;
  heading = None;
  hidden = false;
  required = false;
  default = None;
  exclusive = None;
  words = files;
  hides_list = false;
  aliases = [];
  beside = spec.nothing;
}

abbrev pub tool_options : List Declared
tool_options = plain (Some 118) (Some (codes "verbose")) flag [] (codes "tell more")
    ∷ record (plain (Some 102) None flag [] (codes "by force")) {
      heading = Some (codes "Danger");
      hidden = true;
    }
    ∷ plain (Some 111) (Some (codes "output")) one (codes "FILE") (codes "write there")
    ∷ record (plain None (Some (codes "color")) optional (codes "WHEN") (codes "paint")) {
      words = listed (codes "always" ∷ codes "never" ∷ []);
      hides_list = true;
      aliases = long (codes "colour") ∷ [];
    }
    ∷ plain (Some 120) None several (codes "GLOB") (codes "leave out")
    ∷ record (plain (Some 104) (Some (codes "help")) flag [] (codes "help")) {
      asks = Some for_help;
    }
    ∷ record (plain None (Some (codes "version")) flag [] (codes "version")) {
      asks = Some (for_version (codes "tool 1"));
    }
    ∷ record (plain (Some 117) (Some (codes "user")) one (codes "NAME") (codes "for whom")) {
      heading = Some (codes "Owners");
      required = true;
    }
    ∷ []

abbrev pub tool_positionals : List Positional
tool_positionals = record {
  placeholder = codes "FROM";
  count = once;
  help = codes "one";
  words = directories;
  hides_list = false;
}
    ∷ record {
      placeholder = codes "TO";
      count = at_most_once;
      help = codes "two";
      words = listed (codes "here" ∷ codes "there" ∷ []);
      hides_list = true;
    }
    ∷ record {
      placeholder = codes "MORE";
      count = any_number;
      help = [];
      words = files;
      hides_list = false;
    }
    ∷ []

abbrev pub tool : Declaration
tool = record {
  program = codes "tool";
  about = codes "Works.";
  usage = [];
  options = tool_options;
  positionals = tool_positionals;
  epilogue = codes "End." ∷ [];
  short_equals = true;
}

-- ---- what a line means

-- An option with a key is the option of some index, with the same values; a positional is its word.
-- `Keyed` states which key belongs to an index, and `AreKeyed` the keys of the positionals.
abbrev pub IsByKey : legal.Parsed → Parsed Flag Value Word Maybe Values → Type 0
IsByKey s (parsed.Flag key) = (i : ℕ) × (s ≡ legal.option i None)
IsByKey s (parsed.Value key word) = (i : ℕ) × (s ≡ legal.option i (Some word))
IsByKey s (parsed.Maybe key value) = (i : ℕ) × (s ≡ legal.option i value)
IsByKey s (parsed.Values key values) = (i : ℕ) × (s ≡ legal.several i values.items)
IsByKey s (parsed.Positional key word) = s ≡ legal.positional word

abbrev pub AreTold : List legal.Parsed → List (Parsed Flag Value Word Maybe Values) → Type 0
AreTold l own = AllZip IsByKey l own

-- the key of each positional, by its index
abbrev pub word_keys : List Word
word_keys = From ∷ To ∷ More ∷ []

-- the keys of the positionals that were read, in order
abbrev pub read_keys : List (Parsed Flag Value Word Maybe Values) → List Word
read_keys [] = []
read_keys (parsed.Flag key ∷ own) = read_keys own
read_keys (parsed.Value key word ∷ own) = read_keys own
read_keys (parsed.Maybe key value ∷ own) = read_keys own
read_keys (parsed.Values key values ∷ own) = read_keys own
read_keys (parsed.Positional key word ∷ own) = key ∷ read_keys own

-- each positional has the key of the positional of the tool to which its word belongs
abbrev pub AreKeyed : List (Parsed Flag Value Word Maybe Values) → Type 0
AreKeyed own = (places : List ℕ) × ArePlaces tool.positionals (length (read_keys own)) places
    × AllZip (λ i key. slice_get word_keys i ≡ Some key) places (read_keys own)

-- the words legally spell a list without a request, and this is the list by the keys
abbrev pub ToolMeans : List (List ℕ) → List (Parsed Flag Value Word Maybe Values) → Type 0
ToolMeans words own = (l : List legal.Parsed) × Means tool words l
    × (first_asked tool_options l ≡ None) × AreTold l own × AreKeyed own

-- the words make this request before any mistake
abbrev pub ToolAsked : List (List ℕ) → Asked → Type 0
ToolAsked words asked.Help = AskFor tool words for_help
ToolAsked words asked.BriefHelp = AskFor tool words for_brief_help
ToolAsked words (asked.Version text) = AskFor tool words (for_version text.now)

-- the reading of the words stops at this mistake; before it is no request, and this is the list
abbrev pub Stopped : List (List ℕ) → List (Parsed Flag Value Word Maybe Values) → stops.Mistake
    → Type 0
Stopped words before why = (read : List legal.Parsed) × StopsAt tool words read why
    × (first_asked tool_options (parsed_before why read) ≡ None)
    × AreTold (parsed_before why read) before × AreKeyed before

-- these are the names of the option
abbrev pub HasNames : Declared → Names → Type 0
HasNames o (names.Short c) = (o.short_name ≡ Some c) × (o.long_name ≡ None)
HasNames o (names.Long own) = (o.short_name ≡ None) × (o.long_name ≡ Some own.now)
HasNames o (names.Both c own) = (o.short_name ≡ Some c) × (o.long_name ≡ Some own.now)

-- the reading stops at this mistake, if S holds of the mistakes at which it stops
abbrev pub StoppedBy : (stops.Mistake → Type 0) → Mistake → Type 0
StoppedBy S (mistake.UnknownOption (name.Short c) hints) = (left : Tail)
    × S (stops.unknown_option (short c) left)
    × IsHint tool_options (short c) left (map (λ hint. hint.now) hints.items)
StoppedBy S (mistake.UnknownOption (name.Long own) hints) = (left : Tail)
    × S (stops.unknown_option (long (string_bytes own)) left)
    × IsHint tool_options (long (string_bytes own)) left (map (λ hint. hint.now) hints.items)
StoppedBy S (mistake.UnexpectedValue option value) =
    S (stops.unexpected_value (string_bytes option) value)
StoppedBy S (mistake.MissingValue option placeholder) = (index : ℕ)
    × S (stops.missing_value index (string_bytes option))
    × (placeholder.now ≡ placeholder_at tool_options index)
StoppedBy S (mistake.InvalidValue own value values) = (index : ℕ)
    × S (stops.invalid_value index value)
    × ((o : Declared) × (slice_get tool_options index ≡ Some o) × HasNames o own)
    × ((o : Declared) × (slice_get tool_options index ≡ Some o)
    × (o.words ≡ listed (map (λ v. v.now) values.now)))
StoppedBy S (mistake.UnexpectedArgument word) =
    S (stops.unexpected_argument word)
StoppedBy S (mistake.InvalidArgument placeholder word values) = (index : ℕ)
    × S (stops.invalid_argument index word)
    × (p : Positional) × (slice_get tool_positionals index ≡ Some p)
    × (p.placeholder ≡ placeholder.now) × (p.words ≡ listed (map (λ v. v.now) values.now))
StoppedBy S (mistake.MissingArgument placeholder) = (count : ℕ)
    × S (stops.missing_argument count)
    × (placeholder.now ≡ required_placeholder tool.positionals count)
StoppedBy S (mistake.MissingOption own) = (index : ℕ)
    × S (stops.missing_option index)
    × (o : Declared) × (slice_get tool_options index ≡ Some o) × HasNames o own
StoppedBy S (mistake.Exclusive own others) = (index : ℕ) × (other : ℕ)
    × S (stops.exclusive_options index other)
    × ((o : Declared) × (slice_get tool_options index ≡ Some o) × HasNames o own)
    × ((o : Declared) × (slice_get tool_options other ≡ Some o) × HasNames o others)
StoppedBy S (mistake.MissingCommand names) = ⊥
StoppedBy S (mistake.UnknownCommand word rest hints) = ⊥
StoppedBy S (mistake.InvalidVariable own) = ⊥

abbrev pub ToolRefused : List (List ℕ) → Refused Flag Value Word Maybe Values → Type 0
ToolRefused words r = (r.program.now ≡ codes "tool")
    × StoppedBy (Stopped words r.before.items) r.mistake

abbrev pub ToolLine : List (List ℕ) → Line Flag Value Word Maybe Values → Type 0
ToolLine words (line.Parsed own) = ToolMeans words own.items
ToolLine words (line.Asked asked) = ToolAsked words asked
ToolLine words (line.Refused refused) = ToolRefused words refused

-- the line is this list by the keys, or the first request of the list
abbrev pub LineTells : List legal.Parsed → Line Flag Value Word Maybe Values → Type 0
LineTells l (line.Parsed own) = (first_asked tool_options l ≡ None) × AreTold l own.items
    × AreKeyed own.items
LineTells l (line.Asked asked.Help) = first_asked tool_options l ≡ Some for_help
LineTells l (line.Asked asked.BriefHelp) = first_asked tool_options l ≡ Some for_brief_help
LineTells l (line.Asked (asked.Version text)) =
    first_asked tool_options l ≡ Some (for_version text.now)
LineTells l (line.Refused refused) = ⊥

-- ---- a line with a rest

-- the line tells that it is this list, and this is its rest; or it tells what the list asks for
abbrev pub RestTells : List legal.Parsed → List (List ℕ) → List (List ℕ)
    → Line Flag Value Word Maybe Values → Type 0
RestTells l rest others (line.Parsed own) = LineTells l (line.Parsed own) × (others ≡ rest)
RestTells l rest others own = LineTells l own

-- ---- completion of a typed word

-- a spelling with this help text, which is shown, and one that is offered where it is typed whole
abbrev pub shown : List ℕ → List ℕ → Spelled
shown text help = record { text = text; help = help; shown = true }

abbrev pub unshown : List ℕ → List ℕ → Spelled
unshown text help = record { text = text; help = help; shown = false }

abbrev pub tool_spellings : List Spelled
tool_spellings = shown (codes "-v") (codes "tell more") ∷ shown (codes "--verbose") (codes "tell more")
    ∷ unshown (codes "-f") (codes "by force")
    ∷ shown (codes "-o") (codes "write there") ∷ shown (codes "--output") (codes "write there")
    ∷ shown (codes "--color") (codes "paint") ∷ unshown (codes "--colour") (codes "paint")
    ∷ shown (codes "-x") (codes "leave out")
    ∷ shown (codes "-h") (codes "help") ∷ shown (codes "--help") (codes "help")
    ∷ shown (codes "--version") (codes "version") ∷ shown (codes "-u") (codes "for whom")
    ∷ shown (codes "--user") (codes "for whom") ∷ []

-- the spellings that are offered for what was typed, in the order of the tool, or none
abbrev pub AreInOrder : List ℕ → List (List ℕ × List ℕ) → Type 0
AreInOrder typed those = (those ≡ offered typed tool_spellings) ⊎ (those ≡ [])

-- the spellings without the help texts
abbrev pub words_of : List (List ℕ × List ℕ) → List (List ℕ)
words_of offered = map (λ p. p.0) offered

abbrev pub both_of : Spelling → List ℕ × List ℕ
both_of spelling = (string_bytes spelling.text, spelling.help.now)

-- both are a value after the same part of the typed word, or neither is there
abbrev pub IsSameJoined : Option completion.Joined → Option (Joined Flag Value Maybe Values)
    → Type 0
IsSameJoined None None = Unit {0}
IsSameJoined (Some joined) (Some found) = joined.before ≡ string_bytes found.before
IsSameJoined joined found = ⊥

-- both are a value, both a positional, or neither is there
abbrev pub IsSameRole : Option completion.Role → Option (Role Flag Value Maybe Values) → Type 0
IsSameRole None None = Unit {0}
IsSameRole (Some (completion.value i)) (Some (role.Value option)) = Unit {0}
IsSameRole (Some (completion.argument before)) (Some role.Argument) = Unit {0}
IsSameRole r found = ⊥

-- ---- the usage line

abbrev pub tool_usage : List (List ℕ)
tool_usage = codes "tool" ∷ codes "[OPTION]..." ∷ codes "--user=NAME" ∷ codes "FROM" ∷ codes "[TO]"
    ∷ codes "[MORE]..." ∷ []

-- the text has these words on lines of this width
abbrev pub IsToolUsage : ℕ → List ℕ → Type 0
IsToolUsage width text = (lines : List HelpLine) × Wraps (width - 7) tool_usage lines
    × (text ≡ codes "Usage: " ++ below 7 lines ++ 10 ∷ [])

-- ---- what the tool does

-- the line that tells a shell how to complete the values of an option
abbrev pub line_of : spec.Words → List ℕ
line_of spec.files = codes "files\n"
line_of spec.directories = codes "directories\n"
line_of spec.text = []
line_of (spec.listed values) = []

-- the same for a value that comes after this part of the word
abbrev pub line_after : List ℕ → spec.Words → List ℕ
line_after before spec.files = codes "files" ++ 9 ∷ (before ++ 10 ∷ [])
line_after before spec.directories = codes "directories" ++ 9 ∷ (before ++ 10 ∷ [])
line_after before spec.text = []
line_after before (spec.listed values) = []

-- the names of files complete these words
abbrev pub are_files : spec.Words → Bool
are_files spec.files = true
are_files spec.directories = false
are_files spec.text = false
are_files (spec.listed values) = false

-- the names of directories complete these words
abbrev pub are_directories : spec.Words → Bool
are_directories spec.files = false
are_directories spec.directories = true
are_directories spec.text = false
are_directories (spec.listed values) = false

abbrev pub line_at : Option Declared → List ℕ
line_at None = []
line_at (Some o) = line_of o.words

abbrev pub line_at_after : List ℕ → Option Declared → List ℕ
line_at_after before None = []
line_at_after before (Some o) = line_after before o.words

-- the names of files complete the words of a positional
abbrev pub by_files : Option Positional → Bool
by_files None = false
by_files (Some p) = are_files p.words

-- the names of directories complete the words of a positional
abbrev pub by_directories : Option Positional → Bool
by_directories None = false
by_directories (Some p) = are_directories p.words

-- the line for a word that can belong to the positionals of these indices: `files` if one of them
-- has that line, otherwise `directories` if one of them has that line, and otherwise none
abbrev pub owners_line : List ℕ → List ℕ
owners_line owners =
    if list_any (λ i. by_files (slice_get tool_positionals i)) owners then codes "files\n" else
    (if list_any (λ i. by_directories (slice_get tool_positionals i)) owners
    then codes "directories\n" else [])

-- the line for a word that is not an option, and belongs to one of these if it is a positional
abbrev pub role_line : Option completion.Role → List ℕ → List ℕ
role_line None owners = []
role_line (Some (completion.argument before)) owners = owners_line owners
role_line (Some (completion.value i)) owners = line_at (slice_get tool_options i)

-- the line for a value that is in the word of its option
abbrev pub joined_line : Option completion.Joined → List ℕ
joined_line None = []
joined_line (Some joined) = line_at_after joined.before (slice_get tool_options joined.index)

abbrev pub blank_or_same : ℕ → List ℕ
blank_or_same c = if nat_lt c 32 || c == 127 then 32 ∷ [] else encode_utf8 c

-- the line of a spelling: the spelling, a tab, and the help text, with a space for each control
-- character
abbrev pub spelled_line : List ℕ × List ℕ → List ℕ
spelled_line p = p.0 ++ codes "\t" ++ flat_map blank_or_same (chars p.1) ++ 10 ∷ []

-- the lines of all spellings, or none if the typed word is empty
abbrev pub spelled_lines : List ℕ → List (List ℕ × List ℕ) → List ℕ
spelled_lines [] offered = []
spelled_lines (b ∷ bs) offered = flat_map spelled_line offered

-- the line of a value in a list
abbrev pub plus_line : List ℕ → List ℕ
plus_line [] = 43 ∷ 10 ∷ []
plus_line (b ∷ bs) = if b == 45 then b ∷ bs ++ 10 ∷ [] else 43 ∷ b ∷ bs ++ 10 ∷ []

-- The text that completes this typed word after these words. It has a line for each spelling, and a
-- line for each value in a list. If the word can be something else than an option, the next line is
-- that of the option whose value it is, or of the positionals to which it can belong. If the word
-- has the value of its option in it, the last line is that of this value.
pub record IsOffer (before : List (List ℕ)) (typed text : List ℕ) : Type 0 where
  pub offered : List (List ℕ × List ℕ)
  pub sound : (s : List ℕ) → Contains (words_of offered) s → Completes tool before typed s
  pub complete : (s : List ℕ) → Completes tool before typed s → Contains (words_of offered) s
  pub in_order : AreInOrder typed offered
  pub role : Option completion.Role
  pub word : HasRole tool before typed role
  pub owners : List ℕ
  pub arguments : AreOwnersIn tool_positionals role owners
  pub with_value : Option completion.Joined
  pub joined : IsJoined tool before typed with_value
  pub written : text ≡ spelled_lines typed offered
      ++ flat_map plus_line (offered_values tool typed role owners with_value)
      ++ role_line role owners ++ joined_line with_value

-- the words ask for the help or the version, and this is the text
abbrev pub IsAskedFor : List (List ℕ) → ℕ → List ℕ → Type 0
IsAskedFor words width text = (AskFor tool words for_help × IsHelp full tool width text)
    ⊎ (AskFor tool words for_brief_help × IsHelp brief tool width text)
    ⊎ ((version : List ℕ) × AskFor tool words (for_version version) × (text ≡ version ++ 10 ∷ []))

abbrev pub ToolAnswer : List (List ℕ) → ℕ → Answer Flag Value Word Maybe Values → Type 0
ToolAnswer words width (answer.Parsed own) = ToolMeans words own.items
ToolAnswer words width (answer.Text text) = IsAskedFor words width (string_bytes text)
ToolAnswer words width (answer.Refused refused) = ToolRefused words refused

-- ---- requests of a shell

-- the name of the variable
abbrev pub tool_variable : List ℕ
tool_variable = codes "_TOOL_COMPLETE"

abbrev pub tool_script : Shell → List ℕ
tool_script shell = shell_script shell (codes "tool") tool_variable ++ 10 ∷ []

-- the variable has an unknown value
abbrev pub IsNotKnown : Refused Flag Value Word Maybe Values → Type 0
IsNotKnown r = (r.program.now ≡ codes "tool") × (r.before.items ≡ [])
    × ((name : String Global) × (string_bytes name ≡ tool_variable)
    × (r.mistake ≡ mistake.InvalidVariable name))

abbrev pub ToolRequest : Request → ℕ → Answer Flag Value Word Maybe Values → Type 0
ToolRequest (request.Line words) width own = ToolAnswer words.items width own
ToolRequest (request.Completion before typed) width (answer.Text text) =
    IsOffer before.items typed (string_bytes text)
ToolRequest (request.Script shell) width (answer.Text text) =
    string_bytes text ≡ tool_script shell
ToolRequest request.Unknown width (answer.Refused refused) = IsNotKnown refused
ToolRequest asked width own = ⊥

-- the values of the variable with which a shell asks for completion
abbrev pub AsksToComplete : List ℕ → Type 0
AsksToComplete value = (value ≡ codes "bash_complete") ⊎ (value ≡ codes "zsh_complete")
    ⊎ (value ≡ codes "fish_complete")

-- the value of the variable with which a shell asks for its script
abbrev pub source_of : Shell → List ℕ
source_of Bash = codes "bash_source"
source_of Zsh = codes "zsh_source"
source_of Fish = codes "fish_source"

-- the request that this value of the variable, if it is set, and these words make
abbrev pub IsAsked : Option (List ℕ) → List (List ℕ) → Request → Type 0
IsAsked value words (request.Line own) = ((value ≡ None) ⊎ (value ≡ Some [])) × (own.items ≡ words)
IsAsked value words (request.Completion before typed) =
    ((text : List ℕ) × (value ≡ Some text) × AsksToComplete text)
    × ((words ≡ before.items ++ typed ∷ [])
    ⊎ ((words ≡ []) × (before.items ≡ []) × (typed ≡ [])))
IsAsked value words (request.Script shell) = value ≡ Some (source_of shell)
IsAsked value words request.Unknown = (text : List ℕ) × (value ≡ Some text) × (text ≢ [])
    × ((shell : Shell) → text ≢ source_of shell) × ¬ AsksToComplete text
