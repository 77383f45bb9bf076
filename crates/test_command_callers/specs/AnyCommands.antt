-- What lines of any commands mean, by the meaning of their words.
use Rattle.std.specs.Prelude.{◌≡◌, ◌⊎◌, ◌++◌, ℕ, List, [], ◌∷◌, None, map}
use Rattle.std.specs.Prelude.{Vec, string_bytes}
use Rattle.std.specs.Borrow.{Bor}
use Rattle.std.specs.Global.{Global}
use Rattle.std.specs.declared.convert.Infallible.{Infallible}
use Rattle.lexopt_options_spec.specs.Asking.{first_asked}
use Rattle.lexopt_options_spec.specs.Declaration as spec
use Rattle.lexopt_options_spec.specs.Declaration.{brief, for_brief_help, for_help, for_version, full}
use Rattle.lexopt_options_spec.specs.Asking as asking
use Rattle.lexopt_options_spec.specs.Rest.{MeansBefore, surplus}
use Rattle.lexopt_options_spec.specs.Legal as legal
use Rattle.lexopt_declaration.specs.declared.declaration.Declared.{Declared}
use Rattle.lexopt_declaration.specs.Lookups.{help_names}
use Rattle.lexopt_declaration.specs.Scripts.{variable_name}
use Rattle.lexopt_options.specs.declared.mistake.Mistake.{Mistake}
use Rattle.lexopt_options.specs.declared.mistake.Mistake.TheVariants as mistake
use Rattle.lexopt_options.specs.declared.options.Options.{Options}
use Rattle.lexopt_options.specs.declared.parsed.Asked.{Asked}
use Rattle.lexopt_options.specs.declared.parsed.Asked.TheVariants as asks
use Rattle.lexopt_options.specs.declared.parsed.Parsed.{Parsed}
use Rattle.lexopt_options.specs.declared.refused.Refused.{Refused}
use Rattle.lexopt_options.specs.declared.request.Request.{Request}
use Rattle.lexopt_options.specs.declared.request.Request.TheVariants as request
use Rattle.lexopt_options.specs.Answers.{script_lines}
use Rattle.lexopt_options.specs.Declarations.{declaration_of, options_of}
use Rattle.lexopt_options.specs.Keys.{AreReadAs, asked_view}
use Rattle.lexopt_options.specs.Lines.{IsRefused}
use Rattle.lexopt_commands.specs.declared.answer.Step.{Step}
use Rattle.lexopt_commands.specs.declared.answer.Step.TheVariants as step
use Rattle.lexopt_commands.specs.declared.call.Call.{Call}
use Rattle.lexopt_commands.specs.declared.command.Command.{Command}
use Rattle.lexopt_commands.specs.declared.read.CommandLine.{CommandLine}
use Rattle.lexopt_commands.specs.declared.read.CommandLine.TheVariants as line
use Rattle.lexopt_commands.specs.Help.{IsHelp}
use Rattle.lexopt_commands.specs.Meanings.{Meaning, command, help, meaning, missing, unknown}
use Rattle.lexopt_commands.specs.Mistakes.{IsHint}

-- ---- lines

-- the words are general options that ask for nothing, and then words that mean this
abbrev pub MeanSo : {C F V M S : Type 0} → Options F V Infallible M S → List (Command C) → List (List ℕ)
    → List (Parsed F V Infallible M S) → Meaning C → Type 0
MeanSo o commands words parsed what = (l : List legal.Parsed) × (rest : List (List ℕ))
    × MeansBefore surplus (declaration_of o) words l rest
    × (first_asked (declaration_of o).options l ≡ None) × AreReadAs (options_of o) l parsed
    × (meaning commands rest ≡ what)

-- this is wrong with the words after the general options
abbrev pub HaveMistake : {C F V M S : Type 0} → Options F V Infallible M S → List (Command C)
    → List (List ℕ) → Refused F V Infallible M S → Mistake → Type 0
HaveMistake o commands words r (mistake.MissingCommand names) =
    MeanSo o commands words r.before.items missing
    × (map (λ name. name.now) names.items ≡ map (λ c. c.name.now) commands)
HaveMistake o commands words r (mistake.UnknownCommand word rest hints) =
    MeanSo o commands words r.before.items (unknown word rest.items)
    × IsHint commands word (map (λ hint. hint.now) hints.items)
HaveMistake o commands words r m = ⊥

-- the first of the words, or all of them, ask for this before any mistake
abbrev pub AskFirst : spec.Declaration → List (List ℕ) → spec.Asked → Type 0
AskFirst d words asked = (front : List (List ℕ)) × (more : List (List ℕ)) × (words ≡ front ++ more)
    × asking.AskFor d front asked

-- the reading of the first of the words, or of all of them, stops so
abbrev pub RefusedFirst : {F V M S : Type 0} → Options F V Infallible M S → List (List ℕ)
    → Refused F V Infallible M S → Type 0
RefusedFirst o words r = (front : List (List ℕ)) × (more : List (List ℕ)) × (words ≡ front ++ more)
    × IsRefused o front r

abbrev pub LineTells : {C F V M S : Type 0} → Options F V Infallible M S → List (Command C)
    → List (List ℕ) → CommandLine C F V M S → Type 0
LineTells o commands words (line.Command parsed name key own) =
    MeanSo o commands words parsed.items (command name.now key own.items)
LineTells o commands words (line.Asked asked) =
    AskFirst (declaration_of o) words (asked_view asked)
    ⊎ ((asked ≡ asks.Help) × (parsed : List (Parsed _ _ _ _ _))
    × MeanSo o commands words parsed help)
LineTells o commands words (line.Refused r) = (r.program.now ≡ (declaration_of o).program)
    × (r.help ≡ help_names (options_of o))
    × (RefusedFirst o words r ⊎ HaveMistake o commands words r r.mistake)

-- the line asks for this
abbrev pub IsAskedFor : {C F V M S : Type 0} → spec.Asked → CommandLine C F V M S → Type 0
IsAskedFor for_help (line.Asked asks.Help) = Unit {0}
IsAskedFor for_brief_help (line.Asked asks.BriefHelp) = Unit {0}
IsAskedFor (for_version text) (line.Asked (asks.Version own)) = own.now ≡ text
IsAskedFor what line = ⊥

-- the line is the command of this name and key, with these words, after these general options
abbrev pub IsNamed : {C F V M S : Type 0} → List (Declared F V M S) → List legal.Parsed → List ℕ → C
    → List (List ℕ) → CommandLine C F V M S → Type 0
IsNamed options l name key words (line.Command parsed told found own) =
    AreReadAs options l parsed.items × (told.now ≡ name) × (found ≡ key) × (own.items ≡ words)
IsNamed options l name key words line = ⊥

-- ---- what the program does

abbrev pub TextTells : {C F V M S : Type 0} → Options F V Infallible M S → List (Command C) → Asked → ℕ
    → List ℕ → Type 0
TextTells o commands asks.Help width text = IsHelp full (declaration_of o) commands width text
TextTells o commands asks.BriefHelp width text = IsHelp brief (declaration_of o) commands width text
TextTells o commands (asks.Version own) width text = text ≡ own.now ++ 10 ∷ []

-- the words are the line of a command, which is called with its words, with the general options
-- that came before and then those of the words, and by its path: the program and the command's name
abbrev pub CommandTells : {C F V M S : Type 0} → Options F V Infallible M S → List (Command C)
    → List (Parsed F V Infallible M S) → List (List ℕ) → C → List ℕ → Call F V M S → Type 0
CommandTells o commands before words key path call = (parsed : Vec (Parsed _ _ _ _ _) Global)
    × (name : Bor (List ℕ)) × (own : Vec (List ℕ) Global)
    × LineTells o commands words (line.Command parsed name key own)
    × (path ≡ (declaration_of o).program ++ 0x20 ∷ name.now)
    × (call.general.items ≡ before ++ parsed.items) × (call.request ≡ request.Line own)

abbrev pub StepTells : {C F V M S : Type 0} → Options F V Infallible M S → List (Command C)
    → List (Parsed F V Infallible M S) → List (List ℕ) → ℕ → Step C F V M S → Type 0
StepTells o commands before words width (step.Command key path call) =
    CommandTells o commands before words key (string_bytes path) call
StepTells o commands before words width (step.Text text) = (asked : Asked)
    × LineTells o commands words (line.Asked asked)
    × TextTells o commands asked width (string_bytes text)
StepTells o commands before words width (step.Refused r) =
    LineTells o commands words (line.Refused r)

-- the variable by which shells ask has a value that is not known
abbrev pub IsVariable : List ℕ → Mistake → Type 0
IsVariable program (mistake.InvalidVariable name) = string_bytes name ≡ variable_name program
IsVariable program m = ⊥

-- about a line after these general options, a shell and a request that is not known; and that the
-- call for a completion has no general options. `complete_tasks` is about what can come.
abbrev pub RequestTells : {C F V M S : Type 0} → Options F V Infallible M S → List (Command C)
    → List (Parsed F V Infallible M S) → Request → ℕ → Step C F V M S → Type 0
RequestTells o commands before (request.Line words) width found =
    StepTells o commands before words.items width found
RequestTells o commands before (request.Completion words typed) width (step.Command key path call) =
    call.general.items ≡ []
RequestTells o commands before (request.Completion words typed) width found = Unit {0}
RequestTells o commands before (request.Script shell) width (step.Text text) =
    string_bytes text ≡ script_lines o shell
RequestTells o commands before request.Unknown width (step.Refused r) =
    (r.program.now ≡ (declaration_of o).program) × (r.help ≡ help_names (options_of o))
    × (r.before.items ≡ []) × IsVariable (declaration_of o).program r.mistake
RequestTells o commands before asked width found = ⊥
