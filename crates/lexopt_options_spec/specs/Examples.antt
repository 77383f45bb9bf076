-- The declarations of the worked examples.
use Rattle.std.specs.Prelude.{Bool, ℕ, List, [], ◌∷◌, Option, None, Some, codes, false, true}
use Rattle.lexopt_line_spec.specs.Table.{Kind, Name, flag, long, one, optional, short}
use Rattle.lexopt_options_spec.specs.Completion.{Joined}
use Rattle.lexopt_options_spec.specs.Declaration.{Beside, Declaration, Declared, Positional, Words}
use Rattle.lexopt_options_spec.specs.Declaration.{files, listed, nothing, once}

-- a required option
abbrev pub demanded_option : Option ℕ → Option (List ℕ) → Kind → List ℕ → Declared
demanded_option c name kind placeholder = record {
  short_name = c;
  long_name = name;
  kind = kind;
  placeholder = placeholder;
  help = [];
  details = None;
  asks = None;
  heading = None;
  hidden = false;
  required = true;
  default = None;
  exclusive = None;
  words = files;
  hides_list = false;
  aliases = [];
  beside = nothing;
}

-- the flag `-v`
abbrev pub voluntary_option : Declared
voluntary_option = record (demanded_option (Some 0x76) None flag []) { required = false }

-- `-v`, which the other options with this text exclude
abbrev pub exclusive_option : List ℕ → Declared
exclusive_option text = record voluntary_option { exclusive = Some text }

-- the first and the third of these exclude each other
abbrev pub exclusive_options : List Declared
exclusive_options = exclusive_option (codes "format") ∷ exclusive_option (codes "order")
    ∷ exclusive_option (codes "format") ∷ voluntary_option ∷ voluntary_option ∷ []

-- `--json` and `--xml`, which exclude each other by the first text, around `-v` with the second
abbrev pub long_options : List ℕ → List ℕ → List Declared
long_options text other =
    record (exclusive_option text) { short_name = None; long_name = Some (codes "json") }
    ∷ exclusive_option other
    ∷ record (exclusive_option text) { short_name = None; long_name = Some (codes "xml") } ∷ []

-- the option with these further names
abbrev pub also : List Name → Declared → Declared
also names o = record o { aliases = names }

-- `--color[=WHEN]`, which is `-C` and `--colour` too
abbrev pub color : Declared
color = record (also (short 0x43 ∷ long (codes "colour") ∷ []) voluntary_option) {
  short_name = None;
  long_name = Some (codes "color");
  kind = optional;
  placeholder = codes "WHEN";
}

-- `--color[=WHEN]`, whose label shows this too, and which may be hidden
abbrev pub other_form : Beside → Bool → Declared
other_form b hidden = record color { beside = b; hidden = hidden }

-- an option whose values may be these
abbrev pub option_of : Option (List ℕ) → Words → Declared
option_of name words =
    record (demanded_option (Some 0x6D) name one (codes "MODE")) { words = words }

-- an option that has this default, and accepts two values
abbrev pub with_default_of : List ℕ → Declared
with_default_of value =
    record (option_of None (listed (codes "fast" ∷ codes "slow" ∷ []))) {
      required = false;
      default = Some value;
    }

-- a positional that occurs once
abbrev pub positional_of : List ℕ → List ℕ → Words → Positional
positional_of placeholder help words = record {
  placeholder = placeholder;
  count = once;
  help = help;
  words = words;
  hides_list = false;
}

-- these options and positionals
abbrev pub declaration_of : List Declared → List Positional → Declaration
declaration_of options positionals = record {
  program = codes "pack";
  about = [];
  usage = [];
  options = options;
  positionals = positionals;
  epilogue = [];
  short_equals = true;
}

-- options without a list, with one, and with one and no long name
abbrev pub listed_options : List Declared
listed_options = option_of (Some (codes "out")) files
    ∷ option_of (Some (codes "mode")) (listed (codes "fast" ∷ codes "slow" ∷ codes "slower" ∷ []))
    ∷ option_of None (listed (codes "tar" ∷ [])) ∷ []

-- two positionals, each with a list
abbrev pub listed_positionals : List Positional
listed_positionals = positional_of (codes "HOW") [] (listed (codes "fast" ∷ codes "slow" ∷ []))
    ∷ positional_of (codes "FORM") [] (listed (codes "tar" ∷ codes "zip" ∷ [])) ∷ []

abbrev pub lists : Declaration
lists = declaration_of listed_options listed_positionals

-- the option at this index, whose value is typed after this text
abbrev pub joined_after : ℕ → List ℕ → Option Joined
joined_after index before = Some (record { index = index; before = before })

-- two options with a help text
abbrev pub explained_options : List Declared
explained_options = record (option_of (Some (codes "mode")) files) { help = codes "how fast" }
    ∷ record (option_of None files) { help = codes "what else" } ∷ []

-- the first of two options is hidden
abbrev pub hidden_options : List Declared
hidden_options =
    record (option_of (Some (codes "mode")) files) { help = codes "how fast"; hidden = true }
    ∷ option_of None files ∷ []
