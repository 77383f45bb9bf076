-- The options of the worked examples, as `docs/behaviour.md` and `docs/formats.md` have them.
use Rattle.std.specs.Prelude.{Bool, true, false, List, [], ◌∷◌, ◌++◌, ℕ, Some, None, codes}
use Rattle.lexopt_line_spec.specs.Table.{flag, one, optional, several}
use Rattle.lexopt_options_spec.specs.Declaration as spec
use Rattle.lexopt_options_spec.specs.Declaration.{Declared, Declaration, Positional, for_help}
use Rattle.lexopt_options_spec.specs.Declaration.{for_version}
use Rattle.lexopt_options_spec.specs.Declaration.{once, at_most_once, any_number, at_least_once}

abbrev pub verbose : Declared
verbose = record {
  short_name = Some 0x76;
  long_name = Some (codes "verbose");
  kind = flag;
  placeholder = [];
  help = codes "tell more";
  details = None;
  asks = None;
  heading = None;
  hidden = false;
  required = false;
  default = None;
  exclusive = None;
  words = spec.files;
  hides_list = false;
  aliases = [];
  beside = spec.nothing;
}

abbrev pub output : Declared
output = record {
  short_name = Some 0x6F;
  long_name = Some (codes "output");
  kind = one;
  placeholder = codes "FILE";
  help = codes "the archive";
  details = None;
  asks = None;
  heading = None;
  hidden = false;
  required = false;
  default = None;
  exclusive = None;
  words = spec.files;
  hides_list = false;
  aliases = [];
  beside = spec.nothing;
}

abbrev pub backup : Declared
backup = record {
  short_name = Some 0x62;
  long_name = Some (codes "backup");
  kind = optional;
  placeholder = codes "SUFFIX";
  help = codes "keep an archive that is there, with this suffix";
  details = None;
  asks = None;
  heading = None;
  hidden = false;
  required = false;
  default = None;
  exclusive = None;
  words = spec.files;
  hides_list = false;
  aliases = [];
  beside = spec.nothing;
}

abbrev pub exclude : Declared
exclude = record {
  short_name = Some 0x78;
  long_name = Some (codes "exclude");
  kind = several;
  placeholder = codes "PATTERN";
  help = codes "leave these out: all words up to the next option";
  details = None;
  asks = None;
  heading = None;
  hidden = false;
  required = false;
  default = None;
  exclusive = None;
  words = spec.files;
  hides_list = false;
  aliases = [];
  beside = spec.nothing;
}

abbrev pub sample_options : List Declared
sample_options = verbose ∷ output ∷ backup ∷ exclude ∷ []

-- positionals: one that is required, one that may be left out, and any number
abbrev pub mode : Positional
mode = record {
  placeholder = codes "MODE";
  count = once;
  help = [];
  words = spec.files;
  hides_list = false;
}

abbrev pub target : Positional
target = record mode { placeholder = codes "TARGET"; count = at_most_once }

abbrev pub files : Positional
files = record mode { placeholder = codes "FILE"; count = any_number }

-- one that is required and may occur more than once, and one after it
abbrev pub sources : Positional
sources = record mode { placeholder = codes "SOURCE"; count = at_least_once }

abbrev pub dest : Positional
dest = record mode { placeholder = codes "DEST" }

-- one that may be left out, and one after it
abbrev pub old : Positional
old = record mode { placeholder = codes "OLD"; count = at_most_once }

abbrev pub new : Positional
new = record mode { placeholder = codes "NEW" }

-- the same as `files`, with a help text
abbrev pub described_files : Positional
described_files = record files { help = codes "a file to read" }

-- positionals that accept only the words in a list
abbrev pub mode_in_list : Positional
mode_in_list = record mode { words = spec.listed (codes "fast" ∷ codes "slow" ∷ []) }

abbrev pub old_in_list : Positional
old_in_list = record old { words = spec.listed (codes "a" ∷ []) }

abbrev pub form_in_list : Positional
form_in_list = record mode {
  placeholder = codes "FORM";
  words = spec.listed (codes "tar" ∷ []);
}

-- these options, with these positionals
abbrev pub sample : List Positional → Bool → Declaration
sample positionals short_equals = record {
  program = codes "example_archive";
  about = codes "Prints what it has read.";
  usage = [];
  options = sample_options;
  positionals = positionals;
  epilogue = [];
  short_equals = short_equals;
}

-- a flag with only this long name
abbrev pub named : List ℕ → Declared
named name = record verbose { short_name = None; long_name = Some name }

-- `-v` and `--quiet`, which exclude each other, around `-o`
abbrev pub exclusive_sample : Declaration
exclusive_sample = record (sample [] true) {
  options = record verbose { exclusive = Some (codes "telling") } ∷ output
      ∷ record (named (codes "quiet")) { exclusive = Some (codes "telling") } ∷ [];
}

-- six long names that begin alike
abbrev pub names_in_re : List (List ℕ)
names_in_re = codes "recursive" ∷ codes "reference" ∷ codes "regexp" ∷ codes "remove"
    ∷ codes "replace" ∷ codes "reverse" ∷ []

abbrev pub asks_for_help : Declared
asks_for_help = record {
  short_name = Some 0x68;
  long_name = Some (codes "help");
  kind = flag;
  placeholder = [];
  help = codes "print this help and exit";
  details = None;
  asks = Some for_help;
  heading = None;
  hidden = false;
  required = false;
  default = None;
  exclusive = None;
  words = spec.files;
  hides_list = false;
  aliases = [];
  beside = spec.nothing;
}

abbrev pub asks_for_version : Declared
asks_for_version = record asks_for_help {
  short_name = None;
  long_name = Some (codes "version");
  help = codes "print the version and exit";
  details = None;
  asks = Some (for_version (codes "1.0"));
}

-- the sample with both, at the indices 4 and 5
abbrev pub asking_sample : List Positional → Bool → Declaration
asking_sample positionals short_equals = record (sample positionals short_equals) {
  options = sample_options ++ asks_for_help ∷ asks_for_version ∷ [];
}

-- a required option
abbrev pub user : Declared
user = record {
  short_name = Some 0x75;
  long_name = Some (codes "user");
  kind = one;
  placeholder = codes "NAME";
  help = codes "the owner of the archive";
  details = None;
  asks = None;
  heading = None;
  hidden = false;
  required = true;
  default = None;
  exclusive = None;
  words = spec.files;
  hides_list = false;
  aliases = [];
  beside = spec.nothing;
}

-- the sample with the required option at index 4
abbrev pub demanding_sample : List Positional → Bool → Declaration
demanding_sample positionals short_equals = record (sample positionals short_equals) {
  options = sample_options ++ user ∷ [];
}

-- `-o`, which is hidden here, and `-v`
abbrev pub hiding_options : List Declared
hiding_options = record output { hidden = true } ∷ verbose ∷ []

abbrev pub hiding_sample : Declaration
hiding_sample = record (sample [] true) { options = hiding_options }

-- `-v` and `-o` have one heading, since that of a hidden option is left out; `-h` has another
abbrev pub options_with_headings : List Declared
options_with_headings = record verbose { heading = Some (codes "Telling") }
    ∷ record exclude { heading = Some (codes "Leaving out"); hidden = true } ∷ output
    ∷ record asks_for_help { heading = Some (codes "Other") } ∷ []

-- options that accept only the values in a list
abbrev pub listed_mode : Declared
listed_mode = record {
  short_name = Some 0x6D;
  long_name = Some (codes "mode");
  kind = one;
  placeholder = codes "MODE";
  help = codes "how to pack";
  details = None;
  asks = None;
  heading = None;
  hidden = false;
  required = false;
  default = None;
  exclusive = None;
  words = spec.listed (codes "fast" ∷ codes "slow" ∷ []);
  hides_list = false;
  aliases = [];
  beside = spec.nothing;
}

abbrev pub explained_mode : Declared
explained_mode = record listed_mode {
  details = Some (codes "How to pack.");
  default = Some (codes "fast");
}

abbrev pub listed_backup : Declared
listed_backup = record backup { words = spec.listed (codes "old" ∷ codes "bak" ∷ []) }

abbrev pub listed_exclude : Declared
listed_exclude = record exclude { words = spec.listed (codes "a" ∷ codes "c" ∷ []) }

-- `-m` has index 1; `-v`, `-b` and `-x` have those of the sample; `--help` has index 4
abbrev pub listed_options : List Declared
listed_options = verbose ∷ listed_mode ∷ listed_backup ∷ listed_exclude ∷ asks_for_help ∷ []

abbrev pub listed_sample : List Positional → Bool → Declaration
listed_sample positionals short_equals = record (sample positionals short_equals) {
  options = listed_options;
}

-- a flag, `-m`, which is required here, and `--help`
abbrev pub demanding_listed : List Positional → Bool → Declaration
demanding_listed positionals short_equals = record (sample positionals short_equals) {
  options = verbose ∷ record listed_mode { required = true } ∷ asks_for_help ∷ [];
}

-- `-o`, a flag and `--mode`, the first and the last with a default
abbrev pub options_with_defaults : List Declared
options_with_defaults = record output { default = Some (codes "f") } ∷ verbose
    ∷ record listed_mode { default = Some (codes "slow") } ∷ []
