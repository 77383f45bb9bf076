use Rattle.std.proofs.Common.{List, ℕ, [], ◌∷◌, ◌++◌, true, codes, refl, lit≤, lit<}
use Rattle.bstr.proofs.Computing.{computing}
use Rattle.lexopt_options_spec.specs.Declaration.{brief, full}
use Rattle.lexopt_options_spec.specs.Help.{columns, label, option_text, with_list, IsParagraph, IsEntry, IsUsage}
use Rattle.lexopt_laws.specs.Sample.{explained_mode, listed_mode, mode_in_list, options_with_headings, verbose, output, backup, exclude, asks_for_help, sample, sample_options, files, described_files, mode, target}
use Rattle.lexopt_laws.proofs.WorkedLines.{alone, fits, one_usage}
use Rattle.lexopt_laws.proofs.option_examples.helps_are_written.Goals as goal

verbose_entry : IsEntry 80 (label verbose) verbose.help (codes "  -v, --verbose         tell more\n")
unfolding columns computing
verbose_entry = record { lines = (codes "tell" ∷ codes "more" ∷ []) ∷ []; wrapped = record { in_order = refl; fit = (fits (lit< tt) (lit≤ tt), tt); full = tt }; written = refl }

output_entry : IsEntry 80 (label output) output.help (codes "  -o, --output=FILE     the archive\n")
unfolding columns computing
output_entry = record { lines = (codes "the" ∷ codes "archive" ∷ []) ∷ []; wrapped = record { in_order = refl; fit = (fits (lit< tt) (lit≤ tt), tt); full = tt }; written = refl }

backup_entry : IsEntry 80 (label backup) backup.help (codes "  -b[SUFFIX], --backup[=SUFFIX]\n                        keep an archive that is there, with this suffix\n")
unfolding columns computing
backup_entry = record {
  lines = (codes "keep" ∷ codes "an" ∷ codes "archive" ∷ codes "that" ∷ codes "is" ∷ codes "there," ∷ codes "with" ∷ codes "this" ∷ codes "suffix" ∷ []) ∷ [];
  wrapped = record { in_order = refl; fit = (fits (lit< tt) (lit≤ tt), tt); full = tt };
  written = refl;
}

exclude_entry : IsEntry 80 (label exclude) exclude.help (codes "  -x, --exclude PATTERN...\n                        leave these out: all words up to the next option\n")
unfolding columns computing
exclude_entry = record {
  lines = (codes "leave" ∷ codes "these" ∷ codes "out:" ∷ codes "all" ∷ codes "words" ∷ codes "up" ∷ codes "to" ∷ codes "the" ∷ codes "next" ∷ codes "option" ∷ []) ∷ [];
  wrapped = record { in_order = refl; fit = (fits (lit< tt) (lit≤ tt), tt); full = tt };
  written = refl;
}

help_entry : IsEntry 80 (label asks_for_help) asks_for_help.help (codes "  -h, --help            print this help and exit\n")
unfolding columns computing
help_entry = record {
  lines = (codes "print" ∷ codes "this" ∷ codes "help" ∷ codes "and" ∷ codes "exit" ∷ []) ∷ [];
  wrapped = record { in_order = refl; fit = (fits (lit< tt) (lit≤ tt), tt); full = tt };
  written = refl;
}

sample_usage : IsUsage 80 (record (sample (files ∷ []) true) { options = sample_options ++ asks_for_help ∷ [] }) (codes "Usage: example_archive [OPTION]... [FILE]...\n")
unfolding columns computing
sample_usage = one_usage (codes "example_archive [OPTION]... [FILE]...\n") (record {
  lines = (codes "example_archive" ∷ codes "[OPTION]..." ∷ codes "[FILE]..." ∷ []) ∷ [];
  wrapped = record { in_order = refl; fit = (fits (lit< tt) (lit≤ tt), tt); full = tt };
  written = refl;
}) refl

usage_alone : (about : List ℕ) → IsUsage 80 (record (sample [] true) { options = []; about = about }) (codes "Usage: example_archive\n")
unfolding columns computing
usage_alone about = one_usage (codes "example_archive\n") (record { lines = (codes "example_archive" ∷ []) ∷ []; wrapped = record { in_order = refl; fit = (fits (lit< tt) (lit≤ tt), tt); full = tt }; written = refl }) refl

usage_of_positionals : IsUsage 80 (record (sample (mode ∷ target ∷ files ∷ []) true) { options = []; about = [] }) (codes "Usage: example_archive MODE [TARGET] [FILE]...\n")
unfolding columns computing
usage_of_positionals = one_usage (codes "example_archive MODE [TARGET] [FILE]...\n") (record {
  lines = (codes "example_archive" ∷ codes "MODE" ∷ codes "[TARGET]" ∷ codes "[FILE]..." ∷ []) ∷ [];
  wrapped = record { in_order = refl; fit = (fits (lit< tt) (lit≤ tt), tt); full = tt };
  written = refl;
}) refl

usage_of_every_part : IsUsage 80 (record (sample (mode ∷ described_files ∷ []) true) { options = record output { hidden = true } ∷ verbose ∷ []; epilogue = codes "Each file is read once." ∷ codes " " ∷ codes "No file is changed." ∷ [] })
    (codes "Usage: example_archive [OPTION]... MODE [FILE]...\n")
unfolding columns computing
usage_of_every_part = one_usage (codes "example_archive [OPTION]... MODE [FILE]...\n") (record {
  lines = (codes "example_archive" ∷ codes "[OPTION]..." ∷ codes "MODE" ∷ codes "[FILE]..." ∷ []) ∷ [];
  wrapped = record { in_order = refl; fit = (fits (lit< tt) (lit≤ tt), tt); full = tt };
  written = refl;
}) refl

usage_without_options : IsUsage 80 (record (sample [] true) { options = record output { hidden = true } ∷ []; about = [] }) (codes "Usage: example_archive\n")
unfolding columns computing
usage_without_options = one_usage (codes "example_archive\n") (record { lines = (codes "example_archive" ∷ []) ∷ []; wrapped = record { in_order = refl; fit = (fits (lit< tt) (lit≤ tt), tt); full = tt }; written = refl }) refl

files_entry : IsEntry 80 (codes "FILE") (codes "a file to read") (codes "  FILE                  a file to read\n")
unfolding columns computing
files_entry = record { lines = (codes "a" ∷ codes "file" ∷ codes "to" ∷ codes "read" ∷ []) ∷ []; wrapped = record { in_order = refl; fit = (fits (lit< tt) (lit≤ tt), tt); full = tt }; written = refl }

first_paragraph : IsParagraph 80 (codes "Each file is read once.") (codes "Each file is read once.\n")
unfolding columns computing
first_paragraph = record {
  lines = (codes "Each" ∷ codes "file" ∷ codes "is" ∷ codes "read" ∷ codes "once." ∷ []) ∷ [];
  wrapped = record { in_order = refl; fit = (fits (lit< tt) (lit≤ tt), tt); full = tt };
  written = refl;
}

no_paragraph : IsParagraph 80 (codes " ") []
no_paragraph = record { lines = []; wrapped = record { in_order = refl; fit = tt; full = tt }; written = refl }

last_paragraph : IsParagraph 80 (codes "No file is changed.") (codes "No file is changed.\n")
unfolding columns computing
last_paragraph = record {
  lines = (codes "No" ∷ codes "file" ∷ codes "is" ∷ codes "changed." ∷ []) ∷ [];
  wrapped = record { in_order = refl; fit = (fits (lit< tt) (lit≤ tt), tt); full = tt };
  written = refl;
}

some_about : IsParagraph 80 (codes "Prints what it has read.") (codes "Prints what it has read.\n")
unfolding columns computing
some_about = record {
  lines = (codes "Prints" ∷ codes "what" ∷ codes "it" ∷ codes "has" ∷ codes "read." ∷ []) ∷ [];
  wrapped = record { in_order = refl; fit = (fits (lit< tt) (lit≤ tt), tt); full = tt };
  written = refl;
}

no_about : IsParagraph 80 [] []
no_about = record { lines = []; wrapped = record { in_order = refl; fit = tt; full = tt }; written = refl }

pub returns-clause-sample : goal.returns-clause-sample
returns-clause-sample c = record {
  usage = codes "Usage: example_archive [OPTION]... [FILE]...\n";
  about = codes "Prints what it has read.\n";
  positionals = [];
  options = codes "  -v, --verbose         tell more\n" ∷ codes "  -o, --output=FILE     the archive\n"
      ∷ codes "  -b[SUFFIX], --backup[=SUFFIX]\n                        keep an archive that is there, with this suffix\n"
      ∷ codes "  -x, --exclude PATTERN...\n                        leave these out: all words up to the next option\n"
      ∷ codes "  -h, --help            print this help and exit\n" ∷ [];
  epilogue = [];
  usage_first = sample_usage;
  about_next = some_about;
  each_positional = tt;
  each_option = (alone verbose_entry refl, (alone output_entry refl, (alone backup_entry refl, (alone exclude_entry refl, (alone help_entry refl, tt)))));
  each_paragraph = tt;
  written = refl;
}

pub returns-clause-nothing : goal.returns-clause-nothing
returns-clause-nothing c = record {
  usage = codes "Usage: example_archive\n";
  about = [];
  positionals = [];
  options = [];
  epilogue = [];
  usage_first = usage_alone [];
  about_next = no_about;
  each_positional = tt;
  each_option = tt;
  each_paragraph = tt;
  written = refl;
}

pub returns-clause-about_alone : goal.returns-clause-about_alone
returns-clause-about_alone c = record {
  usage = codes "Usage: example_archive\n";
  about = codes "Prints what it has read.\n";
  positionals = [];
  options = [];
  epilogue = [];
  usage_first = usage_alone (codes "Prints what it has read.");
  about_next = some_about;
  each_positional = tt;
  each_option = tt;
  each_paragraph = tt;
  written = refl;
}

pub returns-clause-positionals : goal.returns-clause-positionals
returns-clause-positionals c = record {
  usage = codes "Usage: example_archive MODE [TARGET] [FILE]...\n";
  about = [];
  positionals = [];
  options = [];
  epilogue = [];
  usage_first = usage_of_positionals;
  about_next = no_about;
  each_positional = tt;
  each_option = tt;
  each_paragraph = tt;
  written = refl;
}

pub returns-clause-every_part : goal.returns-clause-every_part
returns-clause-every_part c = record {
  usage = codes "Usage: example_archive [OPTION]... MODE [FILE]...\n";
  about = codes "Prints what it has read.\n";
  positionals = codes "  FILE                  a file to read\n" ∷ [];
  options = codes "  -v, --verbose         tell more\n" ∷ [];
  epilogue = codes "Each file is read once.\n" ∷ [] ∷ codes "No file is changed.\n" ∷ [];
  usage_first = usage_of_every_part;
  about_next = some_about;
  each_positional = (files_entry, tt);
  each_option = (alone verbose_entry refl, tt);
  each_paragraph = (first_paragraph, (no_paragraph, (last_paragraph, tt)));
  written = refl;
}

usage_of_a_list : IsUsage 80 (record (sample [] true) { options = listed_mode ∷ []; about = [] }) (codes "Usage: example_archive [OPTION]...\n")
unfolding columns computing
usage_of_a_list = one_usage (codes "example_archive [OPTION]...\n") (record {
  lines = (codes "example_archive" ∷ codes "[OPTION]..." ∷ []) ∷ [];
  wrapped = record { in_order = refl; fit = (fits (lit< tt) (lit≤ tt), tt); full = tt };
  written = refl;
}) refl

list_entry : IsEntry 80 (label listed_mode) (with_list listed_mode.help listed_mode.words) (codes "  -m, --mode=MODE       how to pack: one of fast, slow\n")
unfolding columns computing
list_entry = record {
  lines = (codes "how" ∷ codes "to" ∷ codes "pack:" ∷ codes "one" ∷ codes "of" ∷ codes "fast," ∷ codes "slow" ∷ []) ∷ [];
  wrapped = record { in_order = refl; fit = (fits (lit< tt) (lit≤ tt), tt); full = tt };
  written = refl;
}

pub returns-clause-list : goal.returns-clause-list
returns-clause-list c = record {
  usage = codes "Usage: example_archive [OPTION]...\n";
  about = [];
  positionals = [];
  options = codes "  -m, --mode=MODE       how to pack: one of fast, slow\n" ∷ [];
  epilogue = [];
  usage_first = usage_of_a_list;
  about_next = no_about;
  each_positional = tt;
  each_option = (alone list_entry refl, tt);
  each_paragraph = tt;
  written = refl;
}

pub returns-clause-hidden_option : goal.returns-clause-hidden_option
returns-clause-hidden_option c = record {
  usage = codes "Usage: example_archive\n";
  about = [];
  positionals = [];
  options = [];
  epilogue = [];
  usage_first = usage_without_options;
  about_next = no_about;
  each_positional = tt;
  each_option = tt;
  each_paragraph = tt;
  written = refl;
}

usage_of_mode : IsUsage 80 (record (sample (mode_in_list ∷ []) true) { options = []; about = [] }) (codes "Usage: example_archive MODE\n")
unfolding columns computing
usage_of_mode = one_usage (codes "example_archive MODE\n") (record {
  lines = (codes "example_archive" ∷ codes "MODE" ∷ []) ∷ [];
  wrapped = record { in_order = refl; fit = (fits (lit< tt) (lit≤ tt), tt); full = tt };
  written = refl;
}) refl

mode_entry : IsEntry 80 mode_in_list.placeholder (with_list mode_in_list.help mode_in_list.words) (codes "  MODE                  one of fast, slow\n")
unfolding columns computing
mode_entry = record {
  lines = (codes "one" ∷ codes "of" ∷ codes "fast," ∷ codes "slow" ∷ []) ∷ [];
  wrapped = record { in_order = refl; fit = (fits (lit< tt) (lit≤ tt), tt); full = tt };
  written = refl;
}

pub returns-clause-list_of_a_positional : goal.returns-clause-list_of_a_positional
unfolding computing
returns-clause-list_of_a_positional c = record {
  usage = codes "Usage: example_archive MODE\n";
  about = [];
  positionals = codes "  MODE                  one of fast, slow\n" ∷ [];
  options = [];
  epilogue = [];
  usage_first = usage_of_mode;
  about_next = no_about;
  each_positional = (mode_entry, tt);
  each_option = tt;
  each_paragraph = tt;
  written = refl;
}

usage_of_headings : IsUsage 80 (record (sample [] true) { options = options_with_headings; about = [] }) (codes "Usage: example_archive [OPTION]...\n")
unfolding columns computing
usage_of_headings = one_usage (codes "example_archive [OPTION]...\n") (record {
  lines = (codes "example_archive" ∷ codes "[OPTION]..." ∷ []) ∷ [];
  wrapped = record { in_order = refl; fit = (fits (lit< tt) (lit≤ tt), tt); full = tt };
  written = refl;
}) refl

pub returns-clause-headings : goal.returns-clause-headings
returns-clause-headings c = record {
  usage = codes "Usage: example_archive [OPTION]...\n";
  about = [];
  positionals = [];
  options = codes "\nTelling:\n  -v, --verbose         tell more\n" ∷ codes "  -o, --output=FILE     the archive\n"
      ∷ codes "\nOther:\n  -h, --help            print this help and exit\n" ∷ [];
  epilogue = [];
  usage_first = usage_of_headings;
  about_next = no_about;
  each_positional = tt;
  each_option = (
    record { own = codes "  -v, --verbose         tell more\n"; is_entry = verbose_entry; written = refl },
    (alone output_entry refl, (record { own = codes "  -h, --help            print this help and exit\n"; is_entry = help_entry; written = refl }, tt)),
  );
  each_paragraph = tt;
  written = refl;
}

unlisted_entry : IsEntry 80 (label listed_mode) listed_mode.help (codes "  -m, --mode=MODE       how to pack\n")
unfolding columns computing
unlisted_entry = record {
  lines = (codes "how" ∷ codes "to" ∷ codes "pack" ∷ []) ∷ [];
  wrapped = record { in_order = refl; fit = (fits (lit< tt) (lit≤ tt), tt); full = tt };
  written = refl;
}

usage_without_the_list : IsUsage 80 (record (sample [] true) { options = record listed_mode { hides_list = true } ∷ []; about = [] }) (codes "Usage: example_archive [OPTION]...\n")
unfolding columns computing
usage_without_the_list = one_usage (codes "example_archive [OPTION]...\n") (record {
  lines = (codes "example_archive" ∷ codes "[OPTION]..." ∷ []) ∷ [];
  wrapped = record { in_order = refl; fit = (fits (lit< tt) (lit≤ tt), tt); full = tt };
  written = refl;
}) refl

pub returns-clause-hidden_list : goal.returns-clause-hidden_list
returns-clause-hidden_list c = record {
  usage = codes "Usage: example_archive [OPTION]...\n";
  about = [];
  positionals = [];
  options = codes "  -m, --mode=MODE       how to pack\n" ∷ [];
  epilogue = [];
  usage_first = usage_without_the_list;
  about_next = no_about;
  each_positional = tt;
  each_option = (alone unlisted_entry refl, tt);
  each_paragraph = tt;
  written = refl;
}

usage_when_explained : IsUsage 80 (record (sample [] true) { options = explained_mode ∷ []; about = []; epilogue = codes "No file is changed." ∷ [] }) (codes "Usage: example_archive [OPTION]...\n")
unfolding columns computing
usage_when_explained = one_usage (codes "example_archive [OPTION]...\n") (record {
  lines = (codes "example_archive" ∷ codes "[OPTION]..." ∷ []) ∷ [];
  wrapped = record { in_order = refl; fit = (fits (lit< tt) (lit≤ tt), tt); full = tt };
  written = refl;
}) refl

brief_entry : IsEntry 80 (label explained_mode) (option_text brief explained_mode) (codes "  -m, --mode=MODE       how to pack: one of fast, slow [default: fast]\n")
unfolding columns computing
brief_entry = record {
  lines = (codes "how" ∷ codes "to" ∷ codes "pack:" ∷ codes "one" ∷ codes "of" ∷ codes "fast," ∷ codes "slow" ∷ codes "[default:" ∷ codes "fast]" ∷ []) ∷ [];
  wrapped = record { in_order = refl; fit = (fits (lit< tt) (lit≤ tt), tt); full = tt };
  written = refl;
}

full_entry : IsEntry 80 (label explained_mode) (option_text full explained_mode) (codes "  -m, --mode=MODE       How to pack. One of fast, slow. [default: fast]\n")
unfolding columns computing
full_entry = record {
  lines = (codes "How" ∷ codes "to" ∷ codes "pack." ∷ codes "One" ∷ codes "of" ∷ codes "fast," ∷ codes "slow." ∷ codes "[default:" ∷ codes "fast]" ∷ []) ∷ [];
  wrapped = record { in_order = refl; fit = (fits (lit< tt) (lit≤ tt), tt); full = tt };
  written = refl;
}

pub returns-clause-in_brief : goal.returns-clause-in_brief
returns-clause-in_brief c = record {
  usage = codes "Usage: example_archive [OPTION]...\n";
  about = [];
  positionals = [];
  options = codes "  -m, --mode=MODE       how to pack: one of fast, slow [default: fast]\n" ∷ [];
  epilogue = [];
  usage_first = usage_when_explained;
  about_next = no_about;
  each_positional = tt;
  each_option = (alone brief_entry refl, tt);
  each_paragraph = tt;
  written = refl;
}

pub returns-clause-in_full : goal.returns-clause-in_full
returns-clause-in_full c = record {
  usage = codes "Usage: example_archive [OPTION]...\n";
  about = [];
  positionals = [];
  options = codes "  -m, --mode=MODE       How to pack. One of fast, slow. [default: fast]\n" ∷ [];
  epilogue = codes "No file is changed.\n" ∷ [];
  usage_first = usage_when_explained;
  about_next = no_about;
  each_positional = tt;
  each_option = (alone full_entry refl, tt);
  each_paragraph = (last_paragraph, tt);
  written = refl;
}
