use Rattle.std.proofs.Common.{[], ◌∷◌, codes, refl, lit≤, lit<}
use Rattle.bstr.proofs.Computing.{computing}
use Rattle.lexopt_options_spec.specs.Help.{columns}
use Rattle.lexopt_laws.proofs.WorkedLines.{fits, one_usage, one_word}
use Rattle.lexopt_laws.proofs.option_examples.usage_lines_are_written.Goals as goal

pub returns-clause-one_line : goal.returns-clause-one_line
unfolding columns computing
returns-clause-one_line c = one_usage (codes "example_archive [OPTION]... MODE [TARGET] [FILE]...\n") (record {
  lines = (codes "example_archive" ∷ codes "[OPTION]..." ∷ codes "MODE" ∷ codes "[TARGET]" ∷ codes "[FILE]..." ∷ []) ∷ [];
  wrapped = record { in_order = refl; fit = (fits (lit< tt) (lit≤ tt), tt); full = tt };
  written = refl;
}) refl

pub returns-clause-three_lines : goal.returns-clause-three_lines
unfolding columns computing
returns-clause-three_lines c = one_usage (codes "example_archive\n       [OPTION]... MODE\n       [TARGET] [FILE]...\n") (record {
  lines = (codes "example_archive" ∷ []) ∷ (codes "[OPTION]..." ∷ codes "MODE" ∷ []) ∷ (codes "[TARGET]" ∷ codes "[FILE]..." ∷ []) ∷ [];
  wrapped = record {
    in_order = refl;
    fit = (fits (lit< tt) (lit≤ tt), (fits (lit< tt) (lit≤ tt), (fits (lit< tt) (lit≤ tt), tt)));
    full = (lit< tt, (lit< tt, tt));
  };
  written = refl;
}) refl

pub returns-clause-no_room : goal.returns-clause-no_room
unfolding columns computing
returns-clause-no_room c = one_usage (codes "example_archive\n       [OPTION]...\n") (record {
  lines = (codes "example_archive" ∷ []) ∷ (codes "[OPTION]..." ∷ []) ∷ [];
  wrapped = record { in_order = refl; fit = (one_word (lit< tt) refl, (one_word (lit< tt) refl, tt)); full = (lit< tt, tt) };
  written = refl;
}) refl

pub returns-clause-own : goal.returns-clause-own
unfolding columns computing
returns-clause-own c = record {
  first = codes "example_archive SOURCE\n       DEST\n";
  others = codes "example_archive\n       SOURCE... DIRECTORY\n" ∷ [];
  first_line = record {
    lines = (codes "example_archive" ∷ codes "SOURCE" ∷ []) ∷ (codes "DEST" ∷ []) ∷ [];
    wrapped = record { in_order = refl; fit = (fits (lit< tt) (lit≤ tt), (fits (lit< tt) (lit≤ tt), tt)); full = (lit< tt, tt) };
    written = refl;
  };
  other_lines = (
    record {
      lines = (codes "example_archive" ∷ []) ∷ (codes "SOURCE..." ∷ codes "DIRECTORY" ∷ []) ∷ [];
      wrapped = record { in_order = refl; fit = (fits (lit< tt) (lit≤ tt), (fits (lit< tt) (lit≤ tt), tt)); full = (lit< tt, tt) };
      written = refl;
    },
    tt,
  );
  written = refl;
}
