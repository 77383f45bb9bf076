use Rattle.std.proofs.Common.{[], ◌∷◌, codes, refl, lit≤, lit<}
use Rattle.bstr.proofs.Computing.{computing}
use Rattle.lexopt_options_spec.specs.Help.{columns}
use Rattle.lexopt_laws.proofs.WorkedLines.{fits}
use Rattle.lexopt_laws.proofs.option_examples.paragraphs_are_written.Goals as goal

pub returns-clause-one_line : goal.returns-clause-one_line
unfolding columns computing
returns-clause-one_line c = record {
  lines = (codes "Prints" ∷ codes "what" ∷ codes "it" ∷ codes "has" ∷ codes "read." ∷ []) ∷ [];
  wrapped = record { in_order = refl; fit = (fits (lit< tt) (lit≤ tt), tt); full = tt };
  written = refl;
}

pub returns-clause-two_lines : goal.returns-clause-two_lines
unfolding columns computing
returns-clause-two_lines c = record {
  lines = (codes "Prints" ∷ codes "what" ∷ []) ∷ (codes "it" ∷ codes "has" ∷ codes "read." ∷ []) ∷ [];
  wrapped = record { in_order = refl; fit = (fits (lit< tt) (lit≤ tt), (fits (lit< tt) (lit≤ tt), tt)); full = (lit< tt, tt) };
  written = refl;
}

pub returns-clause-nothing : goal.returns-clause-nothing
returns-clause-nothing c = record { lines = []; wrapped = record { in_order = refl; fit = tt; full = tt }; written = refl }
