use Rattle.std.proofs.Common.{[], ◌∷◌, codes, refl, lit≤, lit<}
use Rattle.bstr.proofs.Computing.{computing}
use Rattle.lexopt_options_spec.specs.Help.{columns}
use Rattle.lexopt_laws.proofs.WorkedLines.{fits}
use Rattle.lexopt_laws.proofs.option_examples.entries_are_written.Goals as goal

pub returns-clause-next_to_it : goal.returns-clause-next_to_it
unfolding columns computing
returns-clause-next_to_it c = record {
  lines = (codes "tell" ∷ codes "more" ∷ []) ∷ [];
  wrapped = record { in_order = refl; fit = (fits (lit< tt) (lit≤ tt), tt); full = tt };
  written = refl;
}

pub returns-clause-below_it : goal.returns-clause-below_it
unfolding columns computing
returns-clause-below_it c = record {
  lines = (codes "keep" ∷ codes "an" ∷ codes "archive" ∷ codes "that" ∷ codes "is" ∷ codes "there," ∷ codes "with" ∷ codes "this" ∷ codes "suffix" ∷ []) ∷ [];
  wrapped = record { in_order = refl; fit = (fits (lit< tt) (lit≤ tt), tt); full = tt };
  written = refl;
}

pub returns-clause-narrow : goal.returns-clause-narrow
unfolding columns computing
returns-clause-narrow c = record {
  lines = (codes "tell" ∷ codes "more" ∷ codes "of" ∷ codes "what" ∷ codes "is" ∷ codes "done" ∷ []) ∷ [];
  wrapped = record { in_order = refl; fit = (fits (lit< tt) (lit≤ tt), tt); full = tt };
  written = refl;
}

pub returns-clause-two_lines : goal.returns-clause-two_lines
unfolding columns computing
returns-clause-two_lines c = record {
  lines = (codes "tell" ∷ codes "more" ∷ codes "of" ∷ codes "what" ∷ codes "is" ∷ []) ∷ (codes "done" ∷ []) ∷ [];
  wrapped = record { in_order = refl; fit = (fits (lit< tt) (lit≤ tt), (fits (lit< tt) (lit≤ tt), tt)); full = (lit< tt, tt) };
  written = refl;
}

pub returns-clause-nothing_to_say : goal.returns-clause-nothing_to_say
unfolding columns computing
returns-clause-nothing_to_say c = record { lines = []; wrapped = record { in_order = refl; fit = tt; full = tt }; written = refl }
