use Rattle.std.proofs.Common.{◌≡◌, ◌≤◌, ◌<◌, [], ◌∷◌, codes, refl, arith, lit≤, lit<, ⊎_elim}
use Rattle.bstr.proofs.Computing.{computing}
use Rattle.lexopt_options_spec.specs.Help.{columns}
use Rattle.lexopt_laws.proofs.WorkedLines.{fits, one_word}
use Rattle.lexopt_laws.proofs.option_examples.words_are_put_on_lines.Goals as goal

pub returns-clause-two_lines : goal.returns-clause-two_lines
unfolding columns computing
returns-clause-two_lines c = record { in_order = refl; fit = (fits (lit< tt) (lit≤ tt), (fits (lit< tt) (lit≤ tt), tt)); full = (lit< tt, tt) }

pub returns-clause-exactly : goal.returns-clause-exactly
unfolding columns computing
returns-clause-exactly c = record { in_order = refl; fit = (fits (lit< tt) (lit≤ tt), tt); full = tt }

pub returns-clause-long_word : goal.returns-clause-long_word
unfolding columns computing
returns-clause-long_word c = record { in_order = refl; fit = (one_word (lit< tt) refl, (fits (lit< tt) (lit≤ tt), tt)); full = (lit< tt, tt) }

pub returns-clause-no_words : goal.returns-clause-no_words
returns-clause-no_words c = record { in_order = refl; fit = tt; full = tt }

pub returns-clause-not_full : goal.returns-clause-not_full
unfolding columns computing
returns-clause-not_full c is = let room : 7 < 7 = is.full.0 in omega arith

pub returns-clause-room_for_one_word : goal.returns-clause-room_for_one_word
unfolding columns computing
returns-clause-room_for_one_word c is = let room : 8 < 7 = is.full.0 in omega arith

pub returns-clause-not_full_later : goal.returns-clause-not_full_later
unfolding columns computing
returns-clause-not_full_later c is = let room : 4 < 4 = is.full.1.0 in omega arith

pub returns-clause-too_wide : goal.returns-clause-too_wide
unfolding columns computing
returns-clause-too_wide c is = ⊎_elim (λ (narrow : 7 ≤ 6). omega arith) (λ (one : 2 ≡ 1). omega arith) is.fit.0.narrow

pub returns-clause-too_wide_later : goal.returns-clause-too_wide_later
unfolding columns computing
returns-clause-too_wide_later c is = ⊎_elim (λ (narrow : 7 ≤ 6). omega arith) (λ (one : 2 ≡ 1). omega arith) is.fit.1.0.narrow

pub returns-clause-empty_line : goal.returns-clause-empty_line
returns-clause-empty_line c is = let none : 0 < 0 = is.fit.0.words in omega arith

pub returns-clause-out_of_order : goal.returns-clause-out_of_order
returns-clause-out_of_order c is = let e : codes "tell" ∷ codes "me" ∷ [] ≡ codes "me" ∷ codes "tell" ∷ [] = is.in_order in cc
