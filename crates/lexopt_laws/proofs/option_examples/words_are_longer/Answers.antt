use Rattle.std.proofs.Common.{◌≡◌, false, [], codes, inl, inr, refl}
use Rattle.std.proofs.lemmas.Bool.{false≢true}
use Rattle.lexopt_spec.specs.UnreadLine.{dash, IsPlain}
use Rattle.lexopt_line_spec.proofs.Worked.{not_begins}
use Rattle.lexopt_laws.proofs.option_examples.words_are_longer.Goals as goal

pub returns-clause-anything : goal.returns-clause-anything
returns-clause-anything c = record { begins = refl; longer = λ is. let e : codes "a" ≡ [] = is in cc; plain = λ no. inr (inr (not_begins dash (codes "a") refl)) }

pub returns-clause-more_of_it : goal.returns-clause-more_of_it
returns-clause-more_of_it c = record { begins = refl; longer = λ is. let e : codes "fi" ≡ codes "f" = is in cc; plain = λ no. inr (inr (not_begins dash (codes "fi") refl)) }

pub returns-clause-a_dash_alone : goal.returns-clause-a_dash_alone
returns-clause-a_dash_alone c = record { begins = refl; longer = λ is. let e : codes "-" ≡ [] = is in cc; plain = λ no. inr (inl refl) }

pub returns-clause-dashed : goal.returns-clause-dashed
returns-clause-dashed c = record { begins = refl; longer = λ is. let e : codes "-x" ≡ codes "-" = is in cc; plain = λ no. absurd (no refl) }

pub returns-clause-not_shorter : goal.returns-clause-not_shorter
returns-clause-not_shorter c is = false≢true is.begins

pub returns-clause-not_the_same : goal.returns-clause-not_the_same
returns-clause-not_the_same c is = is.longer refl

pub returns-clause-not_another : goal.returns-clause-not_another
returns-clause-not_another c is = false≢true is.begins

pub returns-clause-not_an_option : goal.returns-clause-not_an_option
returns-clause-not_an_option c is = never (is.plain (not_begins dash [] refl))
  where
    never : IsPlain false (codes "-x") → ⊥
    never (inl ended) = false≢true ended
    never (inr (inl only)) = let e : codes "-x" ≡ codes "-" = only in cc
    never (inr (inr other)) = other refl
