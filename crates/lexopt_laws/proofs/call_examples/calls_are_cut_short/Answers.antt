use Rattle.std.proofs.Common.{[], ◌∷◌, codes, refl, inl, inr}
use Rattle.lexopt_spec.specs.Views.{lends_words}
use Rattle.lexopt_line_spec.proofs.Worked.{some, plain_front_is, gives_values}
use Rattle.lexopt_laws.proofs.call_examples.calls_are_cut_short.Goals as goal

pub returns-clause-at_once : goal.returns-clause-at_once
returns-clause-at_once c = inl refl

pub returns-clause-after_an_item : goal.returns-clause-after_an_item
returns-clause-after_an_item c = inr (inl (1, _, inl (gives_values 1 _ (codes "c" ∷ codes "d" ∷ codes "e" ∷ []) [] (plain_front_is _ [] refl refl) (some _ _))))

pub returns-clause-after_a_call : goal.returns-clause-after_a_call
returns-clause-after_a_call c = inr (inr (
  _,
  _,
  inl (gives_values 2 _ (codes "c" ∷ codes "d" ∷ codes "e" ∷ []) [] (plain_front_is _ [] refl refl) (some _ _)),
  inr (inl (1, _, inl (lends_words refl (record { reply_is = refl; after_is = refl })))),
))
