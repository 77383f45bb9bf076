use Rattle.std.proofs.Common.{[], ◌∷◌, codes, refl, inl, inr, arith, min}
use Rattle.lexopt_spec.specs.Views.{lends_words, try_lends_words}
use Rattle.lexopt_spec.specs.Runs.{values, raw, try_raw}
use Rattle.lexopt_laws.proofs.Cuts.{values_lose, raw_loses, try_raw_loses, leaves_one}
use Rattle.lexopt_line_spec.proofs.Worked.{some, plain_front_is, gives_values}
use Rattle.lexopt_laws.proofs.call_examples.no_item_more_is_taken.Goals as goal

pub returns-clause-one_value : goal.returns-clause-one_value
returns-clause-one_value c = inr (inl (1, _, inl (gives_values 1 _ (codes "a" ∷ codes "b" ∷ []) [] (plain_front_is _ [] refl refl) (some _ _))))

pub returns-clause-two_values : goal.returns-clause-two_values
returns-clause-two_values c = leaves_one (values 1) (codes "a") (codes "b")
    (λ m r v step. let few = values_lose (min m 1) _ r v step in omega arith) (λ r v step. values_lose 1 _ r v step)

pub returns-clause-one_word : goal.returns-clause-one_word
returns-clause-one_word c = inr (inl (1, _, inl (lends_words refl (record { reply_is = refl; after_is = refl }))))

pub returns-clause-two_words : goal.returns-clause-two_words
returns-clause-two_words c = leaves_one (raw 1) (codes "a") (codes "b")
    (λ m r v step. let few = raw_loses (min m 1) _ r v step in omega arith) (λ r v step. raw_loses 1 _ r v step)

pub returns-clause-one_word_tried : goal.returns-clause-one_word_tried
returns-clause-one_word_tried c = inr (inl (1, _, inl (try_lends_words refl (record { reply_is = refl; after_is = refl }))))

pub returns-clause-two_words_tried : goal.returns-clause-two_words_tried
returns-clause-two_words_tried c = leaves_one (try_raw 1) (codes "a") (codes "b")
    (λ m r v step. let few = try_raw_loses (min m 1) _ r v step in omega arith) (λ r v step. try_raw_loses 1 _ r v step)
