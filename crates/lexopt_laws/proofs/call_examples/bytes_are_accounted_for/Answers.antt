use Rattle.std.proofs.Common.{◌≡◌, ◌≢◌, ℕ, zero, suc, List, [], ◌∷◌, codes, refl, arith, inl}
use Rattle.std.specs.List.{Contains}
use Rattle.lexopt_spec.specs.UnreadLine.{equals, joined}
use Rattle.lexopt_spec.specs.Steps.{with_value, word_left, no_word_left, reads_separator, reads_long, reads_cluster, joined_value, after_separator, next_word, pending_value, optional_pending}
use Rattle.lexopt_spec.specs.Views.{is_next, is_not_next, lends_words}
use Rattle.lexopt_line_spec.proofs.Computing.{computing}
use Rattle.lexopt_laws.proofs.call_examples.bytes_are_accounted_for.Goals as goal

free_one : (b : ℕ) → b ≢ equals → Contains (b ∷ []) equals → ⊥
free_one b other (zero, below, is) = other is
free_one b other (suc k, below, is) = absurd (omega arith)

other_word : (a b : ℕ) (cs bs : List ℕ) (ws vs : List (List ℕ)) → a ≢ b → (a ∷ cs) ∷ ws ≡ (b ∷ bs) ∷ vs → ⊥
other_word a b cs bs ws vs other is = other (let e : (a ∷ cs) ∷ ws ≡ (b ∷ bs) ∷ vs = is in cc)

none_left : (w : List ℕ) (ws : List (List ℕ)) → [] ≡ w ∷ ws → ⊥
none_left w ws is = cc

pub returns-clause-words : goal.returns-clause-words
unfolding computing
returns-clause-words c = (
  _,
  (
    (
      _,
      inl (lends_words refl (is_not_next (λ ws is. other_word 0x61 0x78 [] [] _ ws (omega arith) is) refl refl)),
      (
        _,
        inl (lends_words refl (is_next _ refl refl refl)),
        (
          _,
          inl (lends_words refl (record { reply_is = refl; after_is = refl })),
          (
            _,
            inl (next_word refl refl (reads_separator _ refl (word_left _ _ refl refl refl))),
            (
              _,
              inl (lends_words refl (is_not_next (λ ws is. none_left _ ws is) refl refl)),
              (_, inl (after_separator refl refl (no_word_left refl refl refl)), refl),
            ),
          ),
        ),
      ),
    ),
    refl,
  ),
)

some_bytes : (b : ℕ) (bs : List ℕ) → b ∷ bs ≡ [] → ⊥
some_bytes b bs is = cc

pub returns-clause-options : goal.returns-clause-options
unfolding computing
returns-clause-options c = (
  _,
  (
    (
      _,
      inl (next_word refl refl (reads_cluster (codes "a=b") _ refl (λ h. let e : 0x61 ≡ 0x2D = h in omega arith)
          (record { some = λ h. some_bytes _ _ h; reply_is = refl; after_is = refl }))),
      (
        _,
        inl (pending_value (codes "b") _ refl refl refl),
        (
          _,
          inl (next_word refl refl (reads_long (codes "n=x") (codes "n") (joined (codes "x")) _ refl (λ h. some_bytes _ _ h)
              (with_value (codes "x") (λ has. free_one 0x6E (omega arith) has) refl) refl refl)),
          (_, inl (joined_value (codes "x") (codes "--n") refl refl refl refl), refl),
        ),
      ),
    ),
    refl,
  ),
)

pub returns-clause-damaged : goal.returns-clause-damaged
unfolding computing
returns-clause-damaged c = (
  _,
  (
    (
      _,
      inl (next_word refl refl (reads_cluster (0xF0 ∷ 0x9D ∷ 0x61 ∷ []) _ refl (λ h. let e : 0xF0 ≡ 0x2D = h in omega arith)
          (record { some = λ h. some_bytes _ _ h; reply_is = refl; after_is = refl }))),
      (_, inl (optional_pending (codes "a") _ refl refl refl), refl),
    ),
    refl,
  ),
)
