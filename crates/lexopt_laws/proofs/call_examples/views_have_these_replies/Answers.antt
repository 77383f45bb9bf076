use Rattle.std.proofs.Common.{false, [], ◌∷◌, codes, refl, inl}
use Rattle.lexopt_spec.specs.Steps.{no_word_left, word_left, no_word, reads_separator, after_separator, next_word}
use Rattle.lexopt_spec.specs.Views.{refuses_pending, lends_words, leaves_pending, try_lends_words}
use Rattle.lexopt_line_spec.proofs.Computing.{computing}
use Rattle.lexopt_line_spec.proofs.Worked.{some, plain_front_is, reads_first, reads_plain, gives_values, misses_values}
use Rattle.lexopt_laws.proofs.call_examples.views_have_these_replies.Goals as goal

-- `-ab c`
pub returns-clause-values_in_turn : goal.returns-clause-values_in_turn
unfolding computing
returns-clause-values_in_turn c = (
  _,
  (
    _,
    inl (reads_first _ 0x61 (codes "b") _ refl refl refl refl),
    (
      _,
      inl (gives_values 1 _ (codes "c" ∷ []) [] (plain_front_is _ [] refl refl) (some _ _)),
      (_, inl (gives_values 1 _ (codes "c" ∷ []) [] (plain_front_is _ [] refl refl) (some _ _)), (_, inl (misses_values 1 _ refl refl), refl)),
    ),
  ),
)

-- `-a=b c`
pub returns-clause-joined_value : goal.returns-clause-joined_value
unfolding computing
returns-clause-joined_value c = (
  _,
  (
    _,
    inl (reads_first _ 0x61 (codes "=b") _ refl refl refl refl),
    (
      _,
      inl (gives_values 9 _ (codes "c" ∷ []) [] (plain_front_is _ [] refl refl) (some _ _)),
      (_, inl (reads_plain _ (codes "c") _ refl refl refl refl), refl),
    ),
  ),
)

-- `-a -- b`
pub returns-clause-values_before_the_separator : goal.returns-clause-values_before_the_separator
unfolding computing
returns-clause-values_before_the_separator c = (
  _,
  (
    _,
    inl (reads_first _ 0x61 [] _ refl refl refl refl),
    (_, inl (misses_values 9 _ refl refl), (_, inl (next_word refl refl (reads_separator _ refl (word_left _ _ refl refl refl))), refl)),
  ),
)

-- `-- -x --`
pub returns-clause-values_after_the_separator : goal.returns-clause-values_after_the_separator
unfolding computing
returns-clause-values_after_the_separator c = (
  _,
  (
    _,
    inl (next_word refl refl (reads_separator _ refl (word_left _ _ refl refl refl))),
    (
      _,
      inl (gives_values 9 _ (codes "--" ∷ []) [] (plain_front_is _ [] refl refl) (some _ _)),
      (_, inl (after_separator refl refl (no_word_left refl refl refl)), refl),
    ),
  ),
)

-- `-ab c d`
pub returns-clause-pending_is_refused : goal.returns-clause-pending_is_refused
unfolding computing
returns-clause-pending_is_refused c = (
  _,
  (
    _,
    inl (reads_first _ 0x61 (codes "b") _ refl refl refl refl),
    (
      _,
      inl (leaves_pending (codes "b") false refl refl refl),
      (
        _,
        inl (refuses_pending (codes "b") (codes "-a") false refl refl refl refl),
        (
          _,
          inl (try_lends_words refl (record { reply_is = refl; after_is = refl })),
          (_, inl (next_word refl refl (no_word refl refl refl)), refl),
        ),
      ),
    ),
  ),
)

-- `-- -x`
pub returns-clause-raw_separator : goal.returns-clause-raw_separator
unfolding computing
returns-clause-raw_separator c = (
  _,
  (
    _,
    inl (lends_words refl (record { reply_is = refl; after_is = refl })),
    (_, inl (reads_first _ 0x78 [] _ refl refl refl refl), refl),
  ),
)
