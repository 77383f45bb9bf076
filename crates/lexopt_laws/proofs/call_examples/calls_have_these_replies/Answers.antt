use Rattle.std.proofs.Common.{true, [], ◌∷◌, Some, codes, refl, inl, inr}
use Rattle.lexopt_spec.specs.Steps as steps
use Rattle.lexopt_spec.specs.Steps.{no_word_left, word_left, no_word, reads_separator, joined_value, equals_value, next_in_cluster, after_separator, next_word, pending_value, takes_word, nothing_to_take, optional_none}
use Rattle.lexopt_line_spec.proofs.Computing.{computing}
use Rattle.lexopt_line_spec.proofs.Worked.{some, not_mark, reads_first, reads_joined, reads_name, reads_plain}
use Rattle.lexopt_laws.proofs.call_examples.calls_have_these_replies.Goals as goal

-- `--out=x file -- -y`
pub returns-clause-options_and_words : goal.returns-clause-options_and_words
unfolding computing
returns-clause-options_and_words c = (
  _,
  (
    _,
    inl (reads_joined _ (codes "out") (codes "x") _ refl refl refl refl),
    (
      _,
      inl (pending_value (codes "x") true refl refl refl),
      (
        _,
        inl (reads_plain _ (codes "file") _ refl refl refl refl),
        (
          _,
          inl (next_word refl refl (reads_separator _ refl (word_left _ _ refl refl refl))),
          (_, inl (after_separator refl refl (no_word_left refl refl refl)), refl),
        ),
      ),
    ),
  ),
)

pub returns-clause-memory_refused : goal.returns-clause-memory_refused
unfolding computing
returns-clause-memory_refused c = (
  _,
  (
    _,
    inr (record { reply_is = refl; after_is = refl; in_place_of = (steps.long (codes "out"), _, reads_joined _ (codes "out") (codes "x") _ refl refl refl refl, tt) }),
    (
      _,
      inl (takes_word (codes "--out=x") _ refl refl refl refl),
      (
        _,
        inl (reads_plain _ (codes "file") _ refl refl refl refl),
        (
          _,
          inl (next_word refl refl (reads_separator _ refl (word_left _ _ refl refl refl))),
          (_, inl (after_separator refl refl (no_word_left refl refl refl)), refl),
        ),
      ),
    ),
  ),
)

-- `-a=b`
pub returns-clause-memory_refused_twice : goal.returns-clause-memory_refused_twice
unfolding computing
returns-clause-memory_refused_twice c = (
  _,
  (
    _,
    inl (reads_first _ 0x61 (codes "=b") _ refl refl refl refl),
    (
      _,
      inr (record { reply_is = refl; after_is = refl; in_place_of = (steps.unexpected (codes "-a") (codes "b"), _, equals_value (codes "b") (codes "-a") refl refl refl refl refl, tt) }),
      (
        _,
        inl (equals_value (codes "b") (codes "-a") refl refl refl refl refl),
        (
          _,
          inr (record { reply_is = refl; after_is = refl; in_place_of = (steps.missing (Some (codes "-a")), _, nothing_to_take refl refl refl refl, tt) }),
          (_, inl (nothing_to_take refl refl refl refl), refl),
        ),
      ),
    ),
  ),
)

-- two dashes and F0 9D 84
pub returns-clause-damaged_name : goal.returns-clause-damaged_name
unfolding computing
returns-clause-damaged_name c = (
  _,
  (_, inl (reads_name _ 0xF0 (0x9D ∷ 0x84 ∷ []) _ refl refl refl refl), (_, inl (nothing_to_take refl refl refl refl), refl)),
)

-- `-x -- -y`
pub returns-clause-separator_as_value : goal.returns-clause-separator_as_value
unfolding computing
returns-clause-separator_as_value c = (
  _,
  (
    _,
    inl (reads_first _ 0x78 [] _ refl refl refl refl),
    (
      _,
      inl (takes_word (codes "--") _ refl refl refl refl),
      (_, inl (reads_first _ 0x79 [] _ refl refl refl refl), (_, inl (next_word refl refl (no_word refl refl refl)), refl)),
    ),
  ),
)

-- `-o`
pub returns-clause-no_value : goal.returns-clause-no_value
unfolding computing
returns-clause-no_value c = (_, (_, inl (reads_first _ 0x6F [] _ refl refl refl refl), (_, inl (nothing_to_take refl refl refl refl), refl)))

pub returns-clause-no_words : goal.returns-clause-no_words
returns-clause-no_words c = (_, (_, inl (nothing_to_take refl refl refl refl), (_, inl (next_word refl refl (no_word refl refl refl)), refl)))

-- `-a=`
pub returns-clause-value_in_a_cluster : goal.returns-clause-value_in_a_cluster
unfolding computing
returns-clause-value_in_a_cluster c = (
  _,
  (
    _,
    inl (reads_first _ 0x61 (codes "=") _ refl refl refl refl),
    (_, inl (equals_value [] (codes "-a") refl refl refl refl refl), (_, inl (next_word refl refl (no_word refl refl refl)), refl)),
  ),
)

-- `-a=b`
pub returns-clause-set_short_equals : goal.returns-clause-set_short_equals
unfolding computing
returns-clause-set_short_equals c = (
  _,
  (
    _,
    inl (reads_first _ 0x61 (codes "=b") _ refl refl refl refl),
    (
      _,
      inl (record { reply_is = refl; after_is = refl }),
      (
        _,
        inl (next_in_cluster (codes "=b") refl (not_mark _ (codes "=b") refl) (record { some = some _ _; reply_is = refl; after_is = refl })),
        (
          _,
          inl (record { reply_is = refl; after_is = refl }),
          (
            _,
            inl (next_in_cluster (codes "b") refl (not_mark _ (codes "b") refl) (record { some = some _ _; reply_is = refl; after_is = refl })),
            (_, inl (next_word refl refl (no_word refl refl refl)), refl),
          ),
        ),
      ),
    ),
  ),
)

-- `-d v`
pub returns-clause-optional : goal.returns-clause-optional
unfolding computing
returns-clause-optional c = (
  _,
  (_, inl (reads_first _ 0x64 [] _ refl refl refl refl), (_, inl (optional_none refl refl refl), (_, inl (reads_plain _ (codes "v") _ refl refl refl refl), refl))),
)

-- `--n=x`
pub returns-clause-value_of_a_name : goal.returns-clause-value_of_a_name
unfolding computing
returns-clause-value_of_a_name c = (
  _,
  (
    _,
    inl (reads_joined _ (codes "n") (codes "x") _ refl refl refl refl),
    (
      _,
      inl (joined_value (codes "x") (codes "--n") refl refl refl refl),
      (_, inl (next_word refl refl (no_word refl refl refl)), refl),
    ),
  ),
)

-- `--n=x=y`
pub returns-clause-first_equals_ends_the_name : goal.returns-clause-first_equals_ends_the_name
unfolding computing
returns-clause-first_equals_ends_the_name c = (
  _,
  (
    _,
    inl (reads_joined _ (codes "n") (codes "x=y") _ refl refl refl refl),
    (_, inl (pending_value (codes "x=y") true refl refl refl), refl),
  ),
)
