use Rattle.std.proofs.Common.{false, [], ◌∷◌, Some, None, codes, refl, inl, arith}
use Rattle.lexopt_spec.specs.Steps as steps
use Rattle.lexopt_spec.specs.Steps.{no_word, next_word, equals_value, pending_value, nothing_to_take, optional_none}
use Rattle.lexopt_spec.specs.Runs.{next, value, values}
use Rattle.lexopt_spec.specs.Runs as calls
use Rattle.lexopt_line_spec.specs.Table.{flag, one, optional, several, kind}
use Rattle.lexopt_line_spec.specs.Readings.{last, more}
use Rattle.lexopt_line_spec.proofs.Computing.{computing}
use Rattle.lexopt_line_spec.proofs.Worked.{some, plain_front_is, reads_first, reads_plain, gives_values}
use Rattle.lexopt_laws.proofs.line_examples.lines_are_read.Goals as goal

-- `-o= f`
pub returns-clause-to_the_end : goal.returns-clause-to_the_end
unfolding kind computing
returns-clause-to_the_end c = record {
  calls = next ∷ value ∷ next ∷ next ∷ [];
  replies = steps.short 0x6F ∷ steps.taken (codes "=") ∷ steps.positional (codes "f") ∷ steps.end ∷ [];
  after = _;
  run = (
    _,
    inl (reads_first _ 0x6F (codes "=") _ refl refl refl refl),
    (
      _,
      inl (pending_value (codes "=") false refl refl refl),
      (_, inl (reads_plain _ (codes "f") _ refl refl refl refl), (_, inl (next_word refl refl (no_word refl refl refl)), refl)),
    ),
  );
  asked = more flag one next _ _ _ refl tt refl (more one flag value _ _ _ refl tt refl (more flag flag next _ _ _ refl tt refl (last flag next refl tt)));
  items_are = refl;
}

-- `-v=1`
pub returns-clause-to_a_refused_value : goal.returns-clause-to_a_refused_value
unfolding kind computing
returns-clause-to_a_refused_value c = record {
  calls = next ∷ next ∷ [];
  replies = steps.short 0x76 ∷ steps.unexpected (codes "-v") (codes "1") ∷ [];
  after = _;
  run = (_, inl (reads_first _ 0x76 (codes "=1") _ refl refl refl refl), (_, inl (equals_value (codes "1") (codes "-v") refl refl refl refl refl), refl));
  asked = more flag flag next _ _ _ refl tt refl (last flag next refl tt);
  items_are = refl;
}

-- `-o`
pub returns-clause-to_a_missing_value : goal.returns-clause-to_a_missing_value
unfolding kind computing
returns-clause-to_a_missing_value c = record {
  calls = next ∷ value ∷ [];
  replies = steps.short 0x6F ∷ steps.missing (Some (codes "-o")) ∷ [];
  after = _;
  run = (_, inl (reads_first _ 0x6F [] _ refl refl refl refl), (_, inl (nothing_to_take refl refl refl refl), refl));
  asked = more flag one next _ _ _ refl tt refl (last one value refl tt);
  items_are = refl;
}

-- `-i v`
pub returns-clause-optional_value : goal.returns-clause-optional_value
unfolding kind computing
returns-clause-optional_value c = record {
  calls = next ∷ calls.optional ∷ next ∷ next ∷ [];
  replies = steps.short 0x69 ∷ steps.maybe None ∷ steps.positional (codes "v") ∷ steps.end ∷ [];
  after = _;
  run = (
    _,
    inl (reads_first _ 0x69 [] _ refl refl refl refl),
    (
      _,
      inl (optional_none refl refl refl),
      (_, inl (reads_plain _ (codes "v") _ refl refl refl refl), (_, inl (next_word refl refl (no_word refl refl refl)), refl)),
    ),
  );
  asked = more flag optional next _ _ _ refl tt refl (more optional flag calls.optional _ _ _ refl tt refl (more flag flag next _ _ _ refl tt refl (last flag next refl tt)));
  items_are = refl;
}

-- `-d1 2`: three values are asked for, and two come
pub returns-clause-several_values : goal.returns-clause-several_values
unfolding kind computing
returns-clause-several_values c = record {
  calls = next ∷ values 3 ∷ next ∷ [];
  replies = steps.short 0x64 ∷ steps.items (codes "1" ∷ codes "2" ∷ []) ∷ steps.end ∷ [];
  after = _;
  run = (
    _,
    inl (reads_first _ 0x64 (codes "1") _ refl refl refl refl),
    (
      _,
      inl (gives_values 3 _ (codes "2" ∷ []) [] (plain_front_is _ [] refl refl) (some _ _)),
      (_, inl (next_word refl refl (no_word refl refl refl)), refl),
    ),
  );
  asked = more flag several next _ _ _ refl tt refl (more several flag (values 3) _ _ _ (3, refl) (omega arith) refl (last flag next refl tt));
  items_are = refl;
}
