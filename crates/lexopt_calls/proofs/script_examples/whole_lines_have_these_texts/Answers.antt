use Rattle.std.proofs.Common.{◌≡◌, true, false, [], ◌∷◌, Some, None, codes, length, refl, sym, ap, inl, true≢false}
use Rattle.lexopt_spec.specs.Steps as steps
use Rattle.lexopt_spec.specs.Steps.{no_word, next_in_cluster, next_word, pending_value, nothing_to_take}
use Rattle.lexopt_spec.specs.Runs.{next, value}
use Rattle.lexopt_line_spec.specs.Table.{flag, one, kind, one_value, short, option}
use Rattle.lexopt_line_spec.specs.Readings.{start, last, more, IsReading}
use Rattle.lexopt_calls.specs.Script.{items_read, line_refused, memory_refused}
use Rattle.lexopt_line_spec.proofs.WholeLines.{said_shows}
use Rattle.lexopt_line_spec.proofs.Computing.{computing}
use Rattle.lexopt_line_spec.proofs.Worked.{differ, reads_first, reads_plain, none_shown, some}
use Rattle.lexopt_calls.proofs.WorkedTexts.{none_written, only_written}
use Rattle.lexopt_calls.proofs.script_examples.whole_lines_have_these_texts.Goals as goal

-- `-ox f`
pub returns-clause-items : goal.returns-clause-items
unfolding kind computing
returns-clause-items c = items_read _ (record {
  calls = next ∷ value ∷ next ∷ next ∷ [];
  replies = steps.short 0x6F ∷ steps.taken (codes "x") ∷ steps.positional (codes "f") ∷ steps.end ∷ [];
  after = _;
  run = (
    _,
    inl (reads_first _ 0x6F (codes "x") _ refl refl refl refl),
    (
      _,
      inl (pending_value (codes "x") false refl refl refl),
      (_, inl (reads_plain _ (codes "f") _ refl refl refl refl), (_, inl (next_word refl refl (no_word refl refl refl)), refl)),
    ),
  );
  asked = more flag one next _ _ _ refl tt refl (more one flag value _ _ _ refl tt refl (more flag flag next _ _ _ refl tt refl (last flag next refl tt)));
  items_are = refl;
}) refl

pub returns-clause-no_words : goal.returns-clause-no_words
returns-clause-no_words c = items_read _ (record {
  calls = next ∷ [];
  replies = steps.end ∷ [];
  after = _;
  run = (_, inl (next_word refl refl (no_word refl refl refl)), refl);
  asked = last flag next refl tt;
  items_are = refl;
}) refl

-- `-o`
pub returns-clause-missing_value : goal.returns-clause-missing_value
unfolding kind computing
returns-clause-missing_value c = line_refused (steps.missing (Some (codes "-o"))) _ (record {
  calls = next ∷ value ∷ [];
  replies = steps.short 0x6F ∷ steps.missing (Some (codes "-o")) ∷ [];
  after = _;
  run = (_, inl (reads_first _ 0x6F [] _ refl refl refl refl), (_, inl (nothing_to_take refl refl refl refl), refl));
  asked = more flag one next _ _ _ refl tt refl (last one value refl tt);
  items_are = refl;
}) (λ is. let e : steps.missing (Some (codes "-o")) ≡ steps.end = is in cc) refl

pub returns-clause-out_of_memory : goal.returns-clause-out_of_memory
returns-clause-out_of_memory c = memory_refused refl

pub returns-clause-no_items_of_an_error : goal.returns-clause-no_items_of_an_error
unfolding kind computing
returns-clause-no_items_of_an_error c = none_written _ _ _ _ (none_shown _ _ _ (next ∷ value ∷ [])
    (steps.short 0x6F ∷ steps.missing (Some (codes "-o")) ∷ []) (steps.missing (Some (codes "-o"))) _
    (_, inl (reads_first _ 0x6F [] [] refl refl refl refl), (_, inl (nothing_to_take refl refl refl refl), refl))
    (more flag one next _ _ _ refl tt refl (last one value refl tt))
    (λ is. let e : steps.missing (Some (codes "-o")) ≡ steps.end = is in cc))
    (differ 0x5B 0x65 refl)

-- `-v`
flag_read : IsReading (one_value (codes "o") (codes "out" ∷ [])) (start true (codes "-v" ∷ [])) steps.end (option (short 0x76) None ∷ [])
unfolding kind computing
flag_read = record {
  calls = next ∷ next ∷ [];
  replies = steps.short 0x76 ∷ steps.end ∷ [];
  after = _;
  run = (_, inl (reads_first _ 0x76 [] _ refl refl refl refl), (_, inl (next_word refl refl (no_word refl refl refl)), refl));
  asked = more flag flag next _ _ _ refl tt refl (last flag next refl tt);
  items_are = refl;
}

pub returns-clause-no_item_left_out : goal.returns-clause-no_item_left_out
unfolding kind computing
returns-clause-no_item_left_out c = only_written _ _ _ _ _ (said_shows _ _ _ _ flag_read)
    (λ is. differ 2 11 refl (ap length is)) (λ is. differ 2 20 refl (ap length is))

pub returns-clause-no_other_error : goal.returns-clause-no_other_error
unfolding kind computing
returns-clause-no_other_error c = only_written _ _ _ _ _ (said_shows _ _ _ _ flag_read)
    (λ is. differ 23 11 refl (ap length is)) (λ is. differ 23 20 refl (ap length is))

-- `-a=`, read by `next` alone
characters_read : IsReading (one_value [] []) (start false (codes "-a=" ∷ [])) steps.end (option (short 0x61) None ∷ option (short 0x3D) None ∷ [])
unfolding kind computing
characters_read = record {
  calls = next ∷ next ∷ next ∷ [];
  replies = steps.short 0x61 ∷ steps.short 0x3D ∷ steps.end ∷ [];
  after = _;
  run = (
    _,
    inl (reads_first _ 0x61 (codes "=") _ refl refl refl refl),
    (
      _,
      inl (next_in_cluster (codes "=") refl (λ h. true≢false (sym h.0)) (record { some = some 0x3D []; reply_is = refl; after_is = refl })),
      (_, inl (next_word refl refl (no_word refl refl refl)), refl),
    ),
  );
  asked = more flag flag next _ _ _ refl tt refl (more flag flag next _ _ _ refl tt refl (last flag next refl tt));
  items_are = refl;
}

pub returns-clause-under_its_setting : goal.returns-clause-under_its_setting
unfolding kind computing
returns-clause-under_its_setting c = only_written _ _ _ _ _ (said_shows _ _ _ _ characters_read)
    (λ is. differ 46 22 refl (ap length is)) (λ is. differ 46 20 refl (ap length is))
