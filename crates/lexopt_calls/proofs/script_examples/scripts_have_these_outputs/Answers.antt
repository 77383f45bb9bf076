use Rattle.std.proofs.Common.{◌≡◌, false, [], ◌∷◌, codes, length, refl, ap, inl, None, Some, true≢false, sym}
use Rattle.lexopt_spec.specs.Steps as steps
use Rattle.lexopt_spec.specs.Steps.{equals_value, no_word, next_in_cluster, next_word, pending_value}
use Rattle.lexopt_spec.specs.Runs.{next, value}
use Rattle.lexopt_line_spec.specs.Table.{flag, kind, one, one_value, option, positional, short}
use Rattle.lexopt_line_spec.specs.Readings.{last, more}
use Rattle.lexopt_calls.specs.Script.{bad_line, items_read, line_refused, memory_refused}
use Rattle.lexopt_line_spec.proofs.Computing.{computing}
use Rattle.lexopt_line_spec.proofs.Worked.{differ, reads_first, reads_plain, some}
use Rattle.lexopt_calls.proofs.WorkedTexts.{is_bad_line, one_end}
use Rattle.lexopt_calls.proofs.script_examples.scripts_have_these_outputs.Goals as goal

pub returns-clause-replies : goal.returns-clause-replies
unfolding computing
returns-clause-replies c = record {
  no_bad_line = refl;
  replies = steps.short 0x78 ∷ steps.end ∷ [];
  after = _;
  run = (_, inl (reads_first _ 0x78 [] _ refl refl refl refl), (_, inl (next_word refl refl (no_word refl refl refl)), refl));
  written = (codes "None\n", ([], refl, refl), refl);
}

pub returns-clause-whole_line : goal.returns-clause-whole_line
unfolding computing
returns-clause-whole_line c = record {
  no_bad_line = refl;
  replies = [];
  after = _;
  run = refl;
  written = (
    codes "[Value \"a\"]",
    [],
    items_read (positional (codes "a") ∷ []) (record {
      calls = next ∷ next ∷ [];
      replies = steps.positional (codes "a") ∷ steps.end ∷ [];
      after = _;
      run = (_, inl (reads_plain _ (codes "a") _ refl refl refl refl), (_, inl (next_word refl refl (no_word refl refl refl)), refl));
      asked = more flag flag next _ _ _ refl tt refl (last flag next refl tt);
      items_are = refl;
    }) refl,
    refl,
    refl,
  );
}

-- `-a=`, read by `next` alone
pub returns-clause-off_for_a_whole_line : goal.returns-clause-off_for_a_whole_line
unfolding kind computing
returns-clause-off_for_a_whole_line c = record {
  no_bad_line = refl;
  replies = steps.done ∷ [];
  after = _;
  run = (_, inl (record { reply_is = refl; after_is = refl }), refl);
  written = (
    codes "[Short \"a\", Short \"=\"]\n",
    (
      codes "[Short \"a\", Short \"=\"]",
      [],
      items_read (option (short 0x61) None ∷ option (short 0x3D) None ∷ []) (record {
        calls = next ∷ next ∷ next ∷ [];
        replies = steps.short 0x61 ∷ steps.short 0x3D ∷ steps.end ∷ [];
        after = _;
        run = (
          _,
          inl (reads_first _ 0x61 (codes "=") _ refl refl refl refl),
          (
            _,
            inl (next_in_cluster (codes "=") refl (λ h. true≢false (sym h.0)) (record { some = some 0x3D []; reply_is = refl; after_is = refl })),
            (_, inl (next_word refl refl (no_word refl refl refl)), refl),
          ),
        );
        asked = more flag flag next _ _ _ refl tt refl (more flag flag next _ _ _ refl tt refl (last flag next refl tt));
        items_are = refl;
      }) refl,
      refl,
      refl,
    ),
    refl,
  );
}

-- `-a=b`
pub returns-clause-on_at_the_start : goal.returns-clause-on_at_the_start
unfolding kind computing
returns-clause-on_at_the_start c = record {
  no_bad_line = refl;
  replies = [];
  after = _;
  run = refl;
  written = (
    codes "error: unexpected argument for option '-a': \"b\"",
    [],
    line_refused (steps.unexpected (codes "-a") (codes "b")) (option (short 0x61) None ∷ []) (record {
      calls = next ∷ next ∷ [];
      replies = steps.short 0x61 ∷ steps.unexpected (codes "-a") (codes "b") ∷ [];
      after = _;
      run = (
        _,
        inl (reads_first _ 0x61 (codes "=b") _ refl refl refl refl),
        (_, inl (equals_value (codes "b") (codes "-a") refl refl refl refl refl), refl),
      );
      asked = more flag flag next _ _ _ refl tt refl (last flag next refl tt);
      items_are = refl;
    }) (λ is. let e : steps.unexpected (codes "-a") (codes "b") ≡ steps.end = is in cc) refl,
    refl,
    refl,
  );
}

-- `-ox`, where o has a value
pub returns-clause-with_its_table : goal.returns-clause-with_its_table
unfolding kind computing
returns-clause-with_its_table c = record {
  no_bad_line = refl;
  replies = [];
  after = _;
  run = refl;
  written = (
    codes "[Short \"o\" = \"x\"]",
    [],
    items_read (option (short 0x6F) (Some (codes "x")) ∷ []) (record {
      calls = next ∷ value ∷ next ∷ [];
      replies = steps.short 0x6F ∷ steps.taken (codes "x") ∷ steps.end ∷ [];
      after = _;
      run = (
        _,
        inl (reads_first _ 0x6F (codes "x") _ refl refl refl refl),
        (
          _,
          inl (pending_value (codes "x") false refl refl refl),
          (_, inl (next_word refl refl (no_word refl refl refl)), refl),
        ),
      );
      asked = more flag one next _ _ _ refl tt refl (more one flag value _ _ _ refl tt refl (last flag next refl tt));
      items_are = refl;
    }) refl,
    refl,
    refl,
  );
}

pub returns-clause-out_of_memory : goal.returns-clause-out_of_memory
unfolding computing
returns-clause-out_of_memory c = record {
  no_bad_line = refl;
  replies = [];
  after = _;
  run = refl;
  written = (codes "error: out of memory", [], memory_refused refl, refl, refl);
}

pub returns-clause-no_output_of_a_bad_line : goal.returns-clause-no_output_of_a_bad_line
unfolding computing
returns-clause-no_output_of_a_bad_line c = λ text output. is_bad_line 2 (bad_line (codes "w a\nnex")) refl output.no_bad_line

pub returns-clause-no_line_left_out : goal.returns-clause-no_line_left_out
unfolding computing
returns-clause-no_line_left_out c = λ output. differ 0 5 refl (ap length (one_end (one_value [] []) [] output.replies output.after output.run output.written))

pub returns-clause-no_other_reply : goal.returns-clause-no_other_reply
unfolding computing
returns-clause-no_other_reply c = λ output. differ 3 5 refl (ap length (one_end (one_value [] []) (codes "ok\n") output.replies output.after output.run output.written))
