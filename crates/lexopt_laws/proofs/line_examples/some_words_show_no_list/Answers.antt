use Rattle.std.proofs.Common.{◌≡◌, true, [], ◌∷◌, Some, codes, refl, inl}
use Rattle.lexopt_spec.specs.Steps as steps
use Rattle.lexopt_spec.specs.Steps.{next_in_cluster, equals_value, joined_value, nothing_to_take}
use Rattle.lexopt_spec.specs.Runs.{next, value, values}
use Rattle.lexopt_line_spec.specs.Table.{flag, one, several, kind}
use Rattle.lexopt_line_spec.specs.Readings.{last, more}
use Rattle.lexopt_line_spec.proofs.Computing.{computing}
use Rattle.lexopt_line_spec.proofs.Worked.{some, not_mark, reads_first, reads_name, reads_joined, misses_values, none_shown}
use Rattle.lexopt_laws.proofs.line_examples.some_words_show_no_list.Goals as goal

-- `-v=1`
pub returns-clause-value_after_a_flag : goal.returns-clause-value_after_a_flag
unfolding kind computing
returns-clause-value_after_a_flag c = none_shown _ _ _ (next ∷ next ∷ [])
    (steps.short 0x76 ∷ steps.unexpected (codes "-v") (codes "1") ∷ []) (steps.unexpected (codes "-v") (codes "1")) _
    (_, inl (reads_first _ 0x76 (codes "=1") [] refl refl refl refl), (_, inl (equals_value (codes "1") (codes "-v") refl refl refl refl refl), refl))
    (more flag flag next _ _ _ refl tt refl (last flag next refl tt))
    (λ is. let e : steps.unexpected (codes "-v") (codes "1") ≡ steps.end = is in cc)

-- `-a=b`
pub returns-clause-value_after_a_first_flag : goal.returns-clause-value_after_a_first_flag
unfolding kind computing
returns-clause-value_after_a_first_flag c = none_shown _ _ _ (next ∷ next ∷ [])
    (steps.short 0x61 ∷ steps.unexpected (codes "-a") (codes "b") ∷ []) (steps.unexpected (codes "-a") (codes "b")) _
    (_, inl (reads_first _ 0x61 (codes "=b") [] refl refl refl refl), (_, inl (equals_value (codes "b") (codes "-a") refl refl refl refl refl), refl))
    (more flag flag next _ _ _ refl tt refl (last flag next refl tt))
    (λ is. let e : steps.unexpected (codes "-a") (codes "b") ≡ steps.end = is in cc)

-- `--=`
pub returns-clause-value_after_a_long_flag : goal.returns-clause-value_after_a_long_flag
unfolding kind computing
returns-clause-value_after_a_long_flag c = none_shown _ _ _ (next ∷ next ∷ [])
    (steps.long [] ∷ steps.unexpected (codes "--") [] ∷ []) (steps.unexpected (codes "--") []) _ (
      _,
      inl (reads_joined _ [] [] [] refl refl refl refl),
      (_, inl (joined_value [] (codes "--") refl refl refl refl), refl),
    )
    (more flag flag next _ _ _ refl tt refl (last flag next refl tt))
    (λ is. let e : steps.unexpected (codes "--") [] ≡ steps.end = is in cc)

-- `--a=b`
pub returns-clause-name_with_equals : goal.returns-clause-name_with_equals
unfolding kind computing
returns-clause-name_with_equals c = none_shown _ _ _ (next ∷ next ∷ [])
    (steps.long (codes "a") ∷ steps.unexpected (codes "--a") (codes "b") ∷ []) (steps.unexpected (codes "--a") (codes "b")) _ (
      _,
      inl (reads_joined _ (codes "a") (codes "b") [] refl refl refl refl),
      (_, inl (joined_value (codes "b") (codes "--a") refl refl refl refl), refl),
    )
    (more flag flag next _ _ _ refl tt refl (last flag next refl tt))
    (λ is. let e : steps.unexpected (codes "--a") (codes "b") ≡ steps.end = is in cc)

-- `-o`
pub returns-clause-no_value : goal.returns-clause-no_value
unfolding kind computing
returns-clause-no_value c = none_shown _ _ _ (next ∷ value ∷ [])
    (steps.short 0x6F ∷ steps.missing (Some (codes "-o")) ∷ []) (steps.missing (Some (codes "-o"))) _
    (_, inl (reads_first _ 0x6F [] [] refl refl refl refl), (_, inl (nothing_to_take refl refl refl refl), refl))
    (more flag one next _ _ _ refl tt refl (last one value refl tt))
    (λ is. let e : steps.missing (Some (codes "-o")) ≡ steps.end = is in cc)

-- `-a-`
pub returns-clause-no_value_of_dash : goal.returns-clause-no_value_of_dash
unfolding kind computing
returns-clause-no_value_of_dash c = none_shown _ _ _ (next ∷ next ∷ value ∷ [])
    (steps.short 0x61 ∷ steps.short 0x2D ∷ steps.missing (Some (codes "--")) ∷ []) (steps.missing (Some (codes "--"))) _ (
      _,
      inl (reads_first _ 0x61 (codes "-") [] refl refl refl refl),
      (
        _,
        inl (next_in_cluster (codes "-") refl (not_mark true (codes "-") refl) (record { some = some _ _; reply_is = refl; after_is = refl })),
        (_, inl (nothing_to_take refl refl refl refl), refl),
      ),
    )
    (more flag flag next _ _ _ refl tt refl (more flag one next _ _ _ refl tt refl (last one value refl tt)))
    (λ is. let e : steps.missing (Some (codes "--")) ≡ steps.end = is in cc)

-- `--cmd -- a`
pub returns-clause-no_plain_word : goal.returns-clause-no_plain_word
unfolding kind computing
returns-clause-no_plain_word c = none_shown _ _ _ (next ∷ values 1 ∷ [])
    (steps.long (codes "cmd") ∷ steps.missing (Some (codes "--cmd")) ∷ []) (steps.missing (Some (codes "--cmd"))) _ (
      _,
      inl (reads_name _ 0x63 (codes "md") (codes "--" ∷ codes "a" ∷ []) refl refl refl refl),
      (_, inl (misses_values 1 _ refl refl), refl),
    )
    (more flag several next _ _ _ refl tt refl (last several (values 1) (1, refl) tt))
    (λ is. let e : steps.missing (Some (codes "--cmd")) ≡ steps.end = is in cc)

-- `-vd`
pub returns-clause-no_word : goal.returns-clause-no_word
unfolding kind computing
returns-clause-no_word c = none_shown _ _ _ (next ∷ next ∷ values 1 ∷ [])
    (steps.short 0x76 ∷ steps.short 0x64 ∷ steps.missing (Some (codes "-d")) ∷ []) (steps.missing (Some (codes "-d"))) _ (
      _,
      inl (reads_first _ 0x76 (codes "d") [] refl refl refl refl),
      (
        _,
        inl (next_in_cluster (codes "d") refl (not_mark true (codes "d") refl) (record { some = some _ _; reply_is = refl; after_is = refl })),
        (_, inl (misses_values 1 _ refl refl), refl),
      ),
    )
    (more flag flag next _ _ _ refl tt refl (more flag several next _ _ _ refl tt refl (last several (values 1) (1, refl) tt)))
    (λ is. let e : steps.missing (Some (codes "-d")) ≡ steps.end = is in cc)
