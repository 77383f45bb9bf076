use Rattle.std.proofs.Common.{[], ◌∷◌, None, codes, refl, inl, lit≤}
use Rattle.lexopt_spec.specs.Steps.{next_word, no_word}
use Rattle.lexopt_line_spec.specs.Table as spec
use Rattle.lexopt_line_spec.specs.Table.{short, long, kind}
use Rattle.lexopt_line_spec.specs.Spelling.{nothing, no_value, nothing_more, no_words}
use Rattle.lexopt_line_spec.proofs.Computing.{computing}
use Rattle.lexopt_line_spec.proofs.Worked.{last_of, cluster_line, name_line, reads_first, reads_name}
use Rattle.lexopt_options_spec.specs.Legal.{option}
use Rattle.lexopt_options_spec.specs.Stops.{exclusive_options, not_apart}
use Rattle.lexopt_options_spec.proofs.Fronts.{nothing_parsed}
use Rattle.lexopt_laws.specs.Sample.{exclusive_sample}
use Rattle.lexopt_laws.proofs.AnyWords.{any_taken}
use Rattle.lexopt_laws.proofs.Clashes.{is_first_clash}
use Rattle.lexopt_laws.proofs.Missing.{are_complete}
use Rattle.lexopt_laws.proofs.OneStop.{one_stop}
use Rattle.lexopt_laws.proofs.WorkedMeans.{whole_of}
use Rattle.lexopt_laws.proofs.WorkedStops.{after_flags}
use Rattle.lexopt_laws.proofs.option_examples.lines_have_one_of_these.Goals as goal

pub returns-clause-first : goal.returns-clause-first
unfolding kind computing
returns-clause-first c = whole_of refl (spec.option (short 0x76) None ∷ [])
    (cluster_line (codes "v") _ refl (last_of 0x76 [] nothing _ refl (nothing_more refl refl) (no_value refl refl refl)) no_words) refl (lit≤ tt) (lit≤ tt) refl refl

pub returns-clause-second : goal.returns-clause-second
unfolding kind computing
returns-clause-second c = whole_of refl (spec.option (long (codes "quiet")) None ∷ [])
    (name_line 0x71 (codes "uiet") _ refl (codes "quiet", (refl, refl)) (no_value refl refl refl) no_words) refl (lit≤ tt) (lit≤ tt) refl refl

pub returns-clause-twice : goal.returns-clause-twice
unfolding kind computing
returns-clause-twice c = whole_of refl (spec.option (short 0x76) None ∷ spec.option (short 0x76) None ∷ [])
    (cluster_line (codes "v") _ refl (last_of 0x76 [] nothing _ refl (nothing_more refl refl) (no_value refl refl refl))
    (cluster_line (codes "v") _ refl (last_of 0x76 [] nothing _ refl (nothing_more refl refl) (no_value refl refl refl)) no_words)) refl (lit≤ tt) (lit≤ tt) refl refl

pub returns-clause-both : goal.returns-clause-both
unfolding kind computing
returns-clause-both c = after_flags (short 0x76) (long (codes "quiet")) 0 2 _ _ refl refl refl refl (lit≤ tt) (inl (reads_first _ 0x76 [] (codes "--quiet" ∷ []) refl refl refl refl)) (inl (reads_name _ 0x71 (codes "uiet") [] refl refl refl refl))
    (not_apart 0 2 _ (inl (next_word refl refl (no_word refl refl refl))) (lit≤ tt) (any_taken refl (lit≤ tt)) (are_complete exclusive_sample.options (option 0 None ∷ option 2 None ∷ []) refl) (is_first_clash _ _ 0 2 refl))

pub returns-clause-in_the_other_order : goal.returns-clause-in_the_other_order
unfolding kind computing
returns-clause-in_the_other_order c = after_flags (long (codes "quiet")) (short 0x76) 2 0 _ _ refl refl refl refl (lit≤ tt) (inl (reads_name _ 0x71 (codes "uiet") (codes "-v" ∷ []) refl refl refl refl)) (inl (reads_first _ 0x76 [] [] refl refl refl refl))
    (not_apart 0 2 _ (inl (next_word refl refl (no_word refl refl refl))) (lit≤ tt) (any_taken refl (lit≤ tt)) (are_complete exclusive_sample.options (option 2 None ∷ option 0 None ∷ []) refl) (is_first_clash _ _ 0 2 refl))

pub returns-clause-nothing_meant : goal.returns-clause-nothing_meant
returns-clause-nothing_meant c l means = nothing_parsed _ _ (option 0 None ∷ option 2 None ∷ []) (exclusive_options 0 2) (returns-clause-both c) l means

pub returns-clause-no_other_mistake : goal.returns-clause-no_other_mistake
returns-clause-no_other_mistake c l m stops = one_stop _ _ l (option 0 None ∷ option 2 None ∷ []) m (exclusive_options 0 2) stops (returns-clause-both c)
