-- Short lines where an option is required.
use Rattle.std.proofs.Common.{true, [], ◌∷◌, ◌++◌, Some, None, codes, refl, inl, lit<, lit≤}
use Rattle.lexopt_spec.specs.Steps.{next_word, no_word}
use Rattle.lexopt_line_spec.specs.Table as spec
use Rattle.lexopt_line_spec.specs.Table.{short, kind}
use Rattle.lexopt_line_spec.specs.Spelling as lines
use Rattle.lexopt_line_spec.specs.Spelling.{nothing, no_value, nothing_more, no_words, separator}
use Rattle.lexopt_line_spec.proofs.Computing.{computing}
use Rattle.lexopt_line_spec.proofs.Worked.{last_of, cluster_line, reads_first}
use Rattle.lexopt_options_spec.specs.Legal.{Means, option}
use Rattle.lexopt_options_spec.specs.Stops.{StopsAt, missing_argument, missing_option, not_complete, too_few}
use Rattle.lexopt_options_spec.specs.Completion.{AreText, IsOpen}
use Rattle.lexopt_options_spec.proofs.Occurs.{AreNamed}
use Rattle.lexopt_laws.specs.Sample.{demanding_sample, mode, sample_options, user, verbose, output, backup, exclude}
use Rattle.lexopt_laws.proofs.AnyWords.{any_taken}
use Rattle.lexopt_laws.proofs.Missing.{is_first_missing}
use Rattle.lexopt_laws.proofs.WorkedOpen.{all_text, open_of, text_of}
use Rattle.lexopt_laws.proofs.WorkedMeans.{whole_of}
use Rattle.lexopt_laws.proofs.WorkedStops.{after_flag}

-- `-v`
pub lacks_user : StopsAt (demanding_sample [] true) (codes "-v" ∷ []) (option 0 None ∷ []) (missing_option 4)
unfolding kind computing
lacks_user = after_flag (short 0x76) 0 _ refl refl (lit≤ tt) (inl (reads_first _ 0x76 [] [] refl refl refl refl))
    (not_complete 4 _ (inl (next_word refl refl (no_word refl refl refl))) (lit≤ tt) (any_taken refl (lit≤ tt)) (is_first_missing _ _ 4 refl))

-- where a positional is missing too
pub lacks_both : StopsAt (demanding_sample (mode ∷ []) true) (codes "-v" ∷ []) (option 0 None ∷ []) (missing_argument 0)
unfolding kind computing
lacks_both = after_flag (short 0x76) 0 _ refl refl (lit≤ tt) (inl (reads_first _ 0x76 [] [] refl refl refl refl))
    (too_few _ (inl (next_word refl refl (no_word refl refl refl))) (lit< tt))

-- `-u me`
pub has_user : Means (demanding_sample [] true) (codes "-u" ∷ codes "me" ∷ []) (option 4 (Some (codes "me")) ∷ [])
unfolding kind computing
has_user = whole_of refl (spec.option (short 0x75) (Some (codes "me")) ∷ [])
    (cluster_line (codes "u") _ refl (last_of 0x75 [] nothing _ refl (nothing_more refl refl) (lines.next_word (codes "me") refl refl refl)) no_words)
    refl (lit≤ tt) (lit≤ tt) refl refl

-- ---- what can come

pub demanding_text : AreText (sample_options ++ user ∷ [])
unfolding computing
demanding_text = all_text (sample_options ++ user ∷ []) (
  text_of verbose 0x76 (codes "verbose") refl refl refl,
  (
    text_of output 0x6F (codes "output") refl refl refl,
    (
      text_of backup 0x62 (codes "backup") refl refl refl,
      (text_of exclude 0x78 (codes "exclude") refl refl refl, (text_of user 0x75 (codes "user") refl refl refl, tt)),
    ),
  ),
)

pub demanding_named : AreNamed (sample_options ++ user ∷ [])
unfolding computing
demanding_named = ((short 0x76, refl), ((short 0x6F, refl), ((short 0x62, refl), ((short 0x78, refl), ((short 0x75, refl), tt)))))

-- `-v`
pub open_without_user : IsOpen (demanding_sample [] true) (codes "-v" ∷ []) (option 0 None ∷ [])
unfolding kind computing
open_without_user = open_of (spec.option (short 0x76) None ∷ []) (cluster_line (codes "v") _ refl (last_of 0x76 [] nothing _ refl (nothing_more refl refl) (no_value refl refl refl)) no_words)
    (cluster_line (codes "v") _ refl (last_of 0x76 [] nothing _ refl (nothing_more refl refl) (no_value refl refl refl)) (separator [])) refl (lit≤ tt)

pub open_before_both : IsOpen (demanding_sample (mode ∷ []) true) [] []
open_before_both = open_of [] no_words (separator []) refl (lit≤ tt)
