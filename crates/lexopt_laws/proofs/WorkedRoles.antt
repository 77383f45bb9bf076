-- What a word is after short lines.
use Rattle.std.proofs.Common.{◌≡◌, ℕ, true, false, ◌&&◌, not, map, List, [], ◌∷◌, ◌++◌, Some, None, codes, length, refl, ap, arith, sym, ◌∙◌, inl, lit≤}
use Rattle.std.proofs.lemmas.Bool.{false≢true}
use Rattle.lexopt_spec.specs.UnreadLine.{dash, BeginsWith}
use Rattle.lexopt_spec.specs.Steps.{nothing_to_take, joined_value}
use Rattle.lexopt_spec.specs.Runs.{value, values}
use Rattle.lexopt_spec.specs.UnreadLine.{no_tail}
use Rattle.lexopt_spec.proofs.PlainFronts.{plain_passes}
use Rattle.lexopt_line_spec.specs.Table as spec
use Rattle.lexopt_line_spec.specs.Table.{Item, short, long, kind}
use Rattle.lexopt_line_spec.specs.Spelling as lines
use Rattle.lexopt_line_spec.specs.Spelling.{nothing, no_value, no_optional, several_words, nothing_more, no_words, plain_word, separator, Spells}
use Rattle.lexopt_line_spec.proofs.Computing.{computing}
use Rattle.lexopt_line_spec.proofs.SpellerRows.{plain_off}
use Rattle.lexopt_line_spec.proofs.Worked.{last_of, flag_of, value_after, cluster_line, joined_line, plain_line, plain_front_is, some, stops, reads_first, reads_joined, misses_values}
use Rattle.lexopt_options_spec.specs.Declaration.{Declaration, Positional, table}
use Rattle.lexopt_options_spec.specs.Legal.{Parsed, MeansFront, IsWithin, most, parsed_item, positional_count, positional_words, option, several, positional}
use Rattle.lexopt_options_spec.specs.Stops.{StopsAt, unknown_option, missing_value, unexpected_value, not_declared, value_of_flag}
use Rattle.lexopt_options_spec.specs.Stops as stop
use Rattle.lexopt_options_spec.specs.Completion.{HasRole, IsOpen, IsOption, JoinsValue, value_of}
use Rattle.lexopt_options_spec.specs.States.{State, anything, due, first, further, ended, Says, Leaves, leaves_anything, leaves_due, leaves_first, leaves_further, leaves_ended, LeadsNowhere, role_in}
use Rattle.lexopt_options_spec.proofs.States.{never_open, role_there}
use Rattle.lexopt_options_spec.proofs.Lists.{same_last as one_last}
use Rattle.std.specs.Str.{IsUtf8}
use Rattle.lexopt_options_spec.proofs.Fronts.{comes_to, no_front, one_front}
use Rattle.lexopt_laws.specs.Sample.{sample, files}
use Rattle.lexopt_laws.proofs.WorkedMeans.{front_of}
use Rattle.lexopt_laws.proofs.WorkedStops.{at_first, after_flag}

-- ---- what the next word is

says_of : {d : Declaration} {words : List (List ℕ)} {l : List Parsed} (items : List Item) → Spells (table d.options) d.short_equals words items → map (parsed_item d.options) items ≡ map (λ s. Some s) l → Says d words l
says_of items spelled parsed = record { items = items; spelled = spelled; parsed = parsed }

-- `-v`
pub flag_leaves : (positionals : List Positional) → Leaves (sample positionals true) (codes "-v" ∷ []) (option 0 None ∷ []) anything
unfolding kind computing
flag_leaves positionals = leaves_anything
    (record {
      says = says_of (spec.option (short 0x76) None ∷ []) (cluster_line (codes "v") _ refl (last_of 0x76 [] nothing _ refl (nothing_more refl refl) (no_value refl refl refl)) no_words) refl;
      with_separator = says_of (spec.option (short 0x76) None ∷ [])
          (cluster_line (codes "v") _ refl (last_of 0x76 [] nothing _ refl (nothing_more refl refl) (no_value refl refl refl)) (separator [])) refl;
    })
    (λ w plain. says_of (spec.option (short 0x76) None ∷ spec.positional w ∷ [])
    (cluster_line (codes "v") _ refl (last_of 0x76 [] nothing _ refl (nothing_more refl refl) (no_value refl refl refl)) (plain_word w [] [] plain no_words)) refl)

-- `a`
pub positional_leaves : Leaves (sample (files ∷ []) true) (codes "a" ∷ []) (positional (codes "a") ∷ []) anything
positional_leaves = leaves_anything
    (record {
      says = says_of (spec.positional (codes "a") ∷ []) (plain_line (codes "a") refl no_words) refl;
      with_separator = says_of (spec.positional (codes "a") ∷ []) (plain_line (codes "a") refl (separator [])) refl;
    })
    (λ w plain. says_of (spec.positional (codes "a") ∷ spec.positional w ∷ []) (plain_line (codes "a") refl (plain_word w [] [] plain no_words)) refl)

-- `-b`
pub optional_leaves : Leaves (sample (files ∷ []) true) (codes "-b" ∷ []) (option 2 None ∷ []) anything
unfolding kind computing
optional_leaves = leaves_anything
    (record {
      says = says_of (spec.option (short 0x62) None ∷ []) (cluster_line (codes "b") _ refl (last_of 0x62 [] nothing _ refl (nothing_more refl refl) (no_optional refl refl refl)) no_words) refl;
      with_separator = says_of (spec.option (short 0x62) None ∷ [])
          (cluster_line (codes "b") _ refl (last_of 0x62 [] nothing _ refl (nothing_more refl refl) (no_optional refl refl refl)) (separator [])) refl;
    })
    (λ w plain. says_of (spec.option (short 0x62) None ∷ spec.positional w ∷ [])
    (cluster_line (codes "b") _ refl (last_of 0x62 [] nothing _ refl (nothing_more refl refl) (no_optional refl refl refl)) (plain_word w [] [] plain no_words)) refl)

-- `-o`
pub means_no_value : (l : List Parsed) → MeansFront (sample [] true) (codes "-o" ∷ []) l → ⊥
unfolding kind computing
means_no_value l means =
    let stops : StopsAt (sample [] true) (codes "-o" ∷ []) [] (missing_value 1 (codes "-o")) =
    at_first (stop.no_value (short 0x6F) 1 (codes "-o") value _ _ (inl (reads_first _ 0x6F [] [] refl refl refl refl)) refl refl (inl (nothing_to_take refl refl refl refl))) in
    no_front _ _ [] (missing_value 1 (codes "-o")) (comes_to stops) tt l means

pub value_leaves : Leaves (sample [] true) (codes "-o" ∷ []) [] (due 1)
unfolding kind computing
value_leaves = leaves_due 1 means_no_value
    (λ w. says_of (spec.option (short 0x6F) (Some w) ∷ [])
    (cluster_line (codes "o") _ refl (last_of 0x6F [] nothing _ refl (nothing_more refl refl) (lines.next_word w refl refl refl)) no_words) refl)

-- `-x`
means_no_values : (more : List (List ℕ)) → stops false more ≡ true → (l : List Parsed) → MeansFront (sample [] true) (codes "-x" ∷ more) l → ⊥
unfolding kind computing
means_no_values more stop_there l means =
    let stops : StopsAt (sample [] true) (codes "-x" ∷ more) [] (missing_value 3 (codes "-x")) =
    at_first (stop.no_value (short 0x78) 3 (codes "-x") (values 1) _ _ (inl (reads_first _ 0x78 [] more refl refl refl refl)) refl (1, refl) (inl (misses_values 1 _ refl stop_there))) in
    no_front _ _ [] (missing_value 3 (codes "-x")) (comes_to stops) tt l means

pub several_leaves : Leaves (sample [] true) (codes "-x" ∷ []) [] (first 3)
unfolding kind computing
several_leaves = leaves_first 3 (means_no_values [] refl)
    (λ w plain. says_of (spec.many (short 0x78) (w ∷ []) ∷ [])
    (cluster_line (codes "x") _ refl
    (last_of 0x78 [] nothing _ refl (nothing_more refl refl)
    (several_words (w ∷ []) refl (plain_front_is _ [] (ap (λ b. b && true) (plain_passes false w plain)) refl) (some _ _) refl)) no_words) refl)
    (λ w m other. means_no_values (w ∷ []) (ap not (plain_off w other)) m)

-- `-x a`
pub values_leave : Leaves (sample [] true) (codes "-x" ∷ codes "a" ∷ []) (several 3 (codes "a" ∷ []) ∷ []) (further 3)
unfolding kind computing
values_leave = leaves_further 3 [] (codes "a" ∷ []) refl
    (record {
      says = says_of (spec.many (short 0x78) (codes "a" ∷ []) ∷ [])
          (cluster_line (codes "x") _ refl (last_of 0x78 [] nothing _ refl (nothing_more refl refl) (several_words (codes "a" ∷ []) refl (plain_front_is _ [] refl refl) (some _ _) refl)) no_words) refl;
      with_separator = says_of (spec.many (short 0x78) (codes "a" ∷ []) ∷ [])
          (cluster_line (codes "x") _ refl
          (last_of 0x78 [] nothing _ refl (nothing_more refl refl) (several_words (codes "a" ∷ []) refl (plain_front_is _ (codes "--" ∷ []) refl refl) (some _ _) refl)) (separator [])) refl;
    })
    (λ w plain. says_of (spec.many (short 0x78) (codes "a" ∷ w ∷ []) ∷ [])
    (cluster_line (codes "x") _ refl
    (last_of 0x78 [] nothing _ refl (nothing_more refl refl)
    (several_words (codes "a" ∷ w ∷ []) refl (plain_front_is _ [] (ap (λ b. b && true) (plain_passes false w plain)) refl) (some _ _) refl)) no_words) refl)

-- `--`
pub separator_leaves : Leaves (sample (files ∷ []) true) (codes "--" ∷ []) [] ended
separator_leaves = leaves_ended (says_of [] (separator []) refl) (λ w. says_of (spec.positional w ∷ []) (separator (w ∷ [])) refl)

pub closed : (l : List Parsed) → IsOpen (sample (files ∷ []) true) (codes "--" ∷ []) l → ⊥
closed = never_open (sample (files ∷ []) true) (codes "--" ∷ []) [] ended separator_leaves refl

-- `-z`, whatever comes after it
no_unknown : (more : List (List ℕ)) (l : List Parsed) → MeansFront (sample (files ∷ []) true) (codes "-z" ∷ more) l → ⊥
unfolding kind computing
no_unknown more l means =
    let stops : StopsAt (sample (files ∷ []) true) (codes "-z" ∷ more) [] (unknown_option (short 0x7A) no_tail) =
    at_first (not_declared (short 0x7A) _ (inl (reads_first _ 0x7A [] more refl refl refl refl)) refl) in
    no_front _ _ [] (unknown_option (short 0x7A) no_tail) (comes_to stops) tt l means

pub unknown_nowhere : LeadsNowhere (sample (files ∷ []) true) (codes "-z" ∷ [])
unknown_nowhere = record { here = no_unknown []; with_more = λ w. no_unknown (w ∷ []) }

-- where no dash was typed first
pub plain_role : {d : Declaration} {words : List (List ℕ)} {l : List Parsed} {s : State} (typed : List ℕ) → ¬ BeginsWith dash typed → Leaves d words l s → IsWithin (positional_count l) (most d.positionals)
    → HasRole d words typed (role_in d.positionals (positional_words l) false s)
plain_role {d} {words} {l} {s} typed undashed = role_there d words typed l s false (λ is. absurd (false≢true is), λ begins. absurd (undashed begins))

-- where one was
pub dashed_role : {d : Declaration} {words : List (List ℕ)} {l : List Parsed} {s : State} (typed : List ℕ) → BeginsWith dash typed → Leaves d words l s → IsWithin (positional_count l) (most d.positionals)
    → HasRole d words typed (role_in d.positionals (positional_words l) true s)
dashed_role {d} {words} {l} {s} typed dashed = role_there d words typed l s true (λ is. dashed, λ begins. refl)

-- ---- values in the word of their option

pub output_means : MeansFront (sample [] true) (codes "--output=fi" ∷ []) (option 1 (Some (codes "fi")) ∷ [])
unfolding kind computing
output_means = front_of (spec.option (long (codes "output")) (Some (codes "fi")) ∷ [])
    (joined_line (codes "output") (codes "fi") _ refl (codes "output", (refl, refl)) (lines.joined_value (codes "fi") refl refl refl) no_words) refl (lit≤ tt)

pub verbose_means_nothing : (l : List Parsed) → MeansFront (sample [] true) (codes "--verbose=fi" ∷ []) l → ⊥
unfolding kind computing
verbose_means_nothing l means =
    let stops : StopsAt (sample [] true) (codes "--verbose=fi" ∷ []) (option 0 None ∷ []) (unexpected_value (codes "--verbose") (codes "fi")) =
    after_flag (long (codes "verbose")) 0 _ refl refl (lit≤ tt) (inl (reads_joined _ (codes "verbose") (codes "fi") [] refl refl refl refl))
    (value_of_flag (codes "--verbose") (codes "fi") _ (inl (joined_value (codes "fi") (codes "--verbose") refl refl refl refl))) in
    no_front _ _ (option 0 None ∷ []) (unexpected_value (codes "--verbose") (codes "fi")) (comes_to stops) tt l means

-- `-vofi`, `-o=fi` under both settings, `-xa` and `-b`
pub cluster_means : MeansFront (sample [] true) (codes "-vofi" ∷ []) (option 0 None ∷ option 1 (Some (codes "fi")) ∷ [])
unfolding kind computing
cluster_means = front_of (spec.option (short 0x76) None ∷ spec.option (short 0x6F) (Some (codes "fi")) ∷ [])
    (cluster_line (codes "vofi") _ refl
    (flag_of 0x76 (codes "ofi") refl refl refl (last_of 0x6F (codes "fi") (lines.attached (codes "fi")) _ refl (value_after 0x66 (codes "i") refl) (lines.attached_value (codes "fi") refl refl refl))) no_words) refl (lit≤ tt)

pub sign_means : MeansFront (sample [] true) (codes "-o=fi" ∷ []) (option 1 (Some (codes "fi")) ∷ [])
unfolding kind computing
sign_means = front_of (spec.option (short 0x6F) (Some (codes "fi")) ∷ [])
    (cluster_line (codes "o=fi") _ refl (last_of 0x6F (codes "=fi") (lines.joined (codes "fi")) _ refl (lines.marked_value (codes "fi") refl refl refl) (lines.joined_value (codes "fi") refl refl refl)) no_words) refl (lit≤ tt)

pub setting_means : MeansFront (sample [] false) (codes "-o=fi" ∷ []) (option 1 (Some (codes "=fi")) ∷ [])
unfolding kind computing
setting_means = front_of (spec.option (short 0x6F) (Some (codes "=fi")) ∷ [])
    (cluster_line (codes "o=fi") _ refl (last_of 0x6F (codes "=fi") (lines.attached (codes "=fi")) _ refl (value_after 0x3D (codes "fi") refl) (lines.attached_value (codes "=fi") refl refl refl)) no_words) refl (lit≤ tt)

pub several_means : MeansFront (sample [] true) (codes "-xa" ∷ []) (several 3 (codes "a" ∷ []) ∷ [])
unfolding kind computing
several_means = front_of (spec.many (short 0x78) (codes "a" ∷ []) ∷ [])
    (cluster_line (codes "xa") _ refl (last_of 0x78 (codes "a") (lines.attached (codes "a")) _ refl (value_after 0x61 [] refl) (lines.attached_several (codes "a") [] refl (plain_front_is _ [] refl refl) refl)) no_words) refl (lit≤ tt)

pub alone_means : MeansFront (sample [] true) (codes "-b" ∷ []) (option 2 None ∷ [])
unfolding kind computing
alone_means = front_of (spec.option (short 0x62) None ∷ []) (cluster_line (codes "b") _ refl (last_of 0x62 [] nothing _ refl (nothing_more refl refl) (no_optional refl refl refl)) no_words) refl (lit≤ tt)

-- an option with a value in one word
pub joins : {d : Declaration} {words : List (List ℕ)} {typed : List ℕ} {parsed : List Parsed} {i : ℕ} → IsOpen d words parsed → (others : List Parsed) (last : Parsed) → MeansFront d (typed ∷ []) (others ++ last ∷ []) → IsOption i last
    → (before v : List ℕ) → value_of last ≡ Some v → typed ≡ before ++ v → IsUtf8 before → JoinsValue d words typed i before
joins {parsed = parsed} is_open others last means is before v has apart text = record {
  parsed = parsed;
  is_open = is_open;
  others = others;
  last = last;
  word_means = means;
  is = is;
  value = v;
  has_value = has;
  apart = apart;
  text = text;
}

-- the last option and its value, where `--output=fi` is typed
pub output_last : {words : List (List ℕ)} {i : ℕ} {before : List ℕ} → (is : JoinsValue (sample [] true) words (codes "--output=fi") i before) → (is.last ≡ option 1 (Some (codes "fi"))) × (is.value ≡ codes "fi")
output_last is =
    let last = (one_last is.others [] is.last (option 1 (Some (codes "fi"))) (one_front _ _ (is.others ++ is.last ∷ []) (option 1 (Some (codes "fi")) ∷ []) is.word_means output_means)).1 in
    let e : Some is.value ≡ Some (codes "fi") = sym is.has_value ∙ ap value_of last in
    let same : is.value ≡ codes "fi" = cc in (last, same)

pub no_shorter_value : {words : List (List ℕ)} {i : ℕ} → JoinsValue (sample [] true) words (codes "--output=fi") i (codes "--output=f") → ⊥
no_shorter_value is =
    let e : codes "--output=fi" ≡ codes "--output=f" ++ codes "fi" = is.apart ∙ ap (λ v. codes "--output=f" ++ v) (output_last is).1 in
    let lengths : length (codes "--output=fi") ≡ length (codes "--output=f" ++ codes "fi") = ap (λ l. length l) e in absurd (omega (arith, lengths))

pub no_value_there : {words : List (List ℕ)} {i : ℕ} {before : List ℕ} → JoinsValue (sample [] true) words (codes "-b") i before → ⊥
no_value_there is =
    let last = (one_last is.others [] is.last (option 2 None) (one_front _ _ (is.others ++ is.last ∷ []) (option 2 None ∷ []) is.word_means alone_means)).1 in
    let e : Some is.value ≡ None = sym is.has_value ∙ ap value_of last in cc
