-- Short lines where an option does not accept a value.
use Rattle.std.proofs.Common.{◌≡◌, ◌<◌, ℕ, true, List, [], ◌∷◌, length, Some, arith, refl, inl, codes, lit≤}
use Rattle.std.proofs.lemmas.Bool.{eq-eqb}
use Rattle.lexopt_spec.specs.UnreadLine.{UnreadLine, IsLine}
use Rattle.lexopt_spec.specs.Steps as steps
use Rattle.lexopt_spec.specs.Steps.{Next, Value, next_word, no_word, pending_value}
use Rattle.lexopt_spec.specs.Runs as calls
use Rattle.lexopt_spec.specs.Runs.{next, value, values, Step}
use Rattle.lexopt_line_spec.specs.Table as spec
use Rattle.lexopt_line_spec.specs.Table.{Name, short, long, one, kind}
use Rattle.lexopt_line_spec.specs.Readings.{first_one, first_optional, first_several, option_reply}
use Rattle.lexopt_line_spec.specs.Spelling as lines
use Rattle.lexopt_line_spec.specs.Spelling.{no_words}
use Rattle.lexopt_line_spec.proofs.Computing.{computing}
use Rattle.lexopt_line_spec.proofs.RunAccounts.{step_line}
use Rattle.lexopt_line_spec.proofs.Worked.{cluster_line, gives_values, joined_line, last_of, plain_front_is, reads_first, reads_joined, reads_name, some, value_after}
use Rattle.lexopt_options_spec.specs.Asking.{AskFor}
use Rattle.lexopt_options_spec.specs.Declaration.{Declaration, for_help, table}
use Rattle.lexopt_options_spec.specs.Legal.{Parsed, Means, MeansFront, option, several, parsed_item, most, IsWithin, refused_value}
use Rattle.lexopt_options_spec.specs.Stops.{ReadsUpTo, Stops, StopsAt, invalid_value, not_accepted}
use Rattle.lexopt_laws.specs.Sample.{listed_mode, listed_sample, mode, sample, user}
use Rattle.lexopt_laws.proofs.SomeAnswer.{one_read}
use Rattle.lexopt_laws.proofs.WorkedAsking.{asks_then}
use Rattle.lexopt_laws.proofs.WorkedMeans.{front_of, whole_of}
use Rattle.lexopt_laws.proofs.WorkedStops.{at_first}

-- an option and its value
pub reads_value : {d : Declaration} {u : UnreadLine} (name : Name) (i : ℕ) (word : List ℕ) (v w : UnreadLine) → IsLine u → kind (table d.options) name ≡ one
    → parsed_item d.options (spec.option name (Some word)) ≡ Some (option i (Some word)) → IsWithin 0 (most d.positionals) → Next u (option_reply name) v → Value v (steps.taken word) w
    → ReadsUpTo d u (option i (Some word) ∷ []) w
reads_value {d = d} {u = u} name i word v w line k parsed within step takes =
    one_read d u w (spec.option name (Some word)) (option i (Some word)) line
    (first_one name word v w k step takes)
    (step_line value v (steps.taken word) w (step_line next u (option_reply name) v line step) takes) parsed within

-- ---- a value that is not accepted

-- of an option of one value
pub refuses_one : {d : Declaration} {l : List Parsed} {u : UnreadLine} (name : Name) (i : ℕ) (word : List ℕ) (v w : UnreadLine) → IsLine u → kind (table d.options) name ≡ one
    → parsed_item d.options (spec.option name (Some word)) ≡ Some (option i (Some word)) → IsWithin 0 (most d.positionals) → refused_value d.options (option i (Some word)) ≡ Some word
    → Next u (option_reply name) v → Value v (steps.taken word) w → Stops d l u (invalid_value i word)
refuses_one name i word v w line k parsed within refused step takes =
    not_accepted (option i (Some word)) i word w (reads_value name i word v w line k parsed within step takes) (eq-eqb i i refl) refused

-- of one value or none
pub refuses_optional : {d : Declaration} {l : List Parsed} {u : UnreadLine} (name : Name) (i : ℕ) (word : List ℕ) (v w : UnreadLine) → IsLine u → kind (table d.options) name ≡ spec.optional
    → parsed_item d.options (spec.option name (Some word)) ≡ Some (option i (Some word)) → IsWithin 0 (most d.positionals) → refused_value d.options (option i (Some word)) ≡ Some word
    → Next u (option_reply name) v → Step calls.optional v (steps.maybe (Some word)) w → Stops d l u (invalid_value i word)
refuses_optional {d = d} {u = u} name i word v w line k parsed within refused step takes =
    not_accepted (option i (Some word)) i word w
    (one_read d u w (spec.option name (Some word)) (option i (Some word)) line
    (first_optional name (Some word) v w k step takes)
    (step_line calls.optional v (steps.maybe (Some word)) w (step_line next u (option_reply name) v line step) takes) parsed within)
    (eq-eqb i i refl) refused

-- of several values
pub refuses_several : {d : Declaration} {l : List Parsed} {u : UnreadLine} (name : Name) (i n : ℕ) (word : List ℕ) (came : List (List ℕ)) (v w : UnreadLine) → IsLine u
    → kind (table d.options) name ≡ spec.several → parsed_item d.options (spec.many name came) ≡ Some (several i came) → IsWithin 0 (most d.positionals)
    → refused_value d.options (several i came) ≡ Some word → length came < n → Next u (option_reply name) v → Step (values n) v (steps.items came) w → Stops d l u (invalid_value i word)
refuses_several {d = d} {u = u} name i n word came v w line k parsed within refused full step takes =
    not_accepted (several i came) i word w
    (one_read d u w (spec.many name came) (several i came) line
    (first_several name n came v w k step full takes)
    (step_line (values n) v (steps.items came) w (step_line next u (option_reply name) v line step) takes) parsed within)
    (eq-eqb i i refl) refused

-- ---- lines

-- `-mmedium`
pub attached_medium : StopsAt (listed_sample [] true) (codes "-mmedium" ∷ []) [] (invalid_value 1 (codes "medium"))
unfolding kind computing
attached_medium = at_first (refuses_one (short 0x6D) 1 (codes "medium") _ _ tt refl refl (lit≤ tt) refl (inl (reads_first _ 0x6D (codes "medium") [] refl refl refl refl))
    (inl (pending_value (codes "medium") _ refl refl refl)))

pub front_medium : MeansFront (listed_sample [] true) (codes "-mmedium" ∷ []) (option 1 (Some (codes "medium")) ∷ [])
unfolding kind computing
front_medium = front_of (spec.option (short 0x6D) (Some (codes "medium")) ∷ [])
    (cluster_line (codes "mmedium") _ refl
    (last_of 0x6D (codes "medium") (lines.attached (codes "medium")) _ refl (value_after 0x6D (codes "edium") refl) (lines.attached_value (codes "medium") refl refl refl)) no_words)
    refl (lit≤ tt)

-- `--mode=fas`
pub front_of_fast : StopsAt (listed_sample [] true) (codes "--mode=fas" ∷ []) [] (invalid_value 1 (codes "fas"))
unfolding kind computing
front_of_fast = at_first (refuses_one (long (codes "mode")) 1 (codes "fas") _ _ tt refl refl (lit≤ tt) refl (inl (reads_joined _ (codes "mode") (codes "fas") [] refl refl refl refl))
    (inl (pending_value (codes "fas") _ refl refl refl)))

-- `-x a b d`
pub second_of_three : StopsAt (listed_sample [] true) (codes "-x" ∷ codes "a" ∷ codes "b" ∷ codes "d" ∷ []) [] (invalid_value 3 (codes "b"))
unfolding kind computing
second_of_three =
    at_first (refuses_several (short 0x78) 3 4 (codes "b") (codes "a" ∷ codes "b" ∷ codes "d" ∷ []) _ _ tt refl refl (lit≤ tt) refl (omega arith)
    (inl (reads_first _ 0x78 [] (codes "a" ∷ codes "b" ∷ codes "d" ∷ []) refl refl refl refl))
    (inl (gives_values 4 _ (codes "a" ∷ codes "b" ∷ codes "d" ∷ []) [] (plain_front_is _ [] refl refl) (some _ _))))

-- `--mode=medium --help`
pub value_before_the_help : StopsAt (listed_sample [] true) (codes "--mode=medium" ∷ codes "--help" ∷ []) [] (invalid_value 1 (codes "medium"))
unfolding kind computing
value_before_the_help = at_first (refuses_one (long (codes "mode")) 1 (codes "medium") _ _ tt refl refl (lit≤ tt) refl
    (inl (reads_joined _ (codes "mode") (codes "medium") (codes "--help" ∷ []) refl refl refl refl)) (inl (pending_value (codes "medium") _ refl refl refl)))

-- `--mode=medium`, where an option is missing
pub option_missing : StopsAt (record (sample [] true) { options = listed_mode ∷ user ∷ [] }) (codes "--mode=medium" ∷ []) [] (invalid_value 0 (codes "medium"))
unfolding kind computing
option_missing = at_first (refuses_one (long (codes "mode")) 0 (codes "medium") _ _ tt refl refl (lit≤ tt) refl
    (inl (reads_joined _ (codes "mode") (codes "medium") [] refl refl refl refl)) (inl (pending_value (codes "medium") _ refl refl refl)))

-- and where a positional is
pub argument_missing : StopsAt (listed_sample (mode ∷ []) true) (codes "--mode=medium" ∷ []) [] (invalid_value 1 (codes "medium"))
unfolding kind computing
argument_missing = at_first (refuses_one (long (codes "mode")) 1 (codes "medium") _ _ tt refl refl (lit≤ tt) refl
    (inl (reads_joined _ (codes "mode") (codes "medium") [] refl refl refl refl)) (inl (pending_value (codes "medium") _ refl refl refl)))

-- `--mode=fast`
pub means_fast : Means (listed_sample [] true) (codes "--mode=fast" ∷ []) (option 1 (Some (codes "fast")) ∷ [])
unfolding kind computing
means_fast = whole_of refl (spec.option (long (codes "mode")) (Some (codes "fast")) ∷ [])
    (joined_line (codes "mode") (codes "fast") _ refl (codes "mode", (refl, refl)) (lines.joined_value (codes "fast") refl refl refl) no_words)
    refl (lit≤ tt) (lit≤ tt) refl refl

-- `--mode=fast --help`
pub asks_after_value : AskFor (listed_sample [] true) (codes "--mode=fast" ∷ codes "--help" ∷ []) for_help
unfolding kind computing
asks_after_value = asks_then (option 1 (Some (codes "fast")) ∷ []) (long (codes "help")) 4 _ _ _ _
    (reads_value (long (codes "mode")) 1 (codes "fast") _ _ tt refl refl (lit≤ tt) (inl (reads_joined _ (codes "mode") (codes "fast") (codes "--help" ∷ []) refl refl refl refl))
    (inl (pending_value (codes "fast") _ refl refl refl)))
    refl refl refl refl refl (lit≤ tt) (reads_name _ 0x68 (codes "elp") [] refl refl refl refl) (next_word refl refl (no_word refl refl refl)) (λ o x is. cc)

-- `-mmedium`, where this option asks for the help
pub asking_medium : StopsAt (record (sample [] true) { options = record listed_mode { asks = Some for_help } ∷ [] }) (codes "-mmedium" ∷ []) [] (invalid_value 0 (codes "medium"))
unfolding kind computing
asking_medium = at_first (refuses_one (short 0x6D) 0 (codes "medium") _ _ tt refl refl (lit≤ tt) refl (inl (reads_first _ 0x6D (codes "medium") [] refl refl refl refl))
    (inl (pending_value (codes "medium") _ refl refl refl)))
