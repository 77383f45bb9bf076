use Rattle.std.proofs.Common.{◌≡◌, true, [], ◌∷◌, Some, None, codes, refl, inl, lit≤}
use Rattle.lexopt_spec.specs.Steps.{joined_value, equals_value}
use Rattle.lexopt_spec.specs.UnreadLine.{no_tail}
use Rattle.lexopt_line_spec.specs.Table as spec
use Rattle.lexopt_line_spec.specs.Table.{short, long, kind}
use Rattle.lexopt_line_spec.specs.Spelling.{separator}
use Rattle.lexopt_line_spec.proofs.Computing.{computing}
use Rattle.lexopt_line_spec.proofs.Worked.{reads_first, reads_joined, reads_name}
use Rattle.lexopt_options_spec.specs.Asking.{AskFor}
use Rattle.lexopt_options_spec.specs.Declaration.{for_version}
use Rattle.lexopt_options_spec.specs.Legal.{Means, option, positional}
use Rattle.lexopt_options_spec.specs.Stops.{StopsAt, unexpected_value, unknown_option, value_of_flag, not_declared}
use Rattle.lexopt_laws.specs.Sample.{asking_sample, files}
use Rattle.lexopt_laws.proofs.AskedOnce.{asked_of_list, asked_of_stop, one_asked}
use Rattle.lexopt_laws.proofs.WorkedAsking.{asks_first}
use Rattle.lexopt_laws.proofs.WorkedMeans.{whole_of}
use Rattle.lexopt_laws.proofs.WorkedStops.{at_first, after_flag}
use Rattle.lexopt_laws.proofs.WorkedValues.{asking_medium, value_before_the_help}
use Rattle.lexopt_laws.proofs.option_examples.lines_do_not_ask.Goals as goal

-- `--help=1`
pub returns-clause-with_a_value : goal.returns-clause-with_a_value
unfolding kind computing
returns-clause-with_a_value c a ask =
    let stops : StopsAt (asking_sample (files ∷ []) true) (codes "--help=1" ∷ []) (option 4 None ∷ []) (unexpected_value (codes "--help") (codes "1")) =
    after_flag (long (codes "help")) 4 _ refl refl tt (inl (reads_joined _ (codes "help") (codes "1") [] refl refl refl refl))
    (value_of_flag (codes "--help") (codes "1") _ (inl (joined_value (codes "1") (codes "--help") refl refl refl refl))) in
    let e : None ≡ Some a = asked_of_stop _ _ _ _ a stops ask in cc

-- `-h=1`
pub returns-clause-in_a_cluster_with_a_value : goal.returns-clause-in_a_cluster_with_a_value
unfolding kind computing
returns-clause-in_a_cluster_with_a_value c a ask =
    let stops : StopsAt (asking_sample (files ∷ []) true) (codes "-h=1" ∷ []) (option 4 None ∷ []) (unexpected_value (codes "-h") (codes "1")) =
    after_flag (short 0x68) 4 _ refl refl tt (inl (reads_first _ 0x68 (codes "=1") [] refl refl refl refl))
    (value_of_flag (codes "-h") (codes "1") _ (inl (equals_value (codes "1") (codes "-h") refl refl refl refl refl))) in
    let e : None ≡ Some a = asked_of_stop _ _ _ _ a stops ask in cc

-- `--version -h`
pub returns-clause-for_the_second : goal.returns-clause-for_the_second
unfolding kind computing
returns-clause-for_the_second c a ask =
    let version : AskFor (asking_sample (files ∷ []) true) (codes "--version" ∷ codes "-h" ∷ []) (for_version (codes "1.0")) =
    asks_first (long (codes "version")) 5 _ _ _ refl refl refl tt (reads_name _ 0x76 (codes "ersion") (codes "-h" ∷ []) refl refl refl refl)
    (reads_first _ 0x68 [] [] refl refl refl refl) (λ o x is. cc) in
    one_asked _ _ a (for_version (codes "1.0")) ask version

-- `-z --help`
pub returns-clause-after_a_mistake : goal.returns-clause-after_a_mistake
unfolding kind computing
returns-clause-after_a_mistake c a ask =
    let stops : StopsAt (asking_sample [] true) (codes "-z" ∷ codes "--help" ∷ []) [] (unknown_option (short 0x7A) no_tail) =
    at_first (not_declared (short 0x7A) _ (inl (reads_first _ 0x7A [] (codes "--help" ∷ []) refl refl refl refl)) refl) in
    let e : None ≡ Some a = asked_of_stop _ _ _ _ a stops ask in cc

-- `-- --help`
pub returns-clause-after_the_separator : goal.returns-clause-after_the_separator
unfolding kind computing
returns-clause-after_the_separator c a ask =
    let means : Means (asking_sample (files ∷ []) true) (codes "--" ∷ codes "--help" ∷ []) (positional (codes "--help") ∷ []) =
    whole_of refl (spec.positional (codes "--help") ∷ []) (separator (codes "--help" ∷ [])) refl tt (lit≤ tt) refl refl in
    let e : None ≡ Some a = asked_of_list _ _ _ a means ask in cc

-- `--mode=medium --help`
pub returns-clause-after_a_value : goal.returns-clause-after_a_value
returns-clause-after_a_value c a ask =
    let e : None ≡ Some a = asked_of_stop _ _ _ _ a value_before_the_help ask in cc

-- `-mmedium`
pub returns-clause-by_a_refused_value : goal.returns-clause-by_a_refused_value
returns-clause-by_a_refused_value c a ask = let e : None ≡ Some a = asked_of_stop _ _ _ _ a asking_medium ask in cc
