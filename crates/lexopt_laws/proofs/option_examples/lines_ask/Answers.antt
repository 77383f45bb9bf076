use Rattle.std.proofs.Common.{[], ◌∷◌, codes, refl, lit≤}
use Rattle.lexopt_spec.specs.Steps.{next_in_cluster, next_word, no_word}
use Rattle.lexopt_line_spec.specs.Table.{short, long, kind}
use Rattle.lexopt_line_spec.proofs.Computing.{computing}
use Rattle.lexopt_line_spec.proofs.Worked.{some, not_mark, reads_first, reads_joined, reads_name, reads_plain}
use Rattle.lexopt_laws.proofs.WorkedAsking.{asks_first, asks_second}
use Rattle.lexopt_laws.proofs.WorkedValues.{asks_after_value}
use Rattle.lexopt_laws.proofs.option_examples.lines_ask.Goals as goal

-- `--help`
pub returns-clause-by_a_long_name : goal.returns-clause-by_a_long_name
unfolding kind computing
returns-clause-by_a_long_name c = asks_first (long (codes "help")) 4 _ _ _ refl refl refl tt (reads_name _ 0x68 (codes "elp") [] refl refl refl refl)
    (next_word refl refl (no_word refl refl refl)) (λ o x is. cc)

-- `-h`
pub returns-clause-by_a_character : goal.returns-clause-by_a_character
unfolding kind computing
returns-clause-by_a_character c = asks_first (short 0x68) 4 _ _ _ refl refl refl tt (reads_first _ 0x68 [] [] refl refl refl refl)
    (next_word refl refl (no_word refl refl refl)) (λ o x is. cc)

-- `-vh`
pub returns-clause-in_a_cluster : goal.returns-clause-in_a_cluster
unfolding kind computing
returns-clause-in_a_cluster c = asks_second (short 0x76) (short 0x68) 0 4 _ _ _ _ refl refl refl refl refl refl tt (reads_first _ 0x76 (codes "h") [] refl refl refl refl)
    (next_in_cluster (codes "h") refl (not_mark _ (codes "h") refl) (record { some = some _ _; reply_is = refl; after_is = refl }))
    (next_word refl refl (no_word refl refl refl)) (λ o x is. cc)

pub returns-clause-where_an_argument_is_missing : goal.returns-clause-where_an_argument_is_missing
unfolding kind computing
returns-clause-where_an_argument_is_missing c = asks_first (long (codes "help")) 4 _ _ _ refl refl refl (lit≤ tt) (reads_name _ 0x68 (codes "elp") [] refl refl refl refl)
    (next_word refl refl (no_word refl refl refl)) (λ o x is. cc)

pub returns-clause-where_an_option_is_missing : goal.returns-clause-where_an_option_is_missing
unfolding kind computing
returns-clause-where_an_option_is_missing c = asks_first (long (codes "help")) 1 _ _ _ refl refl refl (lit≤ tt) (reads_name _ 0x68 (codes "elp") [] refl refl refl refl)
    (next_word refl refl (no_word refl refl refl)) (λ o x is. cc)

-- `--help a`
pub returns-clause-before_a_mistake : goal.returns-clause-before_a_mistake
unfolding kind computing
returns-clause-before_a_mistake c = asks_first (long (codes "help")) 4 _ _ _ refl refl refl (lit≤ tt) (reads_name _ 0x68 (codes "elp") (codes "a" ∷ []) refl refl refl refl)
    (reads_plain _ (codes "a") [] refl refl refl refl) (λ o x is. cc)

-- `--version -h`
pub returns-clause-for_the_version : goal.returns-clause-for_the_version
unfolding kind computing
returns-clause-for_the_version c = asks_first (long (codes "version")) 5 _ _ _ refl refl refl tt (reads_name _ 0x76 (codes "ersion") (codes "-h" ∷ []) refl refl refl refl)
    (reads_first _ 0x68 [] [] refl refl refl refl) (λ o x is. cc)

-- `-h=1`
pub returns-clause-under_its_setting : goal.returns-clause-under_its_setting
unfolding kind computing
returns-clause-under_its_setting c = asks_first (short 0x68) 4 _ _ _ refl refl refl tt (reads_first _ 0x68 (codes "=1") [] refl refl refl refl)
    (next_in_cluster (codes "=1") refl (not_mark _ (codes "=1") refl) (record { some = some _ _; reply_is = refl; after_is = refl })) (λ o x is. cc)

-- `--help --mode=medium`
pub returns-clause-before_a_value : goal.returns-clause-before_a_value
unfolding kind computing
returns-clause-before_a_value c = asks_first (long (codes "help")) 4 _ _ _ refl refl refl (lit≤ tt) (reads_name _ 0x68 (codes "elp") (codes "--mode=medium" ∷ []) refl refl refl refl)
    (reads_joined _ (codes "mode") (codes "medium") [] refl refl refl refl) (λ o x is. cc)

pub returns-clause-after_a_value : goal.returns-clause-after_a_value
returns-clause-after_a_value c = asks_after_value
