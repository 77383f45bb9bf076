use Rattle.lexopt_spec.proofs.ViewLemmas.{item_is_first, none_ends, none_ever, values_by_items, raw_by_items, try_raw_by_items}
use Rattle.lexopt_line_spec.proofs.FullValues.{full_values}
use Rattle.lexopt_laws.proofs.OneItem.{some_value, no_other_value, some_word, no_other_word}
use Rattle.lexopt_laws.proofs.laws.items_make_the_call.Goals as goal

pub returns-clause-first : goal.returns-clause-first
returns-clause-first c = λ stage now u v item step. item_is_first stage u item v now step

pub returns-clause-none : goal.returns-clause-none
returns-clause-none c = λ stage now u v step. none_ends stage u v now step

pub returns-clause-ever : goal.returns-clause-ever
returns-clause-ever c = λ now u v item step. none_ever u item v now step

pub returns-clause-values : goal.returns-clause-values
returns-clause-values c = λ n u v came now some asked. values_by_items n u v came now some asked

pub returns-clause-raw : goal.returns-clause-raw
returns-clause-raw c = λ n u v came none asked. raw_by_items n u v came none asked

pub returns-clause-try_raw : goal.returns-clause-try_raw
returns-clause-try_raw c = λ n u v came none asked. try_raw_by_items n u v came none asked

pub returns-clause-all : goal.returns-clause-all
returns-clause-all c = λ n u v came step few. full_values n u v came few step

pub returns-clause-some_value : goal.returns-clause-some_value
returns-clause-some_value c = λ stage u. some_value stage u

pub returns-clause-no_other_value : goal.returns-clause-no_other_value
returns-clause-no_other_value c = λ stage now then u v w item other first second. no_other_value stage now then u v w item other first second

pub returns-clause-some_word : goal.returns-clause-some_word
returns-clause-some_word c = λ u. some_word u

pub returns-clause-no_other_word : goal.returns-clause-no_other_word
returns-clause-no_other_word c = λ u v w item other first second. no_other_word u v w item other first second
