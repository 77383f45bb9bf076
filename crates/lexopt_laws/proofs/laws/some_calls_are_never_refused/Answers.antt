use Rattle.lexopt_laws.proofs.Refusals.{optional_never, try_raw_never, set_short_equals_never, raw_never, raw_if_never, values_never, refused_only}
use Rattle.lexopt_laws.proofs.laws.some_calls_are_never_refused.Goals as goal

pub returns-clause-only : goal.returns-clause-only
returns-clause-only c = λ call u v step. refused_only call u v step

pub returns-clause-optional : goal.returns-clause-optional
returns-clause-optional c = λ u v step. optional_never u v step

pub returns-clause-try_raw : goal.returns-clause-try_raw
returns-clause-try_raw c = λ n u v step. try_raw_never n u v step

pub returns-clause-set_short_equals : goal.returns-clause-set_short_equals
returns-clause-set_short_equals c = λ on u v step. set_short_equals_never on u v step

pub returns-clause-raw : goal.returns-clause-raw
returns-clause-raw c = λ n u v none step. raw_never n u v none step

pub returns-clause-raw_if : goal.returns-clause-raw_if
returns-clause-raw_if c = λ w u v none step. raw_if_never w u v none step

pub returns-clause-values : goal.returns-clause-values
returns-clause-values c = λ n u v some step. values_never n u v some step
