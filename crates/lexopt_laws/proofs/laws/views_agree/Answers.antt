use Rattle.lexopt_laws.proofs.ViewLaws.{busy_is_pending, pending_is_busy, refused_once, values_untouched, try_raw_untouched, first_comes, values_found}
use Rattle.lexopt_laws.proofs.laws.views_agree.Goals as goal

pub returns-clause-busy : goal.returns-clause-busy
returns-clause-busy c = λ n u v step. busy_is_pending n u v step

pub returns-clause-found : goal.returns-clause-found
returns-clause-found c = λ n u v x step. pending_is_busy n u v x step

pub returns-clause-refused_once : goal.returns-clause-refused_once
returns-clause-refused_once c = λ n u v option x step. refused_once n u v option x step

pub returns-clause-values_untouched : goal.returns-clause-values_untouched
returns-clause-values_untouched c = λ u v r step. values_untouched u v r step

pub returns-clause-words_untouched : goal.returns-clause-words_untouched
returns-clause-words_untouched c = λ u v r step. try_raw_untouched u v r step

pub returns-clause-first_item : goal.returns-clause-first_item
returns-clause-first_item c = λ u v now some item. first_comes u v now some item

pub returns-clause-values_found : goal.returns-clause-values_found
returns-clause-values_found c = λ u. values_found u
