use Rattle.lexopt_options_spec.proofs.LabelTexts.{shows_short, shows_long, shows_both}
use Rattle.lexopt_options_spec.proofs.laws.labels_show_their_names.Goals as goal

pub returns-clause-short : goal.returns-clause-short
returns-clause-short c = λ o x named none. shows_short o x named none

pub returns-clause-long : goal.returns-clause-long
returns-clause-long c = λ o name none named. shows_long o name none named

pub returns-clause-both : goal.returns-clause-both
returns-clause-both c = λ o x name short_named long_named. shows_both o x name short_named long_named
