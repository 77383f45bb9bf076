use Rattle.lexopt_options.proofs.Common.{sym, words_view}
use Rattle.lexopt_options.proofs.Accepted.{accepts_any, any_accepted}
use Rattle.lexopt_options.proofs.listed.refused_place.Goals as goal

pub returns-in-Files : goal.returns-in-Files
returns-in-Files c = sym (any_accepted (words_view c.args.words) c.args.values.now (accepts_any c.args.words c.in-Files.is))
