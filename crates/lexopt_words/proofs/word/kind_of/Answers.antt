use Rattle.lexopt_spec.proofs.LineLemmas.{plain_short}
use Rattle.lexopt_words.proofs.word.kind_of.Goals as goal

pub returns-in_default : goal.returns-in_default
returns-in_default c = plain_short c.args.word.now c.in_default.len_below
