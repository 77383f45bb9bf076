use Rattle.std.proofs.Common.{sym}
use Rattle.lexopt_options.proofs.Accepted.{accepts_by}
use Rattle.lexopt_options.proofs.listed.accepts.Goals as goal

pub returns-in-Listed : goal.returns-in-Listed
returns-in-Listed c = sym (accepts_by c.args.words c.in-Listed.values c.args.value.now c.is_listed.result c.in-Listed.is (rw c.as_bytes.ensures at c.is_listed.ensures))
