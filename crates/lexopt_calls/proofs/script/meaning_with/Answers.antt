use Rattle.std.proofs.Common.{rules}
use Rattle.lexopt_calls.proofs.Keywords.{takes_no_text}
use Rattle.lexopt_calls.proofs.script.meaning_with.Goals as goal

pub returns-in_default : goal.returns-in_default
returns-in_default c =
    let other = c.in_default in
    takes_no_text c.args.keyword.now c.args.text.now other.not-w other.not-values other.not-raw other.not-try other.not-t other.not-topt other.not-tmany

pub returns-in-values : goal.returns-in-values
returns-in-values c = search rules
