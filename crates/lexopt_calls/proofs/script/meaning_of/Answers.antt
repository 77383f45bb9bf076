use Rattle.std.proofs.Common.{ℕ, List, IsUtf8, subst}
use Rattle.lexopt_calls.specs.Script.{keyword_of, text_of}
use Rattle.lexopt_calls.proofs.Keywords.{damaged_keyword}
use Rattle.lexopt_calls.proofs.script.meaning_of.Goals as goal

pub returns-in-Err : goal.returns-in-Err
returns-in-Err c =
    damaged_keyword (keyword_of c.args.line.now) (text_of c.args.line.now)
    (subst (λ (bs : List ℕ). IsUtf8 bs → ⊥) c.cut_at_space.ensures.0 c.in-Err.ensures.cases.0)
