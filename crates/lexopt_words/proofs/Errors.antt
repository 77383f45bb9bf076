-- An error that `?` converts.
use Rattle.std.proofs.Common.{Result, Ok, Err, MatchResult}
use Rattle.std.specs.Prelude.{IsErrAnd}

pub err_only : {T E : Type 0} (r : Result T E) (P Q : E → Type 0) → ((e : E) → P e → Q e) → IsErrAnd r P → MatchResult r (λ _. ⊥) Q
err_only (Ok x) P Q k h = h
err_only (Err e) P Q k h = k e h
