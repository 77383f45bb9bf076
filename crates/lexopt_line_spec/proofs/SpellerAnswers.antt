-- The values of results of the speller.
use Rattle.std.proofs.Common.{◌≡◌}
use Rattle.std.proofs.lemmas.Result.{IfOk-at_ok}
use Rattle.std.specs.Prelude.{Result, Ok, Err}
use Rattle.lexopt_line_spec.specs.Speller.{Reason, Fault}
use Rattle.lexopt_line_spec.proofs.SpellerTables.{Form, Added, Rest}

-- the values of an option have this form
abbrev pub Formed : Result Form Reason → Form → Type 0
Formed answer f = answer ≡ Ok f

-- an item adds these words
abbrev pub Adding : Result Added Reason → Added → Type 0
Adding answer a = answer ≡ Ok a

-- these words are spelled from some place on
abbrev pub Going : Result Rest Fault → Rest → Type 0
Going answer r = answer ≡ Ok r

-- a result that is an error is not `Ok`
pub none_is : {X T E : Type 0} (e : E) (x : T) → Err e ≡ Ok x → X
none_is e x is = absurd (IfOk-at_ok (λ _. ⊥) is tt)
