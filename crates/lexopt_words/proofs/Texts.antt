-- Appending to a text.
use Rattle.std.proofs.Common.{◌≡◌, ℕ, List, ◌++◌, Result, Ok, Err, OnOk, is_ok, if◌then◌else◌, ap, ◌∙◌}
use Rattle.std.specs.declared.alloc.AllocError.{AllocError}

-- the text after an append that succeeds
pub added : (r : Result (Unit {0}) AllocError) (old new bytes wanted : List ℕ) → new ≡ (if is_ok r then old ++ bytes else old) → bytes ≡ wanted → OnOk r (new ≡ old ++ wanted)
added (Ok u) old new bytes wanted is same = is ∙ ap (λ l. old ++ l) same
added (Err e) old new bytes wanted is same = tt
