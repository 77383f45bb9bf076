-- The pending value that a parser finds, as contracts see it.
use Rattle.std.specs.Prelude.{◌≡◌, ℕ, Bool, false, List, Option, Some, None, length}
use Rattle.lexopt_spec.specs.UnreadLine.{UnreadLine, no_tail, pending}
use Rattle.lexopt_base.specs.declared.parser.Pending.{Pending}

-- the parser finds the length of the pending value, or that nothing is pending
abbrev pub IsCounted : UnreadLine → Option Pending → Type 0
IsCounted u None = u.tail ≡ no_tail
IsCounted u (Some p) =
    (value : List ℕ) × (pending u ≡ Some (value, p.is_joined)) × (length value ≡ p.count)

-- `=` joins the pending value to its option
abbrev pub is_joined : Option (List ℕ × Bool) → Bool
is_joined None = false
is_joined (Some (value, by_equals)) = by_equals
