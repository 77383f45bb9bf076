-- A `Refusal` as a reply and as an error, and the pending value when it is refused or taken.
use Rattle.std.specs.Prelude.{◌≡◌, ℕ, Bool, List, Some, IsSome, length, option_map}
use Rattle.std.specs.Prelude.{string_bytes, Result, Ok, Err}
use Rattle.lexopt_spec.specs.UnreadLine.{LastOption, UnreadLine, no_tail, spelling}
use Rattle.lexopt_spec.specs.UnreadLine.{pending}
use Rattle.lexopt_spec.specs.Steps.{Reply, missing, taken, unexpected, no_memory}
use Rattle.lexopt_words.specs.declared.error.Error.{Error}
use Rattle.lexopt_words.specs.declared.error.Error.TheVariants as error
use Rattle.lexopt_base.specs.declared.refusal.Refusal.{Refusal}
use Rattle.lexopt_base.specs.declared.refusal.Refusal.TheVariants.{MissingValue, UnexpectedValue}
use Rattle.lexopt_base.specs.declared.refusal.Refusal.TheVariants.{OutOfMemory}

-- a refusal as a reply
abbrev pub refusal_reply : Refusal → Reply
refusal_reply (MissingValue option) = missing (option_map string_bytes option)
refusal_reply (UnexpectedValue option value) = unexpected (string_bytes option) value
refusal_reply OutOfMemory = no_memory

-- this is the error that a refusal is turned into
abbrev pub IsErrorOf : Refusal → Error → Type 0
IsErrorOf (MissingValue option) e = e ≡ error.MissingValue option
IsErrorOf (UnexpectedValue option value) e = e ≡ error.UnexpectedValue option value
IsErrorOf OutOfMemory e = e ≡ error.OutOfMemory

-- the reply for a result of `take`
abbrev pub take_reply : Result (List ℕ) Refusal → Reply
take_reply (Ok word) = taken word
take_reply (Err refusal) = refusal_reply refusal

-- there is no value for the last option, or no memory to spell that option
abbrev pub IsMissing : LastOption → Refusal → Type 0
IsMissing last (MissingValue option) = option_map string_bytes option ≡ spelling last
IsMissing last OutOfMemory = IsSome (spelling last)
IsMissing last refusal = ⊥

-- a value of `count` bytes is pending
abbrev pub HasPending : UnreadLine → ℕ → Type 0
HasPending u count = (value : List ℕ) × (by_equals : Bool) × (pending u ≡ Some (value, by_equals))
    × (length value ≡ count)

-- the pending value is taken
abbrev pub TakesPending : UnreadLine → List ℕ → UnreadLine → Type 0
TakesPending u value after = (by_equals : Bool) × (pending u ≡ Some (value, by_equals))
    × (after ≡ record u { tail = no_tail })

-- the pending value is refused: it is consumed, or there is no memory to spell its option
abbrev pub RefusesPending : UnreadLine → Refusal → UnreadLine → Type 0
RefusesPending u (MissingValue option) after = ⊥
RefusesPending u (UnexpectedValue option value) after =
    (spelling u.last ≡ Some (string_bytes option)) × TakesPending u value after
RefusesPending u OutOfMemory after = (after ≡ u) × IsSome (spelling u.last) × IsSome (pending u)
