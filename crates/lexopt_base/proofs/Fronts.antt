-- Lines that have no value for the last option.
use Rattle.std.proofs.Common.{◌≡◌, ℕ, Bool, List, [], ◌∷◌, Option, Some, None, IsSome, refl}
use Rattle.lexopt_spec.specs.UnreadLine.{UnreadLine, pending, IsNormalIn}
use Rattle.lexopt_spec.specs.Views.{plain_front, available, available_with}
use Rattle.lexopt_spec.proofs.PlainFronts.{front-less}

none_plain : (ended : Bool) (words : List (List ℕ)) → (IsNormalIn ended words → ⊥) → plain_front ended words ≡ []
none_plain ended [] other = refl
none_plain ended (w ∷ ws) other = front-less ended w ws other

none_with : (found : Option (List ℕ × Bool)) (front : List (List ℕ)) → (IsSome found → ⊥) → front ≡ [] → available_with found front ≡ []
none_with None front other none = none
none_with (Some value) front other none = absurd (other refl)

pub none_available : (u : UnreadLine) → (IsSome (pending u) → ⊥) → (IsNormalIn u.ended u.words → ⊥) → available u ≡ []
none_available u pends normal = none_with (pending u) (plain_front u.ended u.words) pends (none_plain u.ended u.words normal)
