-- Boolean tests of lists.
use Rattle.std.proofs.Common.{◌≡◌, ◌||◌, Bool, List, [], ◌∷◌, map, refl, ap}
use Rattle.std.specs.List.{list_any}

pub list_any-map : {X Y : Type 0} (f : X → Y) (p : Y → Bool) (xs : List X) → list_any p (map f xs) ≡ list_any (λ x. p (f x)) xs
list_any-map f p [] = refl
list_any-map f p (x ∷ xs) = ap (λ b. p (f x) || b) (list_any-map f p xs)
