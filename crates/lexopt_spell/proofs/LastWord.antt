-- The last word of a list, and the words appended after it.
use Rattle.std.proofs.Common.{◌≡◌, ℕ, List, [], ◌∷◌, ◌++◌, Option, Some, refl, sym, ap, ◌∙◌, append-nil, append_assoc}
use Rattle.std.specs.Option.{option_to_list}
use Rattle.lexopt_spell.specs.Words.{onto_last}

pub onto_snoc : (ws : List (List ℕ)) (w bytes : List ℕ) → onto_last (ws ++ (w ∷ [])) bytes ≡ ws ++ ((w ++ bytes) ∷ [])
onto_snoc [] w bytes = refl
onto_snoc (v ∷ []) w bytes = refl
onto_snoc (v ∷ u ∷ ws) w bytes = ap (λ l. v ∷ l) (onto_snoc (u ∷ ws) w bytes)

pub onto_nil : (ws : List (List ℕ)) → onto_last ws [] ≡ ws
onto_nil [] = refl
onto_nil (w ∷ []) = ap (λ l. l ∷ []) (append-nil w)
onto_nil (w ∷ v ∷ ws) = ap (λ l. w ∷ l) (onto_nil (v ∷ ws))

pub onto_twice : (ws : List (List ℕ)) (a b : List ℕ) → onto_last (onto_last ws a) b ≡ onto_last ws (a ++ b)
onto_twice [] a b = refl
onto_twice (w ∷ []) a b = ap (λ l. l ∷ []) (append_assoc w a b)
onto_twice (w ∷ v ∷ []) a b = ap (λ l. w ∷ l) (onto_twice (v ∷ []) a b)
onto_twice (w ∷ v ∷ u ∷ ws) a b = ap (λ l. w ∷ l) (onto_twice (v ∷ u ∷ ws) a b)

-- a word is popped off the list, and pushed back longer
pub extended : (old left new : List (List ℕ)) (last : Option (List ℕ)) (w bytes : List ℕ) → old ≡ left ++ option_to_list last → last ≡ Some w → new ≡ left ++ ((w ++ bytes) ∷ [])
    → new ≡ onto_last old bytes
extended old left new last w bytes was is now =
    now ∙ sym (onto_snoc left w bytes) ∙ ap (λ l. onto_last l bytes) (sym (was ∙ ap (λ (o : Option (List ℕ)). left ++ option_to_list o) is))
