-- A line is cut at its first space.
use Rattle.std.proofs.Common.{◌≡◌, ℕ, ◌+◌, ◌<◌, ◌≤◌, ◌==◌, true, List, length, take, drop, get_or, Some, None, refl, sym, ap, ◌∙◌, arith}
use Rattle.std.specs.List.{position_or_len}
use Rattle.std.proofs.lemmas.Bool.{false_from_ne_true}
use Rattle.std.proofs.lemmas.List.{get_or_default, take_all}
use Rattle.std.proofs.lemmas.List.Folds.{list_any_at, list_any_none}
use Rattle.std.proofs.lemmas.List.Sums.{position_or_len_is}
use Rattle.lexopt_calls.specs.Script.{space, keyword_of, text_of}

-- the byte at this place is a space
abbrev IsSpace : List ℕ → ℕ → Type 0
IsSpace line i = (get_or line i 0 == space) ≡ true

place_is : (line : List ℕ) (i : ℕ) → i ≤ length line → ((k : ℕ) → 0 ≤ k → k < i → IsSpace line k → ⊥) → (i < length line → IsSpace line i)
    → position_or_len (λ b. b == space) line ≡ i
place_is line i within none here =
    position_or_len_is (λ b. b == space) line i 0 within (λ k below. false_from_ne_true (get_or line k 0 == space) (none k (omega arith) below)) here

pub cut_at : (line : List ℕ) (i : ℕ) → i < length line → ((k : ℕ) → 0 ≤ k → k < i → IsSpace line k → ⊥) → IsSpace line i
    → (take i line ≡ keyword_of line) × (Some (drop (i + 1) line) ≡ text_of line)
cut_at line i within none here = rw (
  place_is line i (omega arith) none (λ inside. here),
  list_any_at (λ b. b == space) line i 0 within here,
)
    (refl, refl)

pub uncut : (line : List ℕ) → ((k : ℕ) → 0 ≤ k → k < length line → IsSpace line k → ⊥) → (line ≡ keyword_of line) × (None ≡ text_of line)
uncut line none =
    let place = place_is line (length line) (omega arith) none (λ inside. absurd (omega arith)) in
    let no_space = list_any_none (λ b. b == space) line (λ k d inside. false_from_ne_true (get_or line k d == space)
    (λ is. none k (omega arith) inside (ap (λ b. b == space) (get_or_default line k 0 d inside) ∙ is))) in
    (sym (take_all _ line (omega (arith, place))), rw no_space refl)
