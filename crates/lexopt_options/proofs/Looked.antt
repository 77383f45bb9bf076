-- What an index finds.
use Rattle.lexopt_options.proofs.Common.{◌≡◌, ◌<◌, ◌≤◌, ℕ, Bool, false, List, length, get_or, unwrap_or, option_map, refl, ap, Positional, Words}
use Rattle.std.proofs.lemmas.Option.{slice_get_past}
use Rattle.lexopt_declaration.specs.declared.declaration.Words.TheVariants.{Files, Directories}
use Rattle.lexopt_options.specs.Answers.{are_at, are_directories, are_files}
use Rattle.lexopt_options.proofs.Accepted.{at_place}

-- whether the names of files, or those of directories, complete the words of a positional
pub are_there : {P : Type 0} (are : Words → Bool) (ps : List (Positional P)) (i : ℕ) (p : Positional P) → i < length ps → p ≡ get_or ps i p → are_at are ps i ≡ are p.words
are_there are ps i p within is = ap (λ found. unwrap_or (option_map (λ p. are p.words) found) false) (at_place ps i p within is)

pub are_past : {P : Type 0} (are : Words → Bool) (ps : List (Positional P)) (i : ℕ) → length ps ≤ i → are_at are ps i ≡ false
are_past are ps i past = ap (λ found. unwrap_or (option_map (λ p. are p.words) found) false) (slice_get_past ps i past)

pub no_files : (words : Words) → (words ≡ Files → ⊥) → are_files words ≡ false
no_files Files not = absurd (not refl)
no_files words not = refl

pub no_directories : (words : Words) → (words ≡ Directories → ⊥) → are_directories words ≡ false
no_directories Directories not = absurd (not refl)
no_directories words not = refl
