-- Lists of words that a source has: when one more word is read, and when no word is left.
use Rattle.std.proofs.Common.{◌+◌, ◌∷◌, [], ◌++◌, ℕ, List, Option, Some, None, sym, subst, append-nil}
use Rattle.std.proofs.lemmas.List.{append_assoc}
use Rattle.lexopt_words.specs.Answered.{AreAnswered}

-- the words from this place on come after the words that have been read
abbrev pub AreAfter : (ℕ → Option (List ℕ) → Type 0) → ℕ → List (List ℕ) → Type 0
AreAfter answers place came = (rest : List (List ℕ)) → AreAnswered answers place rest → AreAnswered answers 0 (came ++ rest)

pub all_have_come : (answers : ℕ → Option (List ℕ) → Type 0) (place : ℕ) (came : List (List ℕ))
    → AreAfter answers place came → answers place None → AreAnswered answers 0 came
all_have_come answers place came before none = subst (AreAnswered answers 0) (append-nil came) (before [] none)

pub one_more_came : (answers : ℕ → Option (List ℕ) → Type 0) (place : ℕ) (came : List (List ℕ)) (word : List ℕ)
    → AreAfter answers place came → answers place (Some word) → AreAfter answers (place + 1) (came ++ word ∷ [])
one_more_came answers place came word before some rest after =
    subst (AreAnswered answers 0) (sym (append_assoc came (word ∷ []) rest)) (before (word ∷ rest) (some, after))
