-- The words that an iterator yields. `Words` of `lexopt_spell` is about appending words.
use Rattle.std.specs.Prelude.{◌≡◌, ℕ, List, Option}
use Rattle.std.specs.Iterator.Runs.{WholeRun}

-- the iterator that `args` is turned into yields these words, and then ends
abbrev pub YieldsWords : {I S : Type 0} → (I → S → Type 0)
    → (S → Option (List ℕ) → S → Type 0) → I → List (List ℕ) → Type 0
YieldsWords {I} {S} turns_into gives args words =
    (items : S) × turns_into args items × WholeRun gives items (λ run. run.items ≡ words)
