-- Which words positionals accept, as contracts see it.
use Rattle.std.specs.Prelude.{◌≡◌, ◌≤◌, ◌+◌, ◌-◌, ℕ, Bool, true, false, List, Option, Some, None}
use Rattle.std.specs.Prelude.{IfSome, length, map, slice_get}
use Rattle.std.specs.Option.{MatchOption}
use Rattle.lexopt_options_spec.specs.Declaration.{Declaration, Positional, accepts}
use Rattle.lexopt_options_spec.specs.Legal.{IsWithin, most}
use Rattle.lexopt_options_spec.specs.Places.{greedy, least, owners, refused_word, takes_at}
use Rattle.lexopt_options_spec.specs.Stops as stops
use Rattle.lexopt_declaration.specs.Models.{positional_view, words_view}
use Rattle.lexopt_declaration.specs.declared.declaration.Positional as rust
use Rattle.lexopt_declaration.specs.declared.declaration.Words.{Words}
use Rattle.lexopt_declaration.specs.declared.declaration.Words.TheVariants.{Listed}
use Rattle.lexopt_options.specs.declared.mistake.Mistake.{Mistake}
use Rattle.lexopt_options.specs.Mistakes.{IsMistake}

abbrev pub is_list : Words → Bool
is_list (Listed values) = true
is_list words = false

abbrev pub has_list : {P : Type 0} → rust.Positional P → Bool
has_list p = is_list p.words

-- wherever these positionals are declared, this is the mistake that the one at this index does not
-- accept the word
abbrev pub IsInvalid : {P : Type 0} → List (rust.Positional P) → ℕ → List ℕ → Mistake → Type 0
IsInvalid positionals index word mistake = (d : Declaration)
    → d.positionals ≡ map positional_view positionals
    → IsMistake d mistake (stops.invalid_argument index word)

-- the positional accepts the word; otherwise, wherever it is declared, this is the mistake that it
-- does not
abbrev pub IsRefusal : {P : Type 0} → rust.Positional P → List ℕ → Option Mistake → Type 0
IsRefusal p word found = MatchOption found (accepts (words_view p.words) word ≡ true)
    (λ mistake. (accepts (words_view p.words) word ≡ false)
    × ((d : Declaration) (i : ℕ) → slice_get d.positionals i ≡ Some (positional_view p)
    → IsMistake d mistake (stops.invalid_argument i word)))

-- the same for the positional at this index
abbrev pub IsRefusalAt : {P : Type 0} → List (rust.Positional P) → ℕ → List ℕ → Option Mistake → Type 0
IsRefusalAt positionals index word found = MatchOption found
    (takes_at (map positional_view positionals) index word ≡ true)
    (λ mistake. (takes_at (map positional_view positionals) index word ≡ false)
    × IsInvalid positionals index word mistake)

-- A line of at least this many words can have this many more than are required. A line with more
-- of them gives the first `count` words to the same positionals.
pub record CanSpare (ps : List Positional) (count spare : ℕ) : Type 0 where
  pub low : count - least ps ≤ spare
  pub high : spare ≤ count
  pub within : IsWithin (least ps + spare) (most ps)

-- where there are this many more words than are required, each of these words belongs to a
-- positional that accepts it, and a word after them to the one at the index `next`, if there is one
abbrev pub Fits : List Positional → List (List ℕ) → Option ℕ → ℕ → Type 0
Fits ps words next spare = (refused_word ps (owners 0 (greedy ps spare)) words ≡ None)
    × IfSome next (λ i. slice_get (owners 0 (greedy ps spare)) (length words) ≡ Some i)
