-- Which positional of a declaration each word of a line belongs to. The source is
-- `docs/behaviour.md`.
use Rattle.std.specs.Prelude.{◌≡◌, ◌≤◌, ◌==◌, ◌+◌, ◌-◌, ◌++◌, ℕ, suc, Bool, true, false, List, [], ◌∷◌}
use Rattle.std.specs.Prelude.{max, min}
use Rattle.std.specs.Prelude.{Option, Some, None, filter, if◌then◌else◌, length, replicate}
use Rattle.std.specs.Prelude.{slice_get, take, unwrap_or}
use Rattle.std.specs.List.{AllZip, sum_by}
use Rattle.std.specs.Option.{option_map}
use Rattle.lexopt_options_spec.specs.Declaration.{Count, Positional, accepts, once, at_most_once}
use Rattle.lexopt_options_spec.specs.Declaration.{any_number, at_least_once, has_to_occur}

-- ---- how many words there are

-- the positionals that are required
abbrev pub required : List Positional → List Positional
required ps = filter (λ p. has_to_occur p.count) ps

-- how many positionals a line has to have
abbrev pub least : List Positional → ℕ
least ps = length (required ps)

-- ---- the positional that each word belongs to

-- this many words can belong to it
abbrev pub CanTake : Count → ℕ → Type 0
CanTake once n = n ≡ 1
CanTake at_most_once n = n ≤ 1
CanTake any_number n = Unit {0}
CanTake at_least_once n = 1 ≤ n

-- the least number of words that belong to it
abbrev pub needs : Count → ℕ
needs once = 1
needs at_most_once = 0
needs any_number = 0
needs at_least_once = 1

-- one more word can belong to it than this many
abbrev pub has_room : Count → ℕ → Bool
has_room once n = false
has_room at_most_once n = n == 0
has_room any_number n = true
has_room at_least_once n = true

-- no positional has more words than it needs
abbrev pub NoneSpare : List Positional → List ℕ → Type 0
NoneSpare ps shares = AllZip (λ p n. n ≡ needs p.count) ps shares

-- after a positional that one more word could belong to, no positional has more words than it needs
abbrev pub AreFirst : List Positional → List ℕ → Type 0
AreFirst [] shares = Unit {0}
AreFirst (p ∷ ps) [] = Unit {0}
AreFirst (p ∷ ps) (n ∷ shares) = (has_room p.count n ≡ true → NoneSpare ps shares)
    × AreFirst ps shares

-- Of this many words, these numbers belong to the positionals in turn: to each as many as can, and
-- a word that could belong to either of two belongs to the first.
pub record AreShares (ps : List Positional) (count : ℕ) (shares : List ℕ) : Type 0 where
  pub each : AllZip (λ p n. CanTake p.count n) ps shares
  pub all : sum_by (λ n. n) shares ≡ count
  pub first : AreFirst ps shares

-- how many of the words that are not required belong to the first positional
abbrev pub extra : Count → ℕ → ℕ
extra once spare = 0
extra at_most_once spare = min 1 spare
extra any_number spare = spare
extra at_least_once spare = spare

-- the same numbers, computed, where this many words are not required
abbrev pub greedy : List Positional → ℕ → List ℕ
greedy [] spare = []
greedy (p ∷ ps) spare = (needs p.count + extra p.count spare) ∷ greedy ps (spare - extra p.count spare)

-- for each word the index of its positional, counted from this index
abbrev pub owners : ℕ → List ℕ → List ℕ
owners i [] = []
owners i (n ∷ shares) = replicate n i ++ owners (suc i) shares

-- This many words, in order, belong to the positionals at these indices. If words are missing,
-- these belong to what they would belong to if the missing ones came after them.
pub record ArePlaces (ps : List Positional) (count : ℕ) (places : List ℕ) : Type 0 where
  pub shares : List ℕ
  pub are_shares : AreShares ps (max count (least ps)) shares
  pub placed : places ≡ take count (owners 0 shares)

-- ---- which words are accepted

-- the positional at this index, if there is one, accepts this word
abbrev pub takes_at : List Positional → ℕ → List ℕ → Bool
takes_at ps i word = unwrap_or (option_map (λ p. accepts p.words word) (slice_get ps i)) true

-- If these words, in order, belong to the positionals at these indices: the first word that its
-- positional does not accept, after the index of that positional.
abbrev pub refused_word : List Positional → List ℕ → List (List ℕ) → Option (ℕ × List ℕ)
refused_word ps [] words = None
refused_word ps (i ∷ places) [] = None
refused_word ps (i ∷ places) (word ∷ words) =
    if takes_at ps i word then refused_word ps places words else Some (i, word)

-- each of these words belongs to a positional that accepts it
pub record AreTaken (ps : List Positional) (words : List (List ℕ)) : Type 0 where
  pub places : List ℕ
  pub are_places : ArePlaces ps (length words) places
  pub none : refused_word ps places words ≡ None

-- the first word that its positional does not accept is this one, and the positional is at this
-- index
pub record IsNotTaken (ps : List Positional) (words : List (List ℕ)) (index : ℕ) (word : List ℕ)
    : Type 0 where
  pub places : List ℕ
  pub are_places : ArePlaces ps (length words) places
  pub refused : refused_word ps places words ≡ Some (index, word)
