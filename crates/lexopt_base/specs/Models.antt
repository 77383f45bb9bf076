-- How contracts see a parser: as an unread line.
use Rattle.std.specs.Prelude.{◌≡◌, ◌<◌, ◌≤◌, ℕ, List, Bool, true, false, length, drop, string_bytes}
use Rattle.std.specs.Option.{option_map}
use Rattle.lexopt_spec.specs.UnreadLine.{UnreadLine, Tail, no_tail, joined, rest_of}
use Rattle.lexopt_spec.specs.UnreadLine as line
use Rattle.lexopt_spec.specs.Pieces.{first_piece, after_first_piece, shown}
use Rattle.lexopt_spec.specs.Steps.{IsLongOption}
use Rattle.lexopt_base.specs.declared.parser.State.{State}
use Rattle.lexopt_base.specs.declared.parser.State.TheVariants.{Ready, PendingValue, Shorts}
use Rattle.lexopt_base.specs.declared.parser.State.TheVariants.{FinishedOpts}
use Rattle.lexopt_base.specs.declared.parser.LastOption.{LastOption}
use Rattle.lexopt_base.specs.declared.parser.LastOption.TheVariants.{Nothing, Short, Long}
use Rattle.lexopt_base.specs.declared.parser.Parser.TheInside.{Inside}

-- the tail that is left of the word just before the cursor
abbrev pub tail_of : List ℕ → State → Tail
tail_of word Ready = no_tail
tail_of word (PendingValue position) = joined (drop position word)
tail_of word (Shorts position) = rest_of (drop position word)
tail_of word FinishedOpts = no_tail

abbrev pub ended_of : State → Bool
ended_of Ready = false
ended_of (PendingValue position) = false
ended_of (Shorts position) = false
ended_of FinishedOpts = true

abbrev pub last_of : LastOption → List ℕ → line.LastOption
last_of Nothing name = line.no_option
last_of (Short c) name = line.short_option c
last_of Long name = line.long_option name

abbrev pub line_of : Inside → UnreadLine
line_of p = record {
  tail = tail_of p.words.current p.state;
  words = p.words.left;
  ended = ended_of p.state;
  last = last_of p.last_option (string_bytes p.name);
  short_equals = p.short_equals;
  bin_name = option_map string_bytes p.bin_name;
}

-- the position is in the word: before its end in a cluster; otherwise after at least one byte
abbrev pub IsPlaced : List ℕ → State → Type 0
IsPlaced word Ready = Unit {0}
IsPlaced word (PendingValue position) = (0 < position) × (position ≤ length word)
IsPlaced word (Shorts position) = position < length word
IsPlaced word FinishedOpts = Unit {0}

-- there is a tail only if there is a last option
abbrev pub HasOption : LastOption → State → Type 0
HasOption Nothing Ready = Unit {0}
HasOption Nothing (PendingValue position) = ⊥
HasOption Nothing (Shorts position) = ⊥
HasOption Nothing FinishedOpts = Unit {0}
HasOption (Short c) state = Unit {0}
HasOption Long state = Unit {0}

pub record IsSound (p : Inside) : Type 0 where
  pub placed : IsPlaced p.words.current p.state
  pub option : HasOption p.last_option p.state

-- a short option is read from this position of its word: its character, and the state after it
pub record IsShortRead (word : List ℕ) (position c : ℕ) (state : State) : Type 0 where
  pub shown_is : c ≡ shown (first_piece (drop position word)).char
  pub tail : tail_of word state ≡ rest_of (after_first_piece (drop position word))
  pub ended : ended_of state ≡ false
  pub placed : IsPlaced word state

-- a long option is read from its word: its name, and the state after it
pub record IsLongRead (word name : List ℕ) (state : State) : Type 0 where
  pub option : IsLongOption (drop 2 word) name (tail_of word state)
  pub ended : ended_of state ≡ false
  pub placed : IsPlaced word state
