-- The unread line: the part of a command line that is still to be read. Contracts see a parser as
-- its unread line. The source is `docs/behaviour.md`. A word is a list of bytes, and a name is the
-- UTF-8 of its text.
use Rattle.std.specs.Prelude.{◌≡◌, ◌≢◌, ℕ, Bool, true, false, ◌==◌, ◌&&◌, ◌||◌, not, ◌⊎◌, List, []}
use Rattle.std.specs.Prelude.{◌∷◌, ◌++◌, Option, Some, None, encode_utf8, if◌then◌else◌}
use Rattle.std.specs.List.{All}
use Rattle.lexopt_spec.specs.Pieces.{lossy}

abbrev pub dash : ℕ
dash = 0x2D

abbrev pub equals : ℕ
equals = 0x3D

-- the unread part of the word that is being read
pub data Tail : Type 0 where
  no_tail : Tail
  -- the value of a long option, after its `=`
  joined : List ℕ → Tail
  -- the unread bytes of a cluster: never empty
  rest : List ℕ → Tail

-- the option read last
pub data LastOption : Type 0 where
  no_option : LastOption
  short_option : ℕ → LastOption
  long_option : List ℕ → LastOption

pub record UnreadLine : Type 0 where
  pub tail : Tail
  -- the unread words, in order
  pub words : List (List ℕ)
  -- the separator has been read
  pub ended : Bool
  pub last : LastOption
  -- in a cluster, `=` separates an option from its value
  pub short_equals : Bool
  -- the binary name, if the line has one; no rule changes it
  pub bin_name : Option (List ℕ)

-- there is a tail only if there is a last option, and never after the separator; the rest of a
-- cluster is never empty
abbrev pub TailFits : Tail → LastOption → Bool → Type 0
TailFits no_tail last ended = Unit {0}
TailFits (joined value) last ended = (last ≢ no_option) × (ended ≡ false)
TailFits (rest bytes) last ended = (last ≢ no_option) × (ended ≡ false) × (bytes ≢ [])

-- every line that a parser can have is one of these: it has one at the start, and every call leads
-- from one to one
abbrev pub IsLine : UnreadLine → Type 0
IsLine u = TailFits u.tail u.last u.ended

-- the line of these words, of which none has been read
abbrev pub fresh : List (List ℕ) → UnreadLine
fresh words = record {
  tail = no_tail;
  words = words;
  ended = false;
  last = no_option;
  short_equals = true;
  bin_name = None;
}

-- the same, if the first word, if there is one, is the binary name; it is kept as lossy text
abbrev pub invoked : List (List ℕ) → UnreadLine
invoked [] = fresh []
invoked (word ∷ words) = record (fresh words) { bin_name = Some (lossy word) }

-- an option with its dashes
abbrev pub spelling : LastOption → Option (List ℕ)
spelling no_option = None
spelling (short_option c) = Some (dash ∷ encode_utf8 c)
spelling (long_option name) = Some (dash ∷ dash ∷ name)

-- these bytes as the rest of a cluster
abbrev pub rest_of : List ℕ → Tail
rest_of [] = no_tail
rest_of (b ∷ bs) = rest (b ∷ bs)

-- the pending value, and whether it is joined to its option by `=`
abbrev pub pending_in : Bool → Tail → Option (List ℕ × Bool)
pending_in short_equals no_tail = None
pending_in short_equals (joined value) = Some (value, true)
pending_in short_equals (rest []) = None
pending_in short_equals (rest (b ∷ bs)) = if short_equals && b == equals then Some (bs, true)
    else Some (b ∷ bs, false)

abbrev pub pending : UnreadLine → Option (List ℕ × Bool)
pending u = pending_in u.short_equals u.tail

abbrev pub BeginsWith : ℕ → List ℕ → Type 0
BeginsWith b [] = ⊥
BeginsWith b (c ∷ cs) = c ≡ b

-- the word is plain: it comes after the separator, or is `-`, or does not begin with a dash
abbrev pub IsPlain : Bool → List ℕ → Type 0
IsPlain ended word = (ended ≡ true) ⊎ ((word ≡ dash ∷ []) ⊎ ¬ BeginsWith dash word)

-- the same, as a boolean
abbrev pub is_plain : Bool → List ℕ → Bool
is_plain ended [] = true
is_plain ended (b ∷ []) = true
is_plain ended (b ∷ c ∷ cs) = ended || not (b == dash)

-- the next word can be one of several values
abbrev pub IsNormalIn : Bool → List (List ℕ) → Type 0
IsNormalIn ended [] = ⊥
IsNormalIn ended (word ∷ words) = IsPlain ended word

-- `front` is the longest front of the words that are all plain, and `left` are the other words
pub record IsPlainFront (ended : Bool) (words front left : List (List ℕ)) : Type 0 where
  pub words_are : words ≡ front ++ left
  pub plain : All (IsPlain ended) front
  pub longest : ¬ IsNormalIn ended left
