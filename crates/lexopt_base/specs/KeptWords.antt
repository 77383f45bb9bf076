-- Words with a cursor: how contracts see them, and how a word is taken.
use Rattle.std.specs.Prelude.{◌≡◌, ◌≤◌, ◌-◌, ℕ, zero, suc, List, [], ◌∷◌, drop, length}
use Rattle.std.specs.Prelude.{slice_index_or, vec_len}
use Rattle.std.specs.Prelude.{Option, Some, None}
use Rattle.lexopt_base.specs.declared.kept_words.KeptWords.TheInside.{Inside}

-- the word just before the cursor, or no bytes if there is none, and the words after the cursor
pub record Kept : Type 0 where
  pub current : List ℕ
  pub left : List (List ℕ)

-- the word just before this place, or no bytes at place 0
abbrev pub word_before : ℕ → List (List ℕ) → List ℕ
word_before zero words = []
word_before (suc place) words = slice_index_or words place []

abbrev pub kept_of : Inside → Kept
kept_of w = record {
  current = word_before w.count w.words.items;
  left = drop w.count w.words.items;
}

-- the cursor is among the words
abbrev pub IsWithin : Inside → Type 0
IsWithin w = w.count ≤ vec_len w.words

-- this is the first of the words, or there is none
abbrev pub IsFirst : Option (List ℕ) → List (List ℕ) → Type 0
IsFirst None words = words ≡ []
IsFirst (Some word) words = (others : List (List ℕ)) × (words ≡ word ∷ others)

-- the word after the cursor is taken, if there is one
abbrev pub TakesNext : Kept → Option (List ℕ) → Kept → Type 0
TakesNext kept None after = (kept.left ≡ []) × (after ≡ kept)
TakesNext kept (Some word) after = kept.left ≡ word ∷ after.left

-- the last `count` bytes of a word
abbrev pub last_bytes : ℕ → List ℕ → List ℕ
last_bytes count word = drop (length word - count) word
