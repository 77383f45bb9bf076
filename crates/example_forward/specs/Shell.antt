-- Words as a POSIX shell reads them.
-- The source is the Shell Command Language of POSIX, "Quoting".
use Rattle.std.specs.Prelude.{◌≡◌, ◌≢◌, ℕ, Bool, true, false, ◌==◌, ◌||◌, List, [], ◌∷◌, ◌++◌}
use Rattle.std.specs.Prelude.{codes, if◌then◌else◌}
use Rattle.std.specs.Char.{is_ascii_alphanumeric}
use Rattle.std.specs.List.{flat_map, list_all, list_any}

abbrev pub quote : ℕ
quote = 0x27

abbrev pub backslash : ℕ
backslash = 0x5C

abbrev pub line_feed : ℕ
line_feed = 0x0A

-- the byte that no line of a shell holds, and so no word
abbrev pub nul : ℕ
nul = 0x00

-- a byte that has no other meaning to a shell, wherever it occurs in an argument of a command
abbrev pub is_plain : ℕ → Bool
is_plain b = is_ascii_alphanumeric b || list_any (λ mark. mark == b) (codes "%+,-./:=@_")

-- ---- what a shell reads

-- from here on, inside single quotes or outside of them, these bytes are read as the rest of a word
pub data Reads : Bool → List ℕ → List ℕ → Type 0 where
  at_end : Reads false [] []
  plain : (b : ℕ) (bytes word : List ℕ) → is_plain b ≡ true → Reads false bytes word
      → Reads false (b ∷ bytes) (b ∷ word)
  escaped : (b : ℕ) (bytes word : List ℕ) → b ≢ line_feed → b ≢ nul → Reads false bytes word
      → Reads false (backslash ∷ b ∷ bytes) (b ∷ word)
  opening : (bytes word : List ℕ) → Reads true bytes word → Reads false (quote ∷ bytes) word
  quoted_byte : (b : ℕ) (bytes word : List ℕ) → b ≢ quote → b ≢ nul → Reads true bytes word
      → Reads true (b ∷ bytes) (b ∷ word)
  closing : (bytes word : List ℕ) → Reads false bytes word → Reads true (quote ∷ bytes) word

-- these bytes are read as one word, which may be empty
pub record IsReadAs (bytes word : List ℕ) : Type 0 where
  pub some : bytes ≢ []
  pub reads : Reads false bytes word

-- ---- how a word is written here

-- a byte between single quotes; a quote comes after a backslash, outside of them
abbrev pub in_quotes : ℕ → List ℕ
in_quotes b = if b == quote then codes "'\\''" else b ∷ []

abbrev pub needs_none : List ℕ → Bool
needs_none [] = false
needs_none (b ∷ bs) = list_all is_plain (b ∷ bs)

abbrev pub quoted : List ℕ → List ℕ
quoted word = if needs_none word then word else quote ∷ (flat_map in_quotes word ++ (quote ∷ []))
