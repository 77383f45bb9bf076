-- The result of `first_codepoint`.
use Rattle.std.specs.Prelude.{◌≡◌, ℕ, List, [], Option, Some, None}
use Rattle.lexopt_spec.specs.Pieces.{IsFirstPiece}
use Rattle.lexopt_words.specs.declared.codepoint.FirstCodepoint.{FirstCodepoint}
use Rattle.lexopt_words.specs.declared.codepoint.FirstCodepoint.TheVariants.{Empty, Character}
use Rattle.lexopt_words.specs.declared.codepoint.FirstCodepoint.TheVariants.{Damage}

-- the character of the piece; damage has none
abbrev pub character_of : FirstCodepoint → Option ℕ
character_of Empty = None
character_of (Character c size) = Some c
character_of (Damage size) = None

-- the number of bytes of the piece
abbrev pub size_of : FirstCodepoint → ℕ
size_of Empty = 0
size_of (Character c size) = size
size_of (Damage size) = size

-- the result is the first piece of the bytes, by the table of well-formed sequences
abbrev pub IsFirstOf : List ℕ → FirstCodepoint → Type 0
IsFirstOf bytes Empty = bytes ≡ []
IsFirstOf bytes (Character c size) = IsFirstPiece bytes size (Some c)
IsFirstOf bytes (Damage size) = IsFirstPiece bytes size None
