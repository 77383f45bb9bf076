-- The kinds of words before the separator.
use Rattle.std.specs.Prelude.{◌≡◌, ◌≢◌, ℕ, false, List, [], ◌∷◌}
use Rattle.lexopt_spec.specs.UnreadLine.{dash, BeginsWith, IsPlain}
use Rattle.lexopt_words.specs.declared.word.WordKind.{WordKind}
use Rattle.lexopt_words.specs.declared.word.WordKind.TheVariants.{Separator, Long, Shorts}
use Rattle.lexopt_words.specs.declared.word.WordKind.TheVariants.{Positional}

-- the word is of this kind, if the separator has not been read
abbrev pub IsOfKind : List ℕ → WordKind → Type 0
IsOfKind word Separator = word ≡ dash ∷ dash ∷ []
IsOfKind word Long = (text : List ℕ) × (word ≡ dash ∷ dash ∷ text) × (text ≢ [])
IsOfKind word Shorts = (bytes : List ℕ) × (word ≡ dash ∷ bytes) × (bytes ≢ [])
    × (BeginsWith dash bytes → ⊥)
IsOfKind word Positional = IsPlain false word
