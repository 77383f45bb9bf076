-- What words mean as the beginning of a line, or where their rest begins, as contracts see it. The
-- source is `docs/behaviour.md`.
use Rattle.std.specs.Prelude.{◌≡◌, ◌++◌, ◌∷◌, ℕ, Bool, false, true, List, [], Option, None, Some}
use Rattle.std.specs.Bool.{MatchBool}
use Rattle.lexopt_spec.specs.UnreadLine.{IsPlain, UnreadLine, pending}
use Rattle.lexopt_options_spec.specs.Declaration.{Declaration}
use Rattle.lexopt_options_spec.specs.Legal.{Parsed}
use Rattle.lexopt_options_spec.specs.Rest.{EndsSeparated, HaveNoRest, IsSplit, RestStart}
use Rattle.lexopt_options_spec.specs.Rest.{separated, surplus}
use Rattle.lexopt_options_spec.specs.States.{LeadsNowhere, Says}
use Rattle.lexopt_options.specs.declared.front.Begun.{Begun}
use Rattle.lexopt_options.specs.declared.front.Begun.TheVariants as begun
use Rattle.lexopt_options.specs.declared.front.Front.{Front}
use Rattle.lexopt_options.specs.declared.front.State.{State}
use Rattle.lexopt_options.specs.declared.front.State.TheVariants.{Ended}
use Rattle.lexopt_options.specs.declared.rest.RestStart as rust
use Rattle.lexopt_options.specs.declared.rest.RestStart.TheVariants.{Separated, Surplus}
use Rattle.lexopt_options.specs.States.{IsFrontOf}

-- the separator was read
abbrev pub is_ended : State → Bool
is_ended Ended = true
is_ended s = false

-- words with one positional too many, which is this word
abbrev pub surplus_begun : rust.RestStart → List ℕ → Begun
surplus_begun Surplus word = begun.Rest word
surplus_begun Separated word = begun.Front None

-- the separator is the last of the words, or is not, as this tells
abbrev pub TellsSeparator : Declaration → List (List ℕ) → Bool → Type 0
TellsSeparator d words ends =
    MatchBool ends ((l : List Parsed) × Says d words l × EndsSeparated d words l)
    ((l : List Parsed) → Says d words l → ¬ EndsSeparated d words l)

-- the same by what the words mean as the beginning of a line
abbrev pub TellsEnd : Declaration → List (List ℕ) → Option Front → Type 0
TellsEnd d words None = Unit {0}
TellsEnd d words (Some front) = TellsSeparator d words (is_ended front.state)

-- A rest begins with this word, and the words left in this line are the others of the rest; if the
-- word is one positional too many, the words mean nothing as the beginning of a line. Or the words
-- have no rest, and this is what they mean as the beginning of a line.
abbrev pub IsBegun : RestStart → Declaration → List (List ℕ) → Begun → UnreadLine → Type 0
IsBegun start d words (begun.Rest word) u = (start ≡ surplus → LeadsNowhere d words)
    × (pending u ≡ None) × ((front : List (List ℕ)) × IsSplit start d words front word u.words)
IsBegun start d words (begun.Front front) u = IsFrontOf d words front × HaveNoRest start d words
    × (start ≡ separated → TellsEnd d words front)

-- any word that is plain without a separator before it would begin the rest after these words, or
-- none would, as this tells
abbrev pub TellsRest : RestStart → Declaration → List (List ℕ) → Bool → Type 0
TellsRest start d words can = MatchBool can
    ((word : List ℕ) → IsPlain false word → IsSplit start d (words ++ word ∷ []) words word [])
    ((word : List ℕ) → IsPlain false word → ¬ IsSplit start d (words ++ word ∷ []) words word [])
