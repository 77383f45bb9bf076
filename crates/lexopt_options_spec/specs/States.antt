-- What the next word of a line is, after some words. The source is `docs/behaviour.md`.
use Rattle.std.specs.Prelude.{◌≡◌, ◌==◌, ◌++◌, ◌∷◌, ℕ, Bool, true, false, List, [], length, map}
use Rattle.std.specs.Prelude.{Option, Some, None, if◌then◌else◌}
use Rattle.lexopt_spec.specs.UnreadLine.{dash, IsPlain}
use Rattle.lexopt_line_spec.specs.Table.{Item}
use Rattle.lexopt_line_spec.specs.Spelling.{Spells}
use Rattle.lexopt_options_spec.specs.Completion.{Role, argument, value}
use Rattle.lexopt_options_spec.specs.Declaration.{Declaration, Positional, table}
use Rattle.lexopt_options_spec.specs.Legal.{Parsed, MeansFront, most, option, parsed_item, positional}
use Rattle.lexopt_options_spec.specs.Legal.{several}

-- what the next word is
pub data State : Type 0 where
  -- an option, the separator or a positional
  anything : State
  -- the value of the option at this index, whatever it looks like
  due : ℕ → State
  -- the first of several values of the option at this index: a plain word
  first : ℕ → State
  -- one more of several values of the option at this index if it is plain; otherwise an option or
  -- the separator
  further : ℕ → State
  -- a positional, whatever it looks like
  ended : State

-- the state where the words end, by whether the separator was read, and by the option of several
-- values of which a plain word would be one more, if there is one
abbrev pub state_at_end : Option ℕ → Bool → State
state_at_end going true = ended
state_at_end (Some i) false = further i
state_at_end None false = anything

-- the words spell what is read here, which may have more positionals than the declaration allows
pub record Says (d : Declaration) (words : List (List ℕ)) (l : List Parsed) : Type 0 where
  pub items : List Item
  pub spelled : Spells (table d.options) d.short_equals words items
  pub parsed : map (parsed_item d.options) items ≡ map (λ s. Some s) l

-- and with the separator after them they spell the same
pub record SaysOpenly (d : Declaration) (words : List (List ℕ)) (l : List Parsed) : Type 0 where
  pub says : Says d words l
  pub with_separator : Says d (words ++ (dash ∷ dash ∷ []) ∷ []) l

-- These words are read, and the next word is this. An option that lacks its value is not read yet.
pub data Leaves (d : Declaration) (words : List (List ℕ)) (l : List Parsed) : State → Type 0 where
  leaves_anything : SaysOpenly d words l
      → ((w : List ℕ) → IsPlain false w → Says d (words ++ w ∷ []) (l ++ positional w ∷ []))
      → Leaves d words l anything
  leaves_due : (i : ℕ) → ((m : List Parsed) → ¬ MeansFront d words m)
      → ((w : List ℕ) → Says d (words ++ w ∷ []) (l ++ option i (Some w) ∷ []))
      → Leaves d words l (due i)
  leaves_first : (i : ℕ) → ((m : List Parsed) → ¬ MeansFront d words m)
      → ((w : List ℕ) → IsPlain false w
      → Says d (words ++ w ∷ []) (l ++ several i (w ∷ []) ∷ []))
      → ((w : List ℕ) (m : List Parsed) → ¬ IsPlain false w
      → ¬ MeansFront d (words ++ w ∷ []) m)
      → Leaves d words l (first i)
  leaves_further : (i : ℕ) (before : List Parsed) (values : List (List ℕ))
      → l ≡ before ++ several i values ∷ [] → SaysOpenly d words l
      → ((w : List ℕ) → IsPlain false w
      → Says d (words ++ w ∷ []) (before ++ several i (values ++ w ∷ []) ∷ []))
      → Leaves d words l (further i)
  leaves_ended : Says d words l
      → ((w : List ℕ) → Says d (words ++ w ∷ []) (l ++ positional w ∷ []))
      → Leaves d words l ended

-- as the beginning of a line these words mean nothing, and nothing with any one word after them
pub record LeadsNowhere (d : Declaration) (words : List (List ℕ)) : Type 0 where
  pub here : (m : List Parsed) → ¬ MeansFront d words m
  pub with_more : (w : List ℕ) (m : List Parsed) → ¬ MeansFront d (words ++ w ∷ []) m

-- ---- what a word is in a state

-- an option can come
abbrev pub opens : State → Bool
opens anything = true
opens (due i) = false
opens (first i) = false
opens (further i) = true
opens ended = false

-- a plain word is a positional
abbrev pub takes_positional : State → Bool
takes_positional anything = true
takes_positional (due i) = false
takes_positional (first i) = false
takes_positional (further i) = false
takes_positional ended = true

-- this many positionals are as many as the limit allows, if there is a limit
abbrev pub is_full : Option ℕ → ℕ → Bool
is_full None count = false
is_full (Some limit) count = limit == count

-- a positional after these, if one more is allowed
abbrev pub room : List Positional → List (List ℕ) → Option Role
room ps words = if is_full (most ps) (length words) then None else Some (argument words)

-- What a word is in this state, after these positionals, if it is not an option. `dashed` tells
-- whether a dash was typed first.
abbrev pub role_in : List Positional → List (List ℕ) → Bool → State → Option Role
role_in ps words dashed anything = if dashed then None else room ps words
role_in ps words dashed (due i) = Some (value i)
role_in ps words dashed (first i) = if dashed then None else Some (value i)
role_in ps words dashed (further i) = if dashed then None else Some (value i)
role_in ps words dashed ended = room ps words
