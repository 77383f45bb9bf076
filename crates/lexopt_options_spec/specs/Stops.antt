-- Where the reading of a line that is not legal stops, and why. The source is `docs/behaviour.md`.
use Rattle.std.specs.Prelude.{◌≡◌, ◌≤◌, ◌<◌, ℕ, Bool, true, false, List, [], map, Some, None, slice_get}
use Rattle.std.specs.Prelude.{◌∷◌, slice_index_or, unwrap_or}
use Rattle.std.specs.Option.{option_map}
use Rattle.lexopt_spec.specs.UnreadLine.{Tail, UnreadLine, IsLine}
use Rattle.lexopt_spec.specs.Steps as steps
use Rattle.lexopt_spec.specs.Steps.{Next}
use Rattle.lexopt_spec.specs.Runs.{Call, Step}
use Rattle.lexopt_line_spec.specs.Table.{Item, Name, kind}
use Rattle.lexopt_line_spec.specs.Readings.{IsDue, ReadsItems, option_reply, start}
use Rattle.lexopt_options_spec.specs.Declaration.{Declaration, Declared, Positional, index_of}
use Rattle.lexopt_options_spec.specs.Declaration.{table}
use Rattle.lexopt_options_spec.specs.Legal.{IsWithin, Parsed, are_accepted, clash, is_option}
use Rattle.lexopt_options_spec.specs.Legal.{is_required}
use Rattle.lexopt_options_spec.specs.Legal.{most, occurs, positional_count, positional_words}
use Rattle.lexopt_options_spec.specs.Legal.{refused_value, parsed_item}
use Rattle.lexopt_options_spec.specs.Places.{AreTaken, IsNotTaken, least, required}

-- what is wrong with a line
pub data Mistake : Type 0 where
  -- an option that is not declared, and the rest of its word
  unknown_option : Name → Tail → Mistake
  -- an option without values, with its dashes, has this value
  unexpected_value : List ℕ → List ℕ → Mistake
  -- the option at this index, typed as this with its dashes, has no value
  missing_value : ℕ → List ℕ → Mistake
  -- the option at this index does not accept this value
  invalid_value : ℕ → List ℕ → Mistake
  -- one positional more than the declaration allows
  unexpected_argument : List ℕ → Mistake
  -- the positional at this index does not accept this word
  invalid_argument : ℕ → List ℕ → Mistake
  -- a required positional is missing, where there are this many positionals
  missing_argument : ℕ → Mistake
  -- the option at this index is required and missing
  missing_option : ℕ → Mistake
  -- the options at these indices exclude each other
  exclusive_options : ℕ → ℕ → Mistake

-- the line u was read up to the line v, and this was read: declared options, and at most as many
-- positionals as the declaration allows
pub record ReadsUpTo (d : Declaration) (u : UnreadLine) (l : List Parsed) (v : UnreadLine)
    : Type 0 where
  pub items : List Item
  pub read : ReadsItems (table d.options) u items v
  pub line : IsLine v
  pub parsed : map (parsed_item d.options) items ≡ map (λ s. Some s) l
  pub within : IsWithin (positional_count l) (most d.positionals)

-- the option at this index is the first required one that is not among these
pub record IsFirstMissing (options : List Declared) (l : List Parsed) (index : ℕ) : Type 0 where
  pub here : is_required options index ≡ true
  pub absent : occurs index l ≡ false
  pub first : (i : ℕ) → i < index → is_required options i ≡ true → occurs i l ≡ true

-- the options at these indices exclude each other, and both are there, as this tells: the first such
-- option, and the first that it excludes
pub record IsFirstClash (options : List Declared) (there : ℕ → Bool) (index other : ℕ)
    : Type 0 where
  pub here : clash options there index other ≡ true
  pub first : (i j : ℕ) → i < index → clash options there i j ≡ false
  pub nearest : (j : ℕ) → j < other → clash options there index j ≡ false

-- After this was read, the reading of the line stops with this mistake. Of an option that is not
-- declared only the name is read; an option with a value that it does not accept is read with all
-- of its values.
pub data Stops (d : Declaration) (l : List Parsed) (u : UnreadLine) : Mistake → Type 0 where
  not_declared : (name : Name) (v : UnreadLine) → Next u (option_reply name) v
      → index_of d.options name ≡ None → Stops d l u (unknown_option name v.tail)
  value_of_flag : (option value : List ℕ) (v : UnreadLine) → Next u (steps.unexpected option value) v
      → Stops d l u (unexpected_value option value)
  no_value : (name : Name) (index : ℕ) (option : List ℕ) (call : Call) (v w : UnreadLine)
      → Next u (option_reply name) v → index_of d.options name ≡ Some index
      → IsDue (kind (table d.options) name) call → Step call v (steps.missing (Some option)) w
      → Stops d l u (missing_value index option)
  not_accepted : (s : Parsed) (index : ℕ) (value : List ℕ) (v : UnreadLine)
      → ReadsUpTo d u (s ∷ []) v → is_option index s ≡ true
      → refused_value d.options s ≡ Some value → Stops d l u (invalid_value index value)
  one_too_many : (word : List ℕ) (v : UnreadLine) → Next u (steps.positional word) v
      → most d.positionals ≡ Some (positional_count l) → Stops d l u (unexpected_argument word)
  too_few : (v : UnreadLine) → Next u steps.end v → positional_count l < least d.positionals
      → Stops d l u (missing_argument (positional_count l))
  -- no positional is missing
  not_taken : (index : ℕ) (word : List ℕ) (v : UnreadLine) → Next u steps.end v
      → least d.positionals ≤ positional_count l
      → IsNotTaken d.positionals (positional_words l) index word
      → Stops d l u (invalid_argument index word)
  -- and each word is accepted
  not_complete : (index : ℕ) (v : UnreadLine) → Next u steps.end v
      → least d.positionals ≤ positional_count l → AreTaken d.positionals (positional_words l)
      → IsFirstMissing d.options l index → Stops d l u (missing_option index)
  -- and no option is missing
  not_apart : (index other : ℕ) (v : UnreadLine) → Next u steps.end v
      → least d.positionals ≤ positional_count l → AreTaken d.positionals (positional_words l)
      → ((i : ℕ) → is_required d.options i ≡ true → occurs i l ≡ true)
      → IsFirstClash d.options (λ i. occurs i l) index other
      → Stops d l u (exclusive_options index other)

-- The reading of these words stops at this mistake. Before it they mean this, and each option
-- accepts its values.
pub record StopsAt (d : Declaration) (words : List (List ℕ)) (before : List Parsed)
    (mistake : Mistake) : Type 0 where
  pub there : UnreadLine
  pub read : ReadsUpTo d (start d.short_equals words) before there
  pub stops : Stops d before there mistake
  pub accepted : are_accepted d.options before ≡ true

-- the placeholder of the option at this index
abbrev pub placeholder_at : List Declared → ℕ → List ℕ
placeholder_at options index =
    unwrap_or (option_map (λ o. o.placeholder) (slice_get options index)) []

-- the placeholder of the required positional with this number, counted from 0
abbrev pub required_placeholder : List Positional → ℕ → List ℕ
required_placeholder ps n = slice_index_or (map (λ p. p.placeholder) (required ps)) n []

-- it is a mistake of an option, and not that an option is missing or excluded
abbrev pub IsOfOption : Mistake → Type 0
IsOfOption (unknown_option name left) = Unit {0}
IsOfOption (unexpected_value option value) = Unit {0}
IsOfOption (missing_value index option) = Unit {0}
IsOfOption (invalid_value index value) = Unit {0}
IsOfOption mistake = ⊥
