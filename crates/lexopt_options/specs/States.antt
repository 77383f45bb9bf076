-- What words mean as the beginning of a line, and what the next word is, as contracts see it.
use Rattle.std.specs.Prelude.{◌≡◌, ◌≢◌, ◌++◌, ◌∷◌, ℕ, Bool, true, false, List, [], Option, Some, None}
use Rattle.std.specs.Prelude.{is_none, not}
use Rattle.lexopt_spec.specs.UnreadLine.{IsNormalIn, UnreadLine, pending}
use Rattle.lexopt_line_spec.specs.Table as table
use Rattle.lexopt_line_spec.specs.Table.{Kind}
use Rattle.lexopt_line_spec.specs.Values.{ReadsValues, Values}
use Rattle.lexopt_base.specs.Pending.{is_joined}
use Rattle.lexopt_options_spec.specs.Completion.{IsOption, value_of}
use Rattle.lexopt_options_spec.specs.Declaration.{Declaration}
use Rattle.lexopt_options_spec.specs.Legal.{IsWithin, MeansFront, Parsed, are_accepted, most}
use Rattle.lexopt_options_spec.specs.Legal.{positional_count, positional_words, refused_value}
use Rattle.lexopt_options_spec.specs.States as spec
use Rattle.lexopt_options_spec.specs.States.{LeadsNowhere, Leaves}
use Rattle.lexopt_options.specs.declared.front.Front.{Front}
use Rattle.lexopt_options.specs.declared.front.AfterName.{AfterName}
use Rattle.lexopt_options.specs.declared.front.AfterName.TheVariants as after
use Rattle.lexopt_options.specs.declared.front.State.{State}
use Rattle.lexopt_options.specs.declared.front.State.TheVariants as state
use Rattle.lexopt_options.specs.Kinds.{kind_at}
use Rattle.lexopt_options.specs.Reading.{AreSeen, parsed_with}

abbrev pub state_view : State → spec.State
state_view state.Anything = spec.anything
state_view (state.Due i) = spec.due i
state_view (state.First i) = spec.first i
state_view (state.Further i) = spec.further i
state_view state.Ended = spec.ended

abbrev pub first_of : List (List ℕ) → Option (List ℕ)
first_of [] = None
first_of (v ∷ vs) = Some v

abbrev pub with_index : ℕ → Option (List ℕ) → Option (ℕ × List ℕ)
with_index index None = None
with_index index (Some value) = Some (index, value)

abbrev pub index_if : Bool → ℕ → Option ℕ
index_if true index = Some index
index_if false index = None

-- a plain word right after the values of an option of this kind would be one more, where this is
-- the pending value before they are read
abbrev pub can_go_on : Kind → Option (List ℕ × Bool) → Bool
can_go_on table.several found = not (is_joined found)
can_go_on kind found = false

-- these are the values of the option at this index, at this line, or why it has none
abbrev pub IsAfterName : Declaration → ℕ → UnreadLine → AfterName → UnreadLine → Type 0
IsAfterName d i v (after.Values accepted first goes_on) w = (kind : Kind) × (values : Values)
    × (kind ≡ kind_at d.options i) × ReadsValues kind v values w
    × (is_none (refused_value d.options (parsed_with i values)) ≡ accepted)
    × (value_of (parsed_with i values) ≡ first) × (can_go_on kind (pending v) ≡ goes_on)
IsAfterName d i v (after.Lacks (state.Due j)) w = (j ≡ i) × (kind_at d.options i ≡ table.one)
    × (pending v ≡ None) × (v.words ≡ [])
IsAfterName d i v (after.Lacks (state.First j)) w = (j ≡ i) × (kind_at d.options i ≡ table.several)
    × (pending v ≡ None) × (v.words ≡ [])
IsAfterName d i v (after.Lacks other) w = ⊥
IsAfterName d i v after.Missing w = (kind_at d.options i ≡ table.several) × (pending v ≡ None)
    × (v.words ≢ []) × ¬ IsNormalIn v.ended v.words

-- the index of the option that the words mean last, and its first value; `None` if what they mean
-- last, if they mean anything, has no value
abbrev pub IsLast : Declaration → List (List ℕ) → Option (ℕ × List ℕ) → Type 0
IsLast d words None = (others : List Parsed) (last : Parsed)
    → MeansFront d words (others ++ last ∷ []) → value_of last ≡ None
IsLast d words (Some found) = (others : List Parsed) × (last : Parsed)
    × MeansFront d words (others ++ last ∷ []) × IsOption found.0 last
    × (value_of last ≡ Some found.1)

-- what words mean as the beginning of a line, and what the next word is
pub record IsFront (d : Declaration) (words : List (List ℕ)) (front : Front) : Type 0 where
  pub l : List Parsed
  pub leaves : Leaves d words l (state_view front.state)
  pub within : IsWithin (positional_count l) (most d.positionals)
  pub words_are : positional_words l ≡ front.words.items
  pub accepted_is : are_accepted d.options l ≡ front.accepted
  pub are_seen : AreSeen d.options l front.seen.items
  pub last_is : IsLast d words front.last

-- the same; `None` if they mean nothing, and nothing with any one word after them
abbrev pub IsFrontOf : Declaration → List (List ℕ) → Option Front → Type 0
IsFrontOf d words None = LeadsNowhere d words
IsFrontOf d words (Some front) = IsFront d words front
