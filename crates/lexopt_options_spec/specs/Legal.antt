-- What words mean under a declaration: relations between words and items, without calls or state.
-- The source is `docs/behaviour.md`.
use Rattle.std.specs.Prelude.{◌≡◌, ◌≤◌, ◌+◌, ◌==◌, ◌&&◌, ◌++◌, ℕ, suc, Bool, true, false, List, []}
use Rattle.std.specs.Cmp.Lexicographic.{pointwise}
use Rattle.std.specs.Prelude.{◌∷◌, length, map, Option, Some, None, if◌then◌else◌, is_none, not}
use Rattle.std.specs.Prelude.{option_and_then, position, slice_get, unwrap_or}
use Rattle.std.specs.List.{list_all, list_any}
use Rattle.std.specs.Option.{option_map, option_to_list}
use Rattle.lexopt_line_spec.specs.Table as spec
use Rattle.lexopt_line_spec.specs.Table.{Item}
use Rattle.lexopt_line_spec.specs.Spelling.{Spells}
use Rattle.lexopt_options_spec.specs.Declaration.{Declared, Declaration, Positional, accepts}
use Rattle.lexopt_options_spec.specs.Declaration.{index_of, may_repeat, table}
use Rattle.lexopt_options_spec.specs.Places.{AreTaken, least}

-- what is read from a line, in order: an option by its index in the declaration, whichever of its
-- names was typed, with its value if it has one; an option of several values, with all of them; or
-- a positional
pub data Parsed : Type 0 where
  option : ℕ → Option (List ℕ) → Parsed
  several : ℕ → List (List ℕ) → Parsed
  positional : List ℕ → Parsed

-- what is read for an item; `None` if the option is not declared
abbrev pub parsed_item : List Declared → Item → Option Parsed
parsed_item options (spec.option name value) =
    option_map (λ i. option i value) (index_of options name)
parsed_item options (spec.many name values) =
    option_map (λ i. several i values) (index_of options name)
parsed_item options (spec.positional word) = Some (positional word)

-- ---- how many positionals there are

abbrev pub counts : Parsed → ℕ
counts (option i value) = 0
counts (several i values) = 0
counts (positional word) = 1

-- how many positionals are among these
abbrev pub positional_count : List Parsed → ℕ
positional_count [] = 0
positional_count (s ∷ ss) = counts s + positional_count ss

-- how many positionals may occur; `None` if there is no limit, since one may occur more than once
abbrev pub most : List Positional → Option ℕ
most ps = if list_any (λ p. may_repeat p.count) ps then None else Some (length ps)

abbrev pub IsWithin : ℕ → Option ℕ → Type 0
IsWithin n None = Unit {0}
IsWithin n (Some limit) = n ≤ limit

-- the words of the positionals among these, in order
abbrev pub positional_words : List Parsed → List (List ℕ)
positional_words [] = []
positional_words (positional word ∷ l) = word ∷ positional_words l
positional_words (s ∷ l) = positional_words l

-- ---- which options there are

-- this is the option at this index
abbrev pub is_option : ℕ → Parsed → Bool
is_option i (option j value) = j == i
is_option i (several j values) = j == i
is_option i (positional word) = false

-- the option at this index is among these
abbrev pub occurs : ℕ → List Parsed → Bool
occurs i l = list_any (is_option i) l

-- the option at this index is required
abbrev pub is_required : List Declared → ℕ → Bool
is_required options i = unwrap_or (option_map (λ o. o.required) (slice_get options i)) false

-- both are there, and the same
abbrev pub are_same : Option (List ℕ) → Option (List ℕ) → Bool
are_same (Some text) (Some other) = pointwise ◌==◌ text other
are_same text other = false

-- the exclusive group of the option at this index, if it is in one
abbrev pub exclusive_at : List Declared → ℕ → Option (List ℕ)
exclusive_at options i = option_and_then (λ o. o.exclusive) (slice_get options i)

-- the options at these indices exclude each other: they are two, of one group
abbrev pub exclude : List Declared → ℕ → ℕ → Bool
exclude options i j = not (j == i) && are_same (exclusive_at options i) (exclusive_at options j)

-- the options at these indices exclude each other, and both are there, as this tells
abbrev pub clash : List Declared → (ℕ → Bool) → ℕ → ℕ → Bool
clash options there i j = exclude options i j && (there i && there j)

-- no two of the options that are there exclude each other
abbrev pub AreApart : List Declared → (ℕ → Bool) → Type 0
AreApart options there = (i j : ℕ) → clash options there i j ≡ false

-- the option at this index with its default, if it has one and is not among these
abbrev pub default_beside : List Parsed → ℕ → Declared → List Parsed
default_beside l i o =
    if occurs i l then [] else map (λ value. option i (Some value)) (option_to_list o.default)

-- those of these options that have a default and are not among these, in order, where the first of
-- these options has this index
abbrev pub defaults_beside : List Parsed → ℕ → List Declared → List Parsed
defaults_beside l i [] = []
defaults_beside l i (o ∷ os) = default_beside l i o ++ defaults_beside l (suc i) os

-- what is read, after the defaults of the options that are not among it
abbrev pub with_defaults : List Declared → List Parsed → List Parsed
with_defaults options l = defaults_beside l 0 options ++ l

-- ---- which values are accepted

-- the option at this index, if there is one, accepts this value
abbrev pub accepts_at : List Declared → ℕ → List ℕ → Bool
accepts_at options i value =
    unwrap_or (option_map (λ o. accepts o.words value) (slice_get options i)) true

-- the first value that its option does not accept, if there is one
abbrev pub refused_value : List Declared → Parsed → Option (List ℕ)
refused_value options (option i None) = None
refused_value options (option i (Some value)) =
    if accepts_at options i value then None else Some value
refused_value options (several i values) = option_and_then (λ n. slice_get values n)
    (position (λ value. not (accepts_at options i value)) values)
refused_value options (positional word) = None

-- each option among these accepts its values
abbrev pub are_accepted : List Declared → List Parsed → Bool
are_accepted options l = list_all (λ s. is_none (refused_value options s)) l

-- ---- a whole line

-- the words legally spell declared options, and at most as many positionals as the declaration
-- allows, and this is what they mean
pub record MeansFront (d : Declaration) (words : List (List ℕ)) (l : List Parsed) : Type 0 where
  pub items : List Item
  pub spelled : Spells (table d.options) d.short_equals words items
  pub parsed : map (parsed_item d.options) items ≡ map (λ s. Some s) l
  pub within : IsWithin (positional_count l) (most d.positionals)

-- and at least as many positionals as the declaration requires, and each required option, with
-- values and words that the options and the positionals accept; maybe options that exclude each
-- other
pub record MeansWhole (d : Declaration) (words : List (List ℕ)) (l : List Parsed) : Type 0 where
  pub front : MeansFront d words l
  pub enough : least d.positionals ≤ positional_count l
  pub complete : (i : ℕ) → is_required d.options i ≡ true → occurs i l ≡ true
  pub accepted : are_accepted d.options l ≡ true
  pub taken : AreTaken d.positionals (positional_words l)

-- and no two options that exclude each other
pub record Means (d : Declaration) (words : List (List ℕ)) (l : List Parsed) : Type 0 where
  pub whole : MeansWhole d words l
  pub apart : AreApart d.options (λ i. occurs i l)
