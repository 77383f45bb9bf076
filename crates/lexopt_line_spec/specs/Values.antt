-- The values of one option: what is taken after its name by its kind, and the line that is left.
use Rattle.std.specs.Prelude.{◌≡◌, ◌⊎◌, ◌<◌, ℕ, List, Option, Some, None, length}
use Rattle.lexopt_spec.specs.UnreadLine.{UnreadLine}
use Rattle.lexopt_spec.specs.Steps.{Reply, Value, taken, maybe, items, no_memory}
use Rattle.lexopt_spec.specs.Runs as calls
use Rattle.lexopt_spec.specs.Runs.{Call, Step}
use Rattle.lexopt_line_spec.specs.Table.{Name, Item, option, many, Kind, flag, one, optional, several}
use Rattle.lexopt_line_spec.specs.Readings.{IsDue}

-- the values of one option. `Values` of `lexopt_items` is the same for code
pub data Values : Type 0 where
  -- of an option of one value, or of one or none; a flag has `None`
  at_most_one : Option (List ℕ) → Values
  -- of an option of several values
  all : List (List ℕ) → Values

-- the item of an option with these values
abbrev pub item_with : Name → Values → Item
item_with name (at_most_one value) = option name value
item_with name (all values) = many name values

-- an option of this kind has these values, and reading them leaves the line `v`
abbrev pub ReadsValues : Kind → UnreadLine → Values → UnreadLine → Type 0
ReadsValues flag u (at_most_one None) v = v ≡ u
ReadsValues one u (at_most_one (Some word)) v = Value u (taken word) v
ReadsValues optional u (at_most_one value) v = Step calls.optional u (maybe value) v
ReadsValues several u (all values) v = (n : ℕ) × (length values < n)
    × Step (calls.values n) u (items values) v
ReadsValues k u values v = ⊥

-- memory runs out; or the call for the values of an option of this kind gives this reply, and
-- leaves the line `v`
abbrev pub ValuesEndBy : Kind → UnreadLine → Reply → UnreadLine → Type 0
ValuesEndBy k u reply v = (reply ≡ no_memory)
    ⊎ ((call : Call) × IsDue k call × Step call u reply v)
