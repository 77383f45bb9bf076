-- Readings of a line by a table: the calls that are made, and the items that their replies mean.
-- The source is `docs/behaviour.md`.
use Rattle.std.specs.Prelude.{◌≡◌, ◌<◌, ℕ, length, Bool, List, [], ◌∷◌, ◌++◌, Option, Some, None}
use Rattle.lexopt_spec.specs.UnreadLine.{UnreadLine, fresh}
use Rattle.lexopt_spec.specs.Steps as steps
use Rattle.lexopt_spec.specs.Steps.{Reply, Next, Value}
use Rattle.lexopt_spec.specs.Runs as calls
use Rattle.lexopt_spec.specs.Runs.{Call, next, value, Run, Step}
use Rattle.lexopt_line_spec.specs.Table.{Name, short, long, Item, option, positional, Kind, flag}
use Rattle.lexopt_line_spec.specs.Table.{one, optional, several, many, kind, Table}

-- the line of these words, of which none has been read, with this `short_equals`
abbrev pub start : Bool → List (List ℕ) → UnreadLine
start short_equals words = record (fresh words) { short_equals = short_equals }

-- the call that is made after an option of this kind; if no option was read last, it is the call
-- after a flag
abbrev pub IsDue : Kind → Call → Type 0
IsDue flag call = call ≡ next
IsDue one call = call ≡ value
IsDue optional call = call ≡ calls.optional
IsDue several call = (n : ℕ) × (call ≡ calls.values n)

-- the reading ends with this reply
abbrev pub IsLast : Reply → Type 0
IsLast steps.end = Unit {0}
IsLast (steps.missing o) = Unit {0}
IsLast (steps.unexpected o word) = Unit {0}
IsLast reply = ⊥

-- all values were taken: the call asked for more than there are
abbrev pub IsFull : Call → Reply → Type 0
IsFull (calls.values n) (steps.items words) = length words < n
IsFull call reply = Unit {0}

-- the reading goes on after this reply as after an option of this kind
abbrev pub GoesOn : Table → Reply → Kind → Type 0
GoesOn t (steps.short c) k = k ≡ kind t (short c)
GoesOn t (steps.long name) k = k ≡ kind t (long name)
GoesOn t (steps.positional word) k = k ≡ flag
GoesOn t (steps.taken word) k = k ≡ flag
GoesOn t (steps.maybe word) k = k ≡ flag
GoesOn t (steps.items words) k = k ≡ flag
GoesOn t reply k = ⊥

-- after an option of this kind, if the calls get these replies, a reading makes these calls, and
-- ends in the reply `final`
pub data AskedAfter (t : Table) (final : Reply) : Kind → List Call → List Reply → Type 0 where
  last : (k : Kind) (call : Call) → IsDue k call → IsLast final
      → AskedAfter t final k (call ∷ []) (final ∷ [])
  more : (k l : Kind) (call : Call) (reply : Reply) (calls : List Call) (replies : List Reply)
      → IsDue k call → IsFull call reply
      → GoesOn t reply l → AskedAfter t final l calls replies
      → AskedAfter t final k (call ∷ calls) (reply ∷ replies)

-- a reading makes these calls: `next`, and after each option of the table the call for its values,
-- up to the end or the first error; no call runs out of memory
abbrev pub Asked : Table → List Call → List Reply → Reply → Type 0
Asked t calls replies final = AskedAfter t final flag calls replies

-- the reply of `next` that gives the option of this name
abbrev pub option_reply : Name → Reply
option_reply (short c) = steps.short c
option_reply (long name) = steps.long name

-- the item of an option, if these replies come after it
abbrev pub item_after : Name → List Reply → Item
item_after name [] = option name None
item_after name (steps.taken word ∷ replies) = option name (Some word)
item_after name (steps.maybe word ∷ replies) = option name word
item_after name (steps.items words ∷ replies) = many name words
item_after name (reply ∷ replies) = option name None

-- the items that the replies of a reading mean
abbrev pub items_of_replies : List Reply → List Item
items_of_replies [] = []
items_of_replies (steps.short c ∷ replies) = item_after (short c) replies ∷ items_of_replies replies
items_of_replies (steps.long name ∷ replies) = item_after (long name) replies ∷ items_of_replies replies
items_of_replies (steps.positional word ∷ replies) = positional word ∷ items_of_replies replies
items_of_replies (reply ∷ replies) = items_of_replies replies

-- a reading of this line ends in this reply, and gives these items
pub record IsReading (t : Table) (u : UnreadLine) (final : Reply) (l : List Item) : Type 0 where
  pub calls : List Call
  pub replies : List Reply
  pub after : UnreadLine
  pub run : Run u calls replies after
  pub asked : Asked t calls replies final
  pub items_are : l ≡ items_of_replies replies

-- the part of the line from `u` to `v` means these items: each reading of `v` is the end of a
-- reading of `u` that gives these items first
abbrev pub MeansUpTo : Table → UnreadLine → List Item → UnreadLine → Type 0
MeansUpTo t u l v = (final : Reply) (m : List Item) → IsReading t v final m
    → IsReading t u final (l ++ m)

-- this item is read first at the line `u`: the calls for it leave the line `w`
pub data ReadsFirst (t : Table) (u : UnreadLine) : Item → UnreadLine → Type 0 where
  first_positional : (word : List ℕ) (w : UnreadLine) → Next u (steps.positional word) w
      → ReadsFirst t u (positional word) w
  first_flag : (name : Name) (w : UnreadLine) → kind t name ≡ flag → Next u (option_reply name) w
      → ReadsFirst t u (option name None) w
  first_one : (name : Name) (word : List ℕ) (v w : UnreadLine) → kind t name ≡ one
      → Next u (option_reply name) v → Value v (steps.taken word) w
      → ReadsFirst t u (option name (Some word)) w
  first_optional : (name : Name) (word : Option (List ℕ)) (v w : UnreadLine)
      → kind t name ≡ optional → Next u (option_reply name) v
      → Step calls.optional v (steps.maybe word) w → ReadsFirst t u (option name word) w
  -- all values were taken
  first_several : (name : Name) (n : ℕ) (words : List (List ℕ)) (v w : UnreadLine)
      → kind t name ≡ several → Next u (option_reply name) v → length words < n
      → Step (calls.values n) v (steps.items words) w → ReadsFirst t u (many name words) w

-- these items are read at the line `u`, and leave the line `w`
abbrev pub ReadsItems : Table → UnreadLine → List Item → UnreadLine → Type 0
ReadsItems t u [] w = w ≡ u
ReadsItems t u (item ∷ items) w = (v : UnreadLine) × ReadsFirst t u item v × ReadsItems t v items w
