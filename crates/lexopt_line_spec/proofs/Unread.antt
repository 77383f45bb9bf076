-- The items that an unread line shows, and those that it shows after one call.
use Rattle.std.proofs.Common.{◌≡◌, ℕ, Bool, true, false, List, [], ◌∷◌, ◌++◌, map, Option, Some, None}
use Rattle.lexopt_spec.specs.UnreadLine.{Tail, no_tail, joined, rest, UnreadLine, pending}
use Rattle.lexopt_spec.specs.Steps as steps
use Rattle.lexopt_spec.specs.Steps.{Reply}
use Rattle.lexopt_line_spec.specs.Table.{Name, short, long, Item, option, many, positional, Kind, flag, kind, Table}
use Rattle.lexopt_line_spec.specs.Spelling as spelling
use Rattle.lexopt_line_spec.specs.Spelling.{damaged, After, nothing, attached, Completes, BeginsWithMark, Cluster, Shows}

-- ---- the items that an unread line shows

-- the bytes of a cluster, with the words after it, show these items
pub record ClusterShows (t : Table) (short_equals : Bool) (bytes : List ℕ) (words : List (List ℕ)) (items : List Item) : Type 0 where
  pub left : List (List ℕ)
  pub front : List Item
  pub others : List Item
  pub cluster : Cluster damaged t short_equals words left bytes front
  pub line : Shows t short_equals left others
  pub items_are : items ≡ front ++ others

abbrev pub PartsShow : Table → Bool → Tail → Bool → List (List ℕ) → List Item → Type 0
PartsShow t short_equals no_tail false words items = Shows t short_equals words items
PartsShow t short_equals no_tail true words items = items ≡ map positional words
PartsShow t short_equals (joined value) ended words items = ⊥
PartsShow t short_equals (rest bytes) ended words items = (¬ BeginsWithMark short_equals bytes) × ClusterShows t short_equals bytes words items

-- the line shows these items, if `next` is called first
abbrev pub ShowsFrom : Table → UnreadLine → List Item → Type 0
ShowsFrom t u items = PartsShow t u.short_equals u.tail u.ended u.words items

-- the pending value, as the text after an option in its word
abbrev pub after_of : Option (List ℕ × Bool) → After
after_of None = nothing
after_of (Some (value, true)) = spelling.joined value
after_of (Some (value, false)) = attached value

-- after an option of this name that has values, the line shows these items, of which the option is
-- the first
pub record ShowsAfter (t : Table) (name : Name) (u : UnreadLine) (items : List Item) : Type 0 where
  pub left : List (List ℕ)
  pub item : Item
  pub others : List Item
  pub completes : Completes (kind t name) name (after_of (pending u)) u.words item left
  pub line : PartsShow t u.short_equals no_tail u.ended left others
  pub items_are : items ≡ item ∷ others

-- these items are this one, and then the items that the line shows
pub record Leads (t : Table) (item : Item) (u : UnreadLine) (items : List Item) : Type 0 where
  pub others : List Item
  pub shows : ShowsFrom t u others
  pub items_are : items ≡ item ∷ others

-- `next` gave this option, of this kind, and left this line
abbrev pub GoesOnShowing : Table → Kind → Name → UnreadLine → List Item → Type 0
GoesOnShowing t flag name u items = Leads t (option name None) u items
GoesOnShowing t k name u items = ShowsAfter t name u items

-- `next` gave this reply and left this line, so the line before it shows these items
abbrev pub NextShows : Table → Reply → UnreadLine → List Item → Type 0
NextShows t (steps.short c) u items = GoesOnShowing t (kind t (short c)) (short c) u items
NextShows t (steps.long name) u items = GoesOnShowing t (kind t (long name)) (long name) u items
NextShows t (steps.positional word) u items = Leads t (positional word) u items
NextShows t steps.end u items = items ≡ []
NextShows t reply u items = ⊥

-- after an option of this name, the call for its values gave this reply and left this line
abbrev pub ValueShows : Table → Name → Reply → UnreadLine → List Item → Type 0
ValueShows t name (steps.taken word) u items = Leads t (option name (Some word)) u items
ValueShows t name (steps.maybe value) u items = Leads t (option name value) u items
ValueShows t name (steps.items values) u items = Leads t (many name values) u items
ValueShows t name reply u items = ⊥
