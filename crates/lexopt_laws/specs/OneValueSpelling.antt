-- How words spell items if each option has one value or none: the rules of `Spelling`, for smaller
-- tables. A law states that they are the same rules if the lists of the other kinds are empty. The
-- source is `docs/behaviour.md`.
use Rattle.std.specs.Prelude.{◌≡◌, ℕ, Bool, false, List, [], ◌∷◌, ◌++◌, map, Contains, None}
use Rattle.std.specs.Prelude.{if◌then◌else◌}
use Rattle.lexopt_spec.specs.UnreadLine.{dash, equals, BeginsWith, IsPlain}
use Rattle.lexopt_line_spec.specs.Table.{Name, short, long, Item, option, positional, Table}
use Rattle.lexopt_line_spec.specs.Table.{one_value, holds_in}
use Rattle.lexopt_line_spec.specs.Spelling.{Letters, exact, damaged, After, NoValue, OneValue}
use Rattle.lexopt_line_spec.specs.Spelling.{BeginsWithMark, IsAfterLast, IsLong}

pub data ValueKind : Type 0 where
  bare : ValueKind
  valued : ValueKind

pub record OneValueTable : Type 0 where
  pub shorts : List ℕ
  pub longs : List (List ℕ)

unfoldable pub value_kind : OneValueTable → Name → ValueKind
value_kind t name = if holds_in t.shorts t.longs name then valued else bare

abbrev pub CompletesValue : ValueKind → Name → After → List (List ℕ) → Item → List (List ℕ) → Type 0
CompletesValue bare = NoValue
CompletesValue valued = OneValue

-- the same table, with all kinds
abbrev pub widened : OneValueTable → Table
widened t = one_value t.shorts t.longs

-- ---- clusters

-- these bytes of a cluster, with the words after it, spell the items, and leave the last words
pub data OneValueCluster (letters : Letters) (t : OneValueTable) (short_equals : Bool)
    (words left : List (List ℕ)) : List ℕ → List Item → Type 0 where
  -- a flag and more characters, the first of which is not a `=` that joins a value
  flag_first : (c : ℕ) (character others : List ℕ) (items : List Item)
      → letters.character c character others → value_kind t (short c) ≡ bare
      → ¬ BeginsWithMark short_equals others
      → OneValueCluster letters t short_equals words left others items
      → OneValueCluster letters t short_equals words left (character ++ others)
      (option (short c) None ∷ items)
  last_option : (c : ℕ) (character others : List ℕ) (after : After) (item : Item)
      → letters.character c character others
      → IsAfterLast short_equals others after
      → CompletesValue (value_kind t (short c)) (short c) after words item left
      → OneValueCluster letters t short_equals words left (character ++ others) (item ∷ [])

-- ---- a whole line

-- the first of these words spell the items, and leave the last words
pub data OneValueGroup (letters : Letters) (t : OneValueTable) (short_equals : Bool)
    (words : List (List ℕ)) (items : List Item) (left : List (List ℕ)) : Type 0 where
  cluster : (bytes : List ℕ) (others : List (List ℕ)) → words ≡ (dash ∷ bytes) ∷ others
      → ¬ BeginsWith dash bytes
      → OneValueCluster letters t short_equals others left bytes items
      → OneValueGroup letters t short_equals words items left
  long_option : (text bytes name : List ℕ) (after : After) (item : Item) (others : List (List ℕ))
      → words ≡ (dash ∷ dash ∷ text) ∷ others
      → IsLong text bytes after → ¬ Contains bytes equals → letters.name name bytes
      → CompletesValue (value_kind t (long name)) (long name) after others item left
      → items ≡ item ∷ [] → OneValueGroup letters t short_equals words items left

pub data OneValueLine (letters : Letters) (t : OneValueTable)
    (short_equals : Bool) : List (List ℕ) → List Item → Type 0 where
  no_words : OneValueLine letters t short_equals [] []
  plain_word : (w : List ℕ) (words : List (List ℕ)) (items : List Item) → IsPlain false w
      → OneValueLine letters t short_equals words items
      → OneValueLine letters t short_equals (w ∷ words) (positional w ∷ items)
  group : (words left : List (List ℕ)) (front items : List Item)
      → OneValueGroup letters t short_equals words front left
      → OneValueLine letters t short_equals left items
      → OneValueLine letters t short_equals words (front ++ items)
  -- `--`: each word after it is a positional
  separator : (words : List (List ℕ))
      → OneValueLine letters t short_equals ((dash ∷ dash ∷ []) ∷ words) (map positional words)

-- the words legally spell the items
abbrev pub OneValueSpells : OneValueTable → Bool → List (List ℕ) → List Item → Type 0
OneValueSpells = OneValueLine exact

-- the words show the items: they spell them, where damage may be in names
abbrev pub OneValueShows : OneValueTable → Bool → List (List ℕ) → List Item → Type 0
OneValueShows = OneValueLine damaged
