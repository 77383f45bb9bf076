-- The grammar of whole lines: which words spell which items, without calls or states.
-- The source is `docs/behaviour.md`, after the README of lexopt 0.3.2, "Command line syntax".
use Rattle.std.specs.Prelude.{◌≡◌, ◌≢◌, ℕ, Bool, true, false, ◌⊎◌, List, [], ◌∷◌, ◌++◌, length, map}
use Rattle.std.specs.Prelude.{Contains, Some, None, encode_utf8}
use Rattle.std.specs.Char.{IsScalar}
use Rattle.std.specs.Str.{IsUtf8}
use Rattle.lexopt_spec.specs.Pieces.{IsDamage, replacement, lossy, lossy_characters}
use Rattle.lexopt_spec.specs.UnreadLine.{dash, equals, BeginsWith, IsPlain, IsPlainFront}
use Rattle.lexopt_line_spec.specs.Table.{Name, short, long, Item, option, positional, many, Kind}
use Rattle.lexopt_line_spec.specs.Table.{flag, one, optional, several, kind, Table}

-- ---- the bytes that may represent an option's name

pub record Letters : Type 1 where
  -- these bytes, with those after them in the word, represent the character
  pub character : ℕ → List ℕ → List ℕ → Type 0
  -- these bytes represent the name
  pub name : List ℕ → List ℕ → Type 0

-- only its UTF-8 represents a character, and only its bytes, which are UTF-8, represent a name
abbrev pub exact : Letters
exact = record {
  character = λ c bytes after. IsScalar c × (bytes ≡ encode_utf8 c);
  name = λ name bytes. IsUtf8 name × (bytes ≡ name);
}

-- damage may also represent U+FFFD
abbrev pub damaged : Letters
damaged = record {
  character = λ c bytes after. (IsScalar c × (bytes ≡ encode_utf8 c))
      ⊎ ((c ≡ replacement) × IsDamage (bytes ++ after) (length bytes));
  name = λ name bytes. lossy bytes ≡ name;
}

-- ---- an option's value

-- the text after an option's name in its word
pub data After : Type 0 where
  nothing : After
  -- a value right after a character
  attached : List ℕ → After
  -- a value after `=`
  joined : List ℕ → After

-- a flag, with this text after its name in its word and these words after that word, is this item,
-- and the words `left` are left
pub data NoValue (name : Name) (after : After) (words : List (List ℕ)) (item : Item)
    (left : List (List ℕ)) : Type 0 where
  no_value : after ≡ nothing → item ≡ option name None → left ≡ words
      → NoValue name after words item left

-- the same for an option of one value
pub data OneValue (name : Name) (after : After) (words : List (List ℕ)) (item : Item)
    (left : List (List ℕ)) : Type 0 where
  attached_value : (v : List ℕ) → after ≡ attached v → item ≡ option name (Some v) → left ≡ words
      → OneValue name after words item left
  joined_value : (v : List ℕ) → after ≡ joined v → item ≡ option name (Some v) → left ≡ words
      → OneValue name after words item left
  -- the next word, whatever it looks like
  next_word : (w : List ℕ) → after ≡ nothing → item ≡ option name (Some w) → w ∷ left ≡ words
      → OneValue name after words item left

-- the same for an option of one value or none, which never takes the next word
pub data OptionalValue (name : Name) (after : After) (words : List (List ℕ)) (item : Item)
    (left : List (List ℕ)) : Type 0 where
  no_optional : after ≡ nothing → item ≡ option name None → left ≡ words
      → OptionalValue name after words item left
  attached_optional : (v : List ℕ) → after ≡ attached v → item ≡ option name (Some v) → left ≡ words
      → OptionalValue name after words item left
  joined_optional : (v : List ℕ) → after ≡ joined v → item ≡ option name (Some v) → left ≡ words
      → OptionalValue name after words item left

-- the same for an option of several values, at least one: it takes the next words up to the first
-- one that is not plain
pub data SeveralValues (name : Name) (after : After) (words : List (List ℕ)) (item : Item)
    (left : List (List ℕ)) : Type 0 where
  joined_several : (v : List ℕ) → after ≡ joined v → item ≡ many name (v ∷ []) → left ≡ words
      → SeveralValues name after words item left
  attached_several : (v : List ℕ) (front : List (List ℕ)) → after ≡ attached v
      → IsPlainFront false words front left → item ≡ many name (v ∷ front)
      → SeveralValues name after words item left
  several_words : (front : List (List ℕ)) → after ≡ nothing → IsPlainFront false words front left
      → front ≢ [] → item ≡ many name front
      → SeveralValues name after words item left

abbrev pub Completes : Kind → Name → After → List (List ℕ) → Item → List (List ℕ) → Type 0
Completes flag = NoValue
Completes one = OneValue
Completes optional = OptionalValue
Completes several = SeveralValues

-- ---- clusters, such as `-abc`

-- these bytes begin with `=`, and `short_equals` is on, so it is a mark
abbrev pub BeginsWithMark : Bool → List ℕ → Type 0
BeginsWithMark short_equals bytes = (short_equals ≡ true) × BeginsWith equals bytes

-- these bytes come after the last option of a cluster
pub data IsAfterLast (short_equals : Bool) (bytes : List ℕ) (after : After) : Type 0 where
  nothing_more : bytes ≡ [] → after ≡ nothing → IsAfterLast short_equals bytes after
  a_value : bytes ≢ [] → ¬ BeginsWithMark short_equals bytes → after ≡ attached bytes
      → IsAfterLast short_equals bytes after
  marked_value : (v : List ℕ) → short_equals ≡ true → bytes ≡ equals ∷ v → after ≡ joined v
      → IsAfterLast short_equals bytes after

-- these bytes of a cluster, with the words after it, spell the items, and the words `left` are left
pub data Cluster (letters : Letters) (t : Table) (short_equals : Bool)
    (words left : List (List ℕ)) : List ℕ → List Item → Type 0 where
  -- a flag, and more bytes, which do not begin with a mark
  flag_first : (c : ℕ) (character others : List ℕ) (items : List Item)
      → letters.character c character others → kind t (short c) ≡ flag
      → ¬ BeginsWithMark short_equals others
      → Cluster letters t short_equals words left others items
      → Cluster letters t short_equals words left (character ++ others)
      (option (short c) None ∷ items)
  last_option : (c : ℕ) (character others : List ℕ) (after : After) (item : Item)
      → letters.character c character others
      → IsAfterLast short_equals others after
      → Completes (kind t (short c)) (short c) after words item left
      → Cluster letters t short_equals words left (character ++ others) (item ∷ [])

-- ---- long options, such as `--name` and `--name=value`

-- the text after the dashes of a word has these bytes as its name, and then this
pub data IsLong (text bytes : List ℕ) (after : After) : Type 0 where
  name_alone : bytes ≢ [] → text ≡ bytes → after ≡ nothing → IsLong text bytes after
  name_and_value : (v : List ℕ) → text ≡ bytes ++ equals ∷ v → after ≡ joined v
      → IsLong text bytes after

-- ---- a whole line

-- a front of these words spells the items, and the words `left` are left
pub data Group (letters : Letters) (t : Table) (short_equals : Bool) (words : List (List ℕ))
    (items : List Item) (left : List (List ℕ)) : Type 0 where
  cluster : (bytes : List ℕ) (others : List (List ℕ)) → words ≡ (dash ∷ bytes) ∷ others
      → ¬ BeginsWith dash bytes
      → Cluster letters t short_equals others left bytes items
      → Group letters t short_equals words items left
  long_option : (text bytes name : List ℕ) (after : After) (item : Item) (others : List (List ℕ))
      → words ≡ (dash ∷ dash ∷ text) ∷ others
      → IsLong text bytes after → ¬ Contains bytes equals → letters.name name bytes
      → Completes (kind t (long name)) (long name) after others item left
      → items ≡ item ∷ [] → Group letters t short_equals words items left

pub data Line (letters : Letters) (t : Table)
    (short_equals : Bool) : List (List ℕ) → List Item → Type 0 where
  no_words : Line letters t short_equals [] []
  plain_word : (w : List ℕ) (words : List (List ℕ)) (items : List Item) → IsPlain false w
      → Line letters t short_equals words items
      → Line letters t short_equals (w ∷ words) (positional w ∷ items)
  group : (words left : List (List ℕ)) (front items : List Item)
      → Group letters t short_equals words front left → Line letters t short_equals left items
      → Line letters t short_equals words (front ++ items)
  -- `--`: each word after it is a positional
  separator : (words : List (List ℕ))
      → Line letters t short_equals ((dash ∷ dash ∷ []) ∷ words) (map positional words)

-- the words legally spell the items
abbrev pub Spells : Table → Bool → List (List ℕ) → List Item → Type 0
Spells = Line exact

-- the same, if damage may also represent U+FFFD
abbrev pub Shows : Table → Bool → List (List ℕ) → List Item → Type 0
Shows = Line damaged

-- ---- names without U+FFFD

abbrev pub IsWholeName : Name → Type 0
IsWholeName (short c) = c ≢ replacement
IsWholeName (long name) = ¬ Contains (lossy_characters name) replacement

-- `P` holds of the name of each option
abbrev pub HaveNames : (Name → Type 0) → List Item → Type 0
HaveNames P [] = Unit {0}
HaveNames P (option name value ∷ items) = P name × HaveNames P items
HaveNames P (many name values ∷ items) = P name × HaveNames P items
HaveNames P (positional word ∷ items) = HaveNames P items

-- no option has U+FFFD in its name
abbrev pub HaveWholeNames : List Item → Type 0
HaveWholeNames = HaveNames IsWholeName
