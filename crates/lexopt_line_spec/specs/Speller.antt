-- The words that the speller chooses for items, or the item that cannot be spelled. The source is
-- `docs/behaviour.md`, "From items back to words", after the POSIX Utility Syntax Guidelines and
-- GNU's long options. Each row of the tables there is a constructor here.
use Rattle.std.specs.Prelude.{◌≡◌, ◌≢◌, ◌⊎◌, ℕ, suc, Bool, true, false, ◌<◌, List, [], ◌∷◌, ◌++◌}
use Rattle.std.specs.Prelude.{length, take, map, Contains, Option, Some, None, encode_utf8}
use Rattle.std.specs.Char.{IsScalar}
use Rattle.std.specs.List.{All}
use Rattle.std.specs.Str.{IsUtf8}
use Rattle.lexopt_spec.specs.UnreadLine.{dash, equals, BeginsWith, IsPlain}
use Rattle.lexopt_line_spec.specs.Table.{Name, short, long, Item, option, many, positional, Kind}
use Rattle.lexopt_line_spec.specs.Table.{flag, one, optional, several, kind, Table}
use Rattle.lexopt_line_spec.specs.Spelling.{After, nothing, attached, joined, Spells}

-- the reason why an item cannot be spelled after those before it. `Reason` of `lexopt_spell` is the
-- same for code, without `no_name`
pub data Reason : Type 0 where
  -- the option's name is not a character, or not UTF-8; a `char` and a `String` always are
  no_name : Reason
  -- a long option has `=` in its name
  equals_in_name : Reason
  -- a flag is given a value
  unexpected_value : Reason
  -- an option of one value, or of several, is given none
  missing_value : Reason
  -- an option of several values is not given them as a list
  wants_many : Reason
  -- an option that does not have several values is given a list of them
  not_many : Reason
  -- an empty value cannot come right after a character
  empty_value : Reason
  -- one of several values would be read as an option
  option_among_values : Reason
  -- a long option has the empty name, and no value after `=`
  empty_name : Reason
  -- an option comes after a positional that needs the separator
  past_separator : Reason
  -- the short option `-` has no short flag right before it, whose cluster it could continue
  dash_without_flag : Reason

-- the place of the next item: what comes right before it
pub data Place : Type 0 where
  -- nothing that matters for its words
  open_line : Place
  -- a short flag, the last option of its cluster
  in_cluster : Place
  -- values of an option of several that are not joined: a plain word would be one more value
  after_values : Place
  -- a positional without a separator before it
  after_positional : Place
  -- the separator, perhaps with positionals after it
  ended : Place

-- ---- the items after an item

abbrev pub is_positional : Item → Bool
is_positional (option name value) = false
is_positional (many name values) = false
is_positional (positional w) = true

-- only positionals are left
abbrev pub ArePositionals : List Item → Type 0
ArePositionals items = (words : List (List ℕ)) × (items ≡ map positional words)

-- a positional comes first, and an option somewhere after it
abbrev pub ArePositionalThenOption : List Item → Type 0
ArePositionalThenOption items = (w : List ℕ) × (others : List Item)
    × (items ≡ positional w ∷ others) × ¬ ArePositionals others

-- only positionals are left, and one of them is not plain
abbrev pub NeedSeparator : List Item → Type 0
NeedSeparator items = (words : List (List ℕ)) × (items ≡ map positional words)
    × ¬ All (IsPlain false) words

-- ---- an option and its values

-- there is only one value, a positional comes right after the option and an option somewhere after
-- that, and `short_equals` is on
abbrev pub IsLoneAndJoined : Bool → List Item → List (List ℕ) → Type 0
IsLoneAndJoined short_equals later values = (length values ≡ 1) × (short_equals ≡ true)
    × ArePositionalThenOption later

-- An option of this kind and name, given as this item before the items `later`, has this form: the
-- text after its name in its word, the words after that word, and the place of the next item.
--
-- In the comments v and verbose are flags, o and out have one value, c and color one or none, d and
-- cmd several. "The setting" is `short_equals`.
pub data HasForm (short_equals : Bool) (later : List Item)
    : Kind → Name → Item → After → List (List ℕ) → Place → Type 0 where
  -- v: `-v`, which the option `-` can continue
  short_flag : (c : ℕ) → HasForm short_equals later flag (short c) (option (short c) None)
      nothing [] in_cluster
  -- verbose: `--verbose`
  long_flag : (name : List ℕ) → HasForm short_equals later flag (long name)
      (option (long name) None) nothing [] open_line
  -- o "x": `-o` `x`, whatever the value is
  short_one : (c : ℕ) (v : List ℕ) → HasForm short_equals later one (short c)
      (option (short c) (Some v)) nothing (v ∷ []) open_line
  -- out "x": `--out=x`, whatever the value is
  long_one : (name v : List ℕ) → HasForm short_equals later one (long name)
      (option (long name) (Some v)) (joined v) [] open_line
  -- c and color: `-c` and `--color`
  left_out : (name : Name) → HasForm short_equals later optional name (option name None)
      nothing [] open_line
  -- c "x": `-cx`, if the value is not empty, and does not begin with `=`
  right_after : (c : ℕ) (v : List ℕ) → v ≢ [] → ¬ BeginsWith equals v
      → HasForm short_equals later optional (short c) (option (short c) (Some v))
      (attached v) [] open_line
  -- c "=x": `-c==x`, if the setting is on
  equals_on : (c : ℕ) (v : List ℕ) → BeginsWith equals v → short_equals ≡ true
      → HasForm short_equals later optional (short c) (option (short c) (Some v))
      (joined v) [] open_line
  -- c "=x": `-c=x`, if the setting is off
  equals_off : (c : ℕ) (v : List ℕ) → BeginsWith equals v → short_equals ≡ false
      → HasForm short_equals later optional (short c) (option (short c) (Some v))
      (attached v) [] open_line
  -- c "": `-c=`, if the setting is on
  empty_on : (c : ℕ) → short_equals ≡ true
      → HasForm short_equals later optional (short c) (option (short c) (Some []))
      (joined []) [] open_line
  -- color "x": `--color=x`, whatever the value is
  long_optional : (name v : List ℕ) → HasForm short_equals later optional (long name)
      (option (long name) (Some v)) (joined v) [] open_line
  -- d "1": `-d=1`, if the separator would otherwise come before an option
  lone_joined : (c : ℕ) (v : List ℕ) → IsLoneAndJoined short_equals later (v ∷ [])
      → HasForm short_equals later several (short c) (many (short c) (v ∷ []))
      (joined v) [] open_line
  -- d "1" "2": `-d` `1` `2`, otherwise, if all values are plain
  short_words : (c : ℕ) (v : List ℕ) (vs : List (List ℕ))
      → ¬ IsLoneAndJoined short_equals later (v ∷ vs) → All (IsPlain false) (v ∷ vs)
      → HasForm short_equals later several (short c) (many (short c) (v ∷ vs))
      nothing (v ∷ vs) after_values
  -- d "-1" "2": `-d-1` `2`, otherwise, if the first value is not plain, and all others are
  first_attached : (c : ℕ) (v : List ℕ) (vs : List (List ℕ))
      → ¬ IsLoneAndJoined short_equals later (v ∷ vs) → ¬ IsPlain false v → All (IsPlain false) vs
      → HasForm short_equals later several (short c) (many (short c) (v ∷ vs))
      (attached v) vs after_values
  -- cmd "a": `--cmd=a`, whatever the value is
  long_lone : (name v : List ℕ) → HasForm short_equals later several (long name)
      (many (long name) (v ∷ [])) (joined v) [] open_line
  -- cmd "a" "b": `--cmd` `a` `b`, if all values are plain
  long_words : (name v w : List ℕ) (vs : List (List ℕ)) → All (IsPlain false) (v ∷ w ∷ vs)
      → HasForm short_equals later several (long name) (many (long name) (v ∷ w ∷ vs))
      nothing (v ∷ w ∷ vs) after_values

-- an option of this kind and name, given as this item, has no form, for this reason
pub data HasNoForm (short_equals : Bool) : Kind → Name → Item → Reason → Type 0 where
  -- d "1", given without a list
  no_list : (name : Name) (value : Option (List ℕ))
      → HasNoForm short_equals several name (option name value) wants_many
  -- o "1", given with a list
  with_list : (k : Kind) (name : Name) (values : List (List ℕ)) → k ≢ several
      → HasNoForm short_equals k name (many name values) not_many
  -- v "1"
  flag_with_value : (name : Name) (v : List ℕ)
      → HasNoForm short_equals flag name (option name (Some v)) unexpected_value
  -- o, given no value
  no_value_given : (name : Name) → HasNoForm short_equals one name (option name None) missing_value
  -- d, given an empty list
  no_values_given : (name : Name) → HasNoForm short_equals several name (many name []) missing_value
  -- c "", if the setting is off
  empty_off : (c : ℕ) → short_equals ≡ false
      → HasNoForm short_equals optional (short c) (option (short c) (Some [])) empty_value
  -- d "1" "-x": a value is not plain, and is not the first
  short_among : (c : ℕ) (v : List ℕ) (vs : List (List ℕ)) → ¬ All (IsPlain false) vs
      → HasNoForm short_equals several (short c) (many (short c) (v ∷ vs)) option_among_values
  -- cmd "-x" "a": one of two or more values is not plain
  long_among : (name v w : List ℕ) (vs : List (List ℕ)) → ¬ All (IsPlain false) (v ∷ w ∷ vs)
      → HasNoForm short_equals several (long name) (many (long name) (v ∷ w ∷ vs))
      option_among_values

-- ---- one item

abbrev pub after_bytes : After → List ℕ
after_bytes nothing = []
after_bytes (attached v) = v
after_bytes (joined v) = equals ∷ v

-- a positional at this place is the first of successive positionals
pub data BeginsRow : Place → Type 0 where
  row_at_open : BeginsRow open_line
  row_at_cluster : BeginsRow in_cluster

-- At this place, and before the items `later`, an item adds a word and more words, and leads to the
-- place of the next item.
pub data Adds (t : Table) (short_equals : Bool) (later : List Item)
    : Place → Item → List ℕ → List (List ℕ) → Place → Type 0 where
  -- a short option other than `-`: `-v`, with its value
  short_option : (c : ℕ) (place next : Place) (item : Item) (after : After) (words : List (List ℕ))
      → IsScalar c → c ≢ dash → place ≢ ended
      → HasForm short_equals later (kind t (short c)) (short c) item after words next
      → Adds t short_equals later place item (dash ∷ encode_utf8 c ++ after_bytes after) words next
  -- a long option: `--name`, with its value
  long_option : (name : List ℕ) (place next : Place) (item : Item) (after : After)
      (words : List (List ℕ)) → IsUtf8 name → ¬ Contains name equals
      → (name ≢ []) ⊎ (after ≢ nothing) → place ≢ ended
      → HasForm short_equals later (kind t (long name)) (long name) item after words next
      → Adds t short_equals later place item (dash ∷ dash ∷ name ++ after_bytes after) words next
  -- a positional after the separator: the word
  after_separator : (w : List ℕ) → Adds t short_equals later ended (positional w) w [] ended
  -- right after several values that are not joined: `--` and the word
  separator_after_values : (w : List ℕ)
      → Adds t short_equals later after_values (positional w) (dash ∷ dash ∷ []) (w ∷ []) ended
  -- otherwise, if it is the first of successive positionals, only positionals are left, and one of
  -- them is not plain: `--` and the word
  separator_before_row : (w : List ℕ) (place : Place) → BeginsRow place
      → NeedSeparator (positional w ∷ later)
      → Adds t short_equals later place (positional w) (dash ∷ dash ∷ []) (w ∷ []) ended
  -- otherwise, if it is not plain: `--` and the word
  separator_before_word : (w : List ℕ) (place : Place) → place ≢ ended → ¬ IsPlain false w
      → Adds t short_equals later place (positional w) (dash ∷ dash ∷ []) (w ∷ []) ended
  -- otherwise: the word
  first_of_row : (w : List ℕ) (place : Place) → BeginsRow place → IsPlain false w
      → ¬ NeedSeparator (positional w ∷ later)
      → Adds t short_equals later place (positional w) w [] after_positional
  next_of_row : (w : List ℕ) → IsPlain false w
      → Adds t short_equals later after_positional (positional w) w [] after_positional

-- The same for an item that continues the word before it: it adds these bytes, and more words.
pub data GoesOn (t : Table) (short_equals : Bool) (later : List Item)
    : Place → Item → List ℕ → List (List ℕ) → Place → Type 0 where
  -- the short option `-`, right after a short flag: the second `-` of `-v-`
  dash_option : (next : Place) (item : Item) (after : After) (words : List (List ℕ))
      → HasForm short_equals later (kind t (short dash)) (short dash) item after words next
      → GoesOn t short_equals later in_cluster item (dash ∷ after_bytes after) words next

-- the item is an option of this name
abbrev pub IsOf : Name → Item → Type 0
IsOf name (option other value) = other ≡ name
IsOf name (many other values) = other ≡ name
IsOf name (positional w) = ⊥

-- At this place, and before the items `later`, an item cannot be spelled, for this reason.
pub data CannotBeSpelled (t : Table) (short_equals : Bool) (later : List Item)
    : Place → Item → Reason → Type 0 where
  -- a number that is not a character; each `char` is one
  no_character : (c : ℕ) (place : Place) (item : Item) → ¬ IsScalar c → IsOf (short c) item
      → CannotBeSpelled t short_equals later place item no_name
  -- bytes that are not UTF-8; those of each `String` are
  no_text : (name : List ℕ) (place : Place) (item : Item) → ¬ IsUtf8 name → IsOf (long name) item
      → CannotBeSpelled t short_equals later place item no_name
  -- a long option has `=` in its name
  with_equals : (name : List ℕ) (place : Place) (item : Item) → IsUtf8 name → Contains name equals
      → IsOf (long name) item → CannotBeSpelled t short_equals later place item equals_in_name
  -- a short option has no form
  no_short_form : (c : ℕ) (place : Place) (item : Item) (reason : Reason) → IsScalar c
      → HasNoForm short_equals (kind t (short c)) (short c) item reason
      → CannotBeSpelled t short_equals later place item reason
  -- a long option has no form
  no_long_form : (name : List ℕ) (place : Place) (item : Item) (reason : Reason) → IsUtf8 name
      → ¬ Contains name equals → HasNoForm short_equals (kind t (long name)) (long name) item reason
      → CannotBeSpelled t short_equals later place item reason
  -- a long option has the empty name, and no value after `=`
  empty_long : (place next : Place) (item : Item) (words : List (List ℕ))
      → HasForm short_equals later (kind t (long [])) (long []) item nothing words next
      → CannotBeSpelled t short_equals later place item empty_name
  -- a short option comes after the separator
  short_past_separator : (c : ℕ) (next : Place) (item : Item) (after : After)
      (words : List (List ℕ)) → IsScalar c
      → HasForm short_equals later (kind t (short c)) (short c) item after words next
      → CannotBeSpelled t short_equals later ended item past_separator
  -- a long option comes after the separator
  long_past_separator : (name : List ℕ) (next : Place) (item : Item) (after : After)
      (words : List (List ℕ)) → IsUtf8 name → ¬ Contains name equals
      → (name ≢ []) ⊎ (after ≢ nothing)
      → HasForm short_equals later (kind t (long name)) (long name) item after words next
      → CannotBeSpelled t short_equals later ended item past_separator
  -- the short option `-` has no short flag right before it
  dash_alone : (place next : Place) (item : Item) (after : After) (words : List (List ℕ))
      → place ≢ in_cluster → place ≢ ended
      → HasForm short_equals later (kind t (short dash)) (short dash) item after words next
      → CannotBeSpelled t short_equals later place item dash_without_flag

-- ---- all items

-- From this place on, the items are spelled by these bytes, which continue the word before them,
-- and these words.
pub data SpelledFrom (t : Table) (short_equals : Bool)
    : Place → List Item → List ℕ → List (List ℕ) → Type 0 where
  no_items : (place : Place) → SpelledFrom t short_equals place [] [] []
  new_word : (place next : Place) (item : Item) (later : List Item) (word bytes : List ℕ)
      (more words : List (List ℕ)) → Adds t short_equals later place item word more next
      → SpelledFrom t short_equals next later bytes words
      → SpelledFrom t short_equals place (item ∷ later) [] ((word ++ bytes) ∷ more ++ words)
  same_word : (place next : Place) (item : Item) (later : List Item) (word bytes : List ℕ)
      (more words : List (List ℕ)) → GoesOn t short_equals later place item word more next
      → SpelledFrom t short_equals next later bytes words
      → SpelledFrom t short_equals place (item ∷ later) (word ++ bytes) (more ++ words)

-- the rules choose these words among those that spell the items
abbrev pub SpelledAs : Table → Bool → List Item → List (List ℕ) → Type 0
SpelledAs t short_equals items words = SpelledFrom t short_equals open_line items [] words

-- From this place on, the item of this index, counted from 0, is the first that cannot be spelled,
-- for this reason.
pub data FaultFrom (t : Table) (short_equals : Bool)
    : Place → List Item → ℕ → Reason → Type 0 where
  here : (place : Place) (item : Item) (later : List Item) (reason : Reason)
      → CannotBeSpelled t short_equals later place item reason
      → FaultFrom t short_equals place (item ∷ later) 0 reason
  after_new_word : (place next : Place) (item : Item) (later : List Item) (word : List ℕ)
      (more : List (List ℕ)) (index : ℕ) (reason : Reason)
      → Adds t short_equals later place item word more next
      → FaultFrom t short_equals next later index reason
      → FaultFrom t short_equals place (item ∷ later) (suc index) reason
  after_same_word : (place next : Place) (item : Item) (later : List Item) (word : List ℕ)
      (more : List (List ℕ)) (index : ℕ) (reason : Reason)
      → GoesOn t short_equals later place item word more next
      → FaultFrom t short_equals next later index reason
      → FaultFrom t short_equals place (item ∷ later) (suc index) reason

-- the index of an item that cannot be spelled, counted from 0, and the reason
pub record Fault : Type 0 where
  pub index : ℕ
  pub reason : Reason

-- this is the first item that cannot be spelled after those before it, and the reason
abbrev pub HasFault : Table → Bool → List Item → Fault → Type 0
HasFault t short_equals items fault =
    FaultFrom t short_equals open_line items fault.index fault.reason

-- ---- the item at fault

-- the items before this one can be spelled, and together with it they cannot
pub record IsAtFault (t : Table) (short_equals : Bool) (items : List Item) (i : ℕ) : Type 0 where
  pub within : i < length items
  pub before : (words : List (List ℕ)) × Spells t short_equals words (take i items)
  pub none : (words : List (List ℕ)) → ¬ Spells t short_equals words (take (suc i) items)

-- ---- the two sorts of reasons

-- the reason is the place of the item, not the item itself
abbrev pub is_of_the_place : Reason → Bool
is_of_the_place no_name = false
is_of_the_place equals_in_name = false
is_of_the_place unexpected_value = false
is_of_the_place missing_value = false
is_of_the_place wants_many = false
is_of_the_place not_many = false
is_of_the_place empty_value = false
is_of_the_place option_among_values = false
is_of_the_place empty_name = false
is_of_the_place past_separator = true
is_of_the_place dash_without_flag = true
