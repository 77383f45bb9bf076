-- What can come where a word is typed, after the words before it.
-- The source is `docs/behaviour.md`.
use Rattle.std.specs.Prelude.{◌≡◌, ◌≢◌, ◌<◌, ◌≤◌, ◌⊎◌, ◌++◌, ◌==◌, ℕ, length, not, suc}
use Rattle.std.specs.Prelude.{Bool, true, false, nat_eq, List, [], ◌∷◌, map, Option, Some, None}
use Rattle.std.specs.Prelude.{encode_utf8, filter, if◌then◌else◌, slice_get, unwrap_or}
use Rattle.std.specs.Char.{IsScalar}
use Rattle.std.specs.Cmp.Lexicographic.{pointwise}
use Rattle.std.specs.List.{Contains, flat_map, list_any, starts_with}
use Rattle.std.specs.Option.{option_map}
use Rattle.std.specs.Str.{IsUtf8}
use Rattle.lexopt_spec.specs.UnreadLine.{dash, BeginsWith, IsPlain}
use Rattle.lexopt_line_spec.specs.Table.{Name, short, long}
use Rattle.lexopt_options_spec.specs.Declaration.{Declaration, Declared, has_name, index_of}
use Rattle.lexopt_options_spec.specs.Declaration.{names_of, Positional, Words, listed}
use Rattle.lexopt_options_spec.specs.Legal.{IsWithin, Parsed, MeansWhole, MeansFront, exclude, most}
use Rattle.lexopt_options_spec.specs.Legal.{occurs, option, positional, positional_words, several}
use Rattle.lexopt_options_spec.specs.Places.{ArePlaces, refused_word}

-- the word that spells the option of this name, and nothing else
abbrev pub spelling : Name → List ℕ
spelling (short c) = dash ∷ encode_utf8 c
spelling (long name) = dash ∷ dash ∷ name

-- what is read is the option at this index
abbrev pub IsOption : ℕ → Parsed → Type 0
IsOption i (option j value) = j ≡ i
IsOption i (several j values) = j ≡ i
IsOption i (positional word) = ⊥

-- after these words, s can come as the spelling of a declared option: the words mean something; and
-- with some words after s they legally spell that, then this option, and then anything, whether or
-- not options of it exclude each other
pub record CanOccur (d : Declaration) (words : List (List ℕ)) (s : List ℕ) : Type 0 where
  pub name : Name
  pub index : ℕ
  pub declared : index_of d.options name ≡ Some index
  pub spelled : s ≡ spelling name
  pub before : List Parsed
  pub parsed : Parsed
  pub later : List Parsed
  pub rest : List (List ℕ)
  pub is : IsOption index parsed
  pub words_say : MeansFront d words before
  pub line_means : MeansWhole d (words ++ s ∷ rest) (before ++ parsed ∷ later)

-- a spelling of an option
pub record Spelled : Type 0 where
  pub text : List ℕ
  -- the help text of the option
  pub help : List ℕ
  -- it spells an own name of an option that is not hidden
  pub shown : Bool

-- the spellings of these names of an option
abbrev pub spelled : List ℕ → Bool → List Name → List Spelled
spelled help shown names =
    map (λ n. record { text = spelling n; help = help; shown = shown }) names

abbrev pub spelled_by : Declared → List Spelled
spelled_by o = spelled o.help (not o.hidden) (names_of o) ++ spelled o.help false o.aliases

-- the spellings of these options, in order
abbrev pub spellings : List Declared → List Spelled
spellings options = flat_map spelled_by options

-- the spellings of the option at this index
abbrev pub spellings_at : List Declared → ℕ → List Spelled
spellings_at options i = unwrap_or (option_map spelled_by (slice_get options i)) []

-- the spellings of those of these options whose index passes this test, in order
abbrev pub spellings_if : (ℕ → Bool) → List Declared → List Spelled
spellings_if passes [] = []
spellings_if passes (o ∷ os) =
    (if passes 0 then spelled_by o else []) ++ spellings_if (λ i. passes (suc i)) os

-- no option at one of these indices excludes the option at this index
abbrev pub is_free : List Declared → List ℕ → ℕ → Bool
is_free options indices i = not (list_any (λ k. exclude options k i) indices)

abbrev pub texts : List Spelled → List (List ℕ)
texts list = map (λ s. s.text) list

-- after these words, s can come where `typed` is typed, which is UTF-8: it begins so, no option
-- before excludes the one that it spells, and it is shown, or is typed whole
pub record Completes (d : Declaration) (words : List (List ℕ)) (typed s : List ℕ) : Type 0 where
  pub text : IsUtf8 typed
  pub begins : starts_with nat_eq s typed ≡ true
  pub possible : CanOccur d words s
  pub apart : (i : ℕ) → occurs i possible.before ≡ true
      → exclude d.options i possible.index ≡ false
  pub shown : Contains (texts (filter (λ s. s.shown) (spellings_at d.options possible.index))) s
      ⊎ (s ≡ typed)

-- this spelling of an option that can come is offered where this is typed
abbrev pub is_offered : List ℕ → Spelled → Bool
is_offered typed s =
    if s.shown then starts_with nat_eq s.text typed else pointwise ◌==◌ s.text typed

-- those of these spellings that are offered where this is typed, each with its help text
abbrev pub offered : List ℕ → List Spelled → List (List ℕ × List ℕ)
offered typed list = map (λ s. (s.text, s.help)) (filter (is_offered typed) list)

-- ---- where an option can come

-- the words mean this, and mean the same with `--` after them: they have no separator, and no value
-- is due
pub record IsOpen (d : Declaration) (words : List (List ℕ)) (l : List Parsed) : Type 0 where
  pub front : MeansFront d words l
  pub with_separator : MeansFront d (words ++ (dash ∷ dash ∷ []) ∷ []) l

-- a name is text, as a `char` or a `&str` is
abbrev pub IsText : Name → Type 0
IsText (short c) = IsScalar c
IsText (long name) = IsUtf8 name

-- the names of these options are text
abbrev pub AreText : List Declared → Type 0
AreText options = (name : Name) → list_any (has_name name) options ≡ true → IsText name

-- ---- a word that is not an option

-- what a word is
pub data Role : Type 0 where
  -- a value of the option at this index
  value : ℕ → Role
  -- a positional, with these before it
  argument : List (List ℕ) → Role

-- what the last word is, where this is read last, after these
abbrev pub role_of : List Parsed → Parsed → Role
role_of before (option i v) = value i
role_of before (several i values) = value i
role_of before (positional word) = argument (positional_words before)

-- what is read is this word whole, or ends with it: it is the value, the last of several values, or
-- the positional
abbrev pub EndsWith : List ℕ → Parsed → Type 0
EndsWith w (option i v) = v ≡ Some w
EndsWith w (several i values) = (others : List (List ℕ)) × (values ≡ others ++ w ∷ [])
EndsWith w (positional word) = word ≡ w

-- with w after them these words mean this, and what is read last ends with w: no option is in w
pub record Takes (d : Declaration) (words : List (List ℕ)) (w : List ℕ) (before : List Parsed)
    (last : Parsed) : Type 0 where
  pub means : MeansFront d (words ++ w ∷ []) (before ++ last ∷ [])
  pub whole : EndsWith w last

-- w begins with what was typed, and is longer; and it is plain, unless a dash was typed first
pub record Extends (typed w : List ℕ) : Type 0 where
  pub begins : starts_with nat_eq w typed ≡ true
  pub longer : w ≢ typed
  pub plain : ¬ BeginsWith dash typed → IsPlain false w

-- What each word is, after these words, that begins with what was typed, is longer, and is not an
-- option. `None` means that no such word is a value or a positional. If the words and such a word
-- mean something that ends with it, they mean the same without it: then it is the separator, and the
-- last value or positional is `--`.
abbrev pub HasRole : Declaration → List (List ℕ) → List ℕ → Option Role → Type 0
HasRole d words typed None = (w : List ℕ) → Extends typed w → (before : List Parsed) (last : Parsed)
    → Takes d words w before last → MeansFront d words (before ++ last ∷ [])
HasRole d words typed (Some role) = (w : List ℕ) → Extends typed w → (before : List Parsed)
    × (last : Parsed) × Takes d words w before last × (role_of before last ≡ role)

-- ---- a value in the word of its option

-- the first value of what is read, if it is an option that has one
abbrev pub value_of : Parsed → Option (List ℕ)
value_of (option j v) = v
value_of (several j []) = None
value_of (several j (v ∷ vs)) = Some v
value_of (positional word) = None

-- An option can come after these words. What was typed means options, of which the last is the
-- option at this index. That has a value, and this text comes before the value.
pub record JoinsValue (d : Declaration) (words : List (List ℕ)) (typed : List ℕ) (index : ℕ)
    (before : List ℕ) : Type 0 where
  pub parsed : List Parsed
  pub is_open : IsOpen d words parsed
  pub others : List Parsed
  pub last : Parsed
  pub word_means : MeansFront d (typed ∷ []) (others ++ last ∷ [])
  pub is : IsOption index last
  pub value : List ℕ
  pub has_value : value_of last ≡ Some value
  pub apart : typed ≡ before ++ value
  pub text : IsUtf8 before

-- the index of an option, and what comes before its value in a word
pub record Joined : Type 0 where
  pub index : ℕ
  pub before : List ℕ

-- what was typed after these words has a value of this option in it; `None` if it has none
abbrev pub IsJoined : Declaration → List (List ℕ) → List ℕ → Option Joined → Type 0
IsJoined d words typed None = (i : ℕ) (before : List ℕ) → ¬ JoinsValue d words typed i before
IsJoined d words typed (Some joined) = JoinsValue d words typed joined.index joined.before

-- ---- the positionals that a word can belong to

-- A word after these words belongs to the positional at index i, and each of these words to a
-- positional that accepts it, with some more words at the end or none.
pub record CanOwn (ps : List Positional) (words : List (List ℕ)) (i : ℕ) : Type 0 where
  pub count : ℕ
  pub longer : length words < count
  pub within : IsWithin count (most ps)
  pub places : List ℕ
  pub are_places : ArePlaces ps count places
  pub none : refused_word ps places words ≡ None
  pub here : slice_get places (length words) ≡ Some i

-- each of these numbers is less than the next
abbrev pub IsAscending : List ℕ → Type 0
IsAscending [] = Unit {0}
IsAscending (i ∷ []) = Unit {0}
IsAscending (i ∷ j ∷ l) = (i < j) × IsAscending (j ∷ l)

-- these are the indices of the positionals that a word after these words can belong to
pub record AreOwners (ps : List Positional) (words : List (List ℕ)) (owners : List ℕ)
    : Type 0 where
  pub sound : (i : ℕ) → Contains owners i → CanOwn ps words i
  pub complete : (i : ℕ) → CanOwn ps words i → Contains owners i
  pub in_order : IsAscending owners

-- these are the indices of the positionals that a word with this role can belong to: none, if it is
-- not a positional
abbrev pub AreOwnersIn : List Positional → Option Role → List ℕ → Type 0
AreOwnersIn ps (Some (argument words)) owners = AreOwners ps words owners
AreOwnersIn ps role owners = owners ≡ []

-- with some more words, each of these belongs to a positional that accepts it
pub record CanBeTaken (ps : List Positional) (words : List (List ℕ)) : Type 0 where
  pub count : ℕ
  pub longer : length words ≤ count
  pub within : IsWithin count (most ps)
  pub places : List ℕ
  pub are_places : ArePlaces ps count places
  pub none : refused_word ps places words ≡ None

-- ---- values in lists

-- the values of a list
abbrev pub list_of : Words → List (List ℕ)
list_of (listed values) = values
list_of words = []

-- the values in the list of an option
abbrev pub listed_by : Option Declared → List (List ℕ)
listed_by None = []
listed_by (Some o) = list_of o.words

-- the values in the list of the option that a word is a value of
abbrev pub values_at : List Declared → Option Role → List (List ℕ)
values_at options None = []
values_at options (Some (argument words)) = []
values_at options (Some (value i)) = listed_by (slice_get options i)

-- the words in the list of the positional at this index
abbrev pub words_at : List Positional → ℕ → List (List ℕ)
words_at ps i = unwrap_or (option_map (λ p. list_of p.words) (slice_get ps i)) []

-- the words that have a value in the list of that option, where its value is typed
abbrev pub joined_at : List Declared → Option Joined → List (List ℕ)
joined_at options None = []
joined_at options (Some joined) =
    map (λ v. joined.before ++ v) (listed_by (slice_get options joined.index))

-- The values in lists that begin with what was typed, in order: of the option that a word is a
-- value of, by its role; of the positionals at these indices; and of the option whose value is
-- typed in the word, each with the option before it.
abbrev pub offered_values : Declaration → List ℕ → Option Role → List ℕ → Option Joined → List (List ℕ)
offered_values d typed role owners joined =
    filter (λ v. starts_with nat_eq v typed) (values_at d.options role)
    ++ filter (λ v. starts_with nat_eq v typed) (flat_map (words_at d.positionals) owners)
    ++ filter (λ v. starts_with nat_eq v typed) (joined_at d.options joined)
