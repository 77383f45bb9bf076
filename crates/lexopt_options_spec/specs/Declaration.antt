-- What a program declares: its options and its positionals, in order. The source is
-- `docs/behaviour.md`. Names are without their dashes, texts are their UTF-8.
use Rattle.std.specs.Prelude.{◌≡◌, ℕ, Bool, true, false, ◌==◌, ◌||◌, ◌&&◌, not, List, [], ◌∷◌, ◌++◌}
use Rattle.std.specs.Prelude.{Option, Some, None, is_none, position, slice_get, take, if◌then◌else◌}
use Rattle.std.specs.Prelude.{codes, filter, length, map, nat_lt}
use Rattle.std.specs.Option.{option_to_list}
use Rattle.std.specs.List.{flat_map, list_all, list_any}
use Rattle.std.specs.Cmp.Lexicographic.{pointwise}
use Rattle.lexopt_spec.specs.Pieces.{replacement, lossy_characters}
use Rattle.lexopt_spec.specs.UnreadLine.{dash, equals}
use Rattle.lexopt_line_spec.specs.Table.{Name, short, long, Kind, flag, one, optional, several, Table}

-- how much the help tells
pub data Detail : Type 0 where
  -- without the longer help texts of options, and without the epilogue
  brief : Detail
  full : Detail

-- what an option asks for instead of the program's work
pub data Asked : Type 0 where
  for_help : Asked
  for_brief_help : Asked
  -- the version, which is this text
  for_version : List ℕ → Asked

-- what the values of an option or the words of a positional may be, and how shells complete them
pub data Words : Type 0 where
  -- anything; shells complete the names of files
  files : Words
  -- anything; shells complete the names of directories
  directories : Words
  -- anything; shells complete nothing
  text : Words
  -- what is in this list, and nothing else; shells complete it
  listed : List (List ℕ) → Words

-- this value or word is accepted
abbrev pub accepts : Words → List ℕ → Bool
accepts (listed words) value = list_any (λ w. pointwise ◌==◌ w value) words
accepts words value = true

-- what the label of an option shows beside its own names
pub data Beside : Type 0 where
  nothing : Beside
  -- a flag before it, by this character
  a_flag : ℕ → Beside
  -- its negation: a flag before it whose name is `no-` and then the long name of the option
  negation : Beside

-- an option, with at least one name
pub record Declared : Type 0 where
  pub short_name : Option ℕ
  pub long_name : Option (List ℕ)
  pub kind : Kind
  -- the placeholder of its value in messages and in the help; empty for a flag
  pub placeholder : List ℕ
  -- its help text
  pub help : List ℕ
  -- a longer help text, which the full help shows instead, if there is one
  pub details : Option (List ℕ)
  -- what it asks for, if anything
  pub asks : Option Asked
  -- its heading in the help, if it has one
  pub heading : Option (List ℕ)
  -- the help leaves it out, no hint has its name, and it is offered only where it is typed whole
  pub hidden : Bool
  -- every legal line has it
  pub required : Bool
  -- the value that it has where a line does not have it, if there is one
  pub default : Option (List ℕ)
  -- the exclusive group that it is in, if it is in one: a legal line has at most one of its options
  pub exclusive : Option (List ℕ)
  -- what its values may be
  pub words : Words
  -- the help leaves out the list of its values
  pub hides_list : Bool
  -- further names, by which lines may have it, and which are offered only where they are typed whole
  pub aliases : List Name
  -- what its label shows beside its own names
  pub beside : Beside

-- how often a positional may occur
pub data Count : Type 0 where
  once : Count
  at_most_once : Count
  any_number : Count
  at_least_once : Count

-- it has to occur
abbrev pub has_to_occur : Count → Bool
has_to_occur once = true
has_to_occur at_most_once = false
has_to_occur any_number = false
has_to_occur at_least_once = true

-- it may occur more than once
abbrev pub may_repeat : Count → Bool
may_repeat once = false
may_repeat at_most_once = false
may_repeat any_number = true
may_repeat at_least_once = true

pub record Positional : Type 0 where
  pub placeholder : List ℕ
  pub count : Count
  -- its help text; the help has no entry for a positional whose help text has no word, unless it
  -- shows its list
  pub help : List ℕ
  -- what its words may be
  pub words : Words
  -- the help leaves out the list of its words
  pub hides_list : Bool

pub record Declaration : Type 0 where
  -- the program's name
  pub program : List ℕ
  -- what the program does
  pub about : List ℕ
  -- what comes after the name in each usage line; if there is none, one usage line is generated
  pub usage : List (List ℕ)
  pub options : List Declared
  pub positionals : List Positional
  -- paragraphs at the end of the help
  pub epilogue : List (List ℕ)
  -- in a cluster, `=` separates an option from its value
  pub short_equals : Bool

-- ---- an option by its name

-- an option's own names, which the help, messages and shells show
abbrev pub names_of : Declared → List Name
names_of o = map short (option_to_list o.short_name) ++ map long (option_to_list o.long_name)

-- all of its names, which lines may have
abbrev pub all_names : Declared → List Name
all_names o = names_of o ++ o.aliases

-- both are the same name
abbrev pub is_name : Name → Name → Bool
is_name (short c) (short d) = d == c
is_name (long name) (long n) = pointwise ◌==◌ n name
is_name name n = false

-- the name is one of these
abbrev pub is_one_of : List Name → Name → Bool
is_one_of names name = list_any (is_name name) names

-- the option has this name
abbrev pub has_name : Name → Declared → Bool
has_name name o = is_one_of (all_names o) name

-- the index of the first option with this name, counted from 0
abbrev pub index_of : List Declared → Name → Option ℕ
index_of options name = position (has_name name) options

-- ---- the table of the options

-- this list, if both kinds are the same, and not that of flags
abbrev pub if_kind : {X : Type 0} → Kind → Kind → List X → List X
if_kind one one xs = xs
if_kind optional optional xs = xs
if_kind several several xs = xs
if_kind k l xs = []

-- the characters among these names, in order
abbrev pub shorts_in : List Name → List ℕ
shorts_in [] = []
shorts_in (short c ∷ names) = c ∷ shorts_in names
shorts_in (long name ∷ names) = shorts_in names

-- the long names among these, in order
abbrev pub longs_in : List Name → List (List ℕ)
longs_in [] = []
longs_in (short c ∷ names) = longs_in names
longs_in (long name ∷ names) = name ∷ longs_in names

-- the characters of the options of this kind, in order
abbrev pub shorts_of : Kind → List Declared → List ℕ
shorts_of k options = flat_map (λ o. if_kind k o.kind (shorts_in (all_names o))) options

-- the long names of the options of this kind, in order
abbrev pub longs_of : Kind → List Declared → List (List ℕ)
longs_of k options = flat_map (λ o. if_kind k o.kind (longs_in (all_names o))) options

-- the table of the options: how many values each has
abbrev pub table : List Declared → Table
table options = record {
  shorts = shorts_of one options;
  longs = longs_of one options;
  optional_shorts = shorts_of optional options;
  optional_longs = longs_of optional options;
  several_shorts = shorts_of several options;
  several_longs = longs_of several options;
}

-- ---- what is wrong with a declaration

-- why an option cannot be declared
pub data Reason : Type 0 where
  -- the character is `-`: the word `--` is the separator, and `--name` is a long option
  dash_name : Reason
  -- the name is empty
  empty_name : Reason
  -- the name has `=` in it: the word `--a=b` is the option `a` with a value
  equals_in_name : Reason
  -- the character or the name has U+FFFD, which represents damage in what was typed
  replacement_in_name : Reason
  -- the character or the name has a blank or a control character of ASCII: a shell separates words
  -- at blanks, and a terminal acts on control characters
  blank_or_control_in_name : Reason
  -- the placeholder of its value is empty, or begins with `-` or `=`: a form that the help shows
  -- could be illegal, or mean another value
  bad_placeholder : Reason
  -- the list of its values is empty, or one of them is empty, begins with `-` or `=`, or has a
  -- blank or a control character
  bad_list : Reason
  -- it has a default, but is required, does not always have one value, or does not accept it
  bad_default : Reason
  -- what its label shows beside its names is not a flag before it whose label shows nothing else, or
  -- it has no long name, or has a character where its label shows that of a flag
  bad_label : Reason
  -- it is in an exclusive group, but required
  bad_exclusive : Reason
  -- an option before it has one of its names
  same_name : Reason

-- a blank or a control character of ASCII
abbrev pub is_blank_or_control : ℕ → Bool
is_blank_or_control b = nat_lt b 0x21 || b == 0x7F

abbrev pub short_fault : ℕ → Option Reason
short_fault c = if c == dash then Some dash_name
    else (if c == replacement then Some replacement_in_name
    else (if is_blank_or_control c then Some blank_or_control_in_name else None))

abbrev pub is_empty : List ℕ → Bool
is_empty [] = true
is_empty (b ∷ bs) = false

abbrev pub has : ℕ → List ℕ → Bool
has c list = list_any (λ b. b == c) list

abbrev pub long_fault : List ℕ → Option Reason
long_fault name = if is_empty name then Some empty_name
    else (if has equals name then Some equals_in_name
    else (if has replacement (lossy_characters name) then Some replacement_in_name
    else (if list_any is_blank_or_control name then Some blank_or_control_in_name else None)))

-- what is wrong with a name
abbrev pub name_fault : Name → Option Reason
name_fault (short c) = short_fault c
name_fault (long name) = long_fault name

abbrev pub is_placeholder : List ℕ → Bool
is_placeholder [] = false
is_placeholder (b ∷ bs) = not (b == dash) && not (b == equals)

abbrev pub placeholder_fault : Kind → List ℕ → Option Reason
placeholder_fault flag placeholder = None
placeholder_fault k placeholder =
    if is_placeholder placeholder then None else Some bad_placeholder

-- this can be in a list
abbrev pub is_listable : List ℕ → Bool
is_listable value = is_placeholder value && not (list_any is_blank_or_control value)

abbrev pub list_fault : Words → Option Reason
list_fault (listed []) = Some bad_list
list_fault (listed words) = if list_all is_listable words then None else Some bad_list
list_fault words = None

-- an option can have this default, by its kind, by whether it is required, and by what it accepts
abbrev pub is_default : Kind → Bool → Words → List ℕ → Bool
is_default one false words value = accepts words value
is_default k required words value = false

abbrev pub default_fault : Declared → Option Reason
default_fault o = if list_all (is_default o.kind o.required o.words) (option_to_list o.default)
    then None else Some bad_default

-- the long name of the negation of an option with this long name
abbrev pub negated : List ℕ → List ℕ
negated name = codes "no-" ++ name

-- the name of the flag that the label of an option with these names shows beside them
abbrev pub name_beside : Beside → Option ℕ → Option (List ℕ) → Option Name
name_beside (a_flag c) None (Some name) = Some (short c)
name_beside negation c (Some name) = Some (long (negated name))
name_beside b c name = None

abbrev pub is_flag : Kind → Bool
is_flag flag = true
is_flag k = false

-- the label of an option shows nothing beside its own names
abbrev pub is_nothing : Beside → Bool
is_nothing nothing = true
is_nothing b = false

-- a flag whose label shows nothing beside its own names
abbrev pub is_plain_flag : Declared → Bool
is_plain_flag o = is_flag o.kind && is_nothing o.beside

-- such a flag among these has this name, if it is one
abbrev pub have_flag : List Declared → Option Name → Bool
have_flag options None = false
have_flag options (Some name) = list_any (λ o. is_plain_flag o && has_name name o) options

-- why an option after these cannot have this beside its names, if that is the name of the flag
abbrev pub label_fault : List Declared → Beside → Option Name → Option Reason
label_fault before nothing name = None
label_fault before b name = if have_flag before name then None else Some bad_label

-- why an option cannot be in this exclusive group, by whether it is required
abbrev pub exclusive_fault : Bool → Option (List ℕ) → Option Reason
exclusive_fault true (Some own) = Some bad_exclusive
exclusive_fault required exclusive = None

-- the first of these reasons, if there is one
abbrev pub or_else : Option Reason → Option Reason → Option Reason
or_else None other = other
or_else (Some reason) other = Some reason

-- the first fault among these names, given the fault of each
abbrev pub names_fault : (Name → Option Reason) → List Name → Option Reason
names_fault fault_of [] = None
names_fault fault_of (n ∷ ns) = or_else (fault_of n) (names_fault fault_of ns)

-- one of these names is one of the others
abbrev pub share : List Name → List Name → Bool
share names others = list_any (is_one_of others) names

-- the other option has a name of this one
abbrev pub shares_name : Declared → Declared → Bool
shares_name o other = share (all_names o) (all_names other)

-- why this option cannot be declared after those before it, given the fault of each name
abbrev pub fault_by : (Name → Option Reason) → List Declared → Declared → Option Reason
fault_by fault_of before o = or_else (names_fault fault_of (all_names o))
    (or_else (placeholder_fault o.kind o.placeholder) (or_else (list_fault o.words)
    (or_else (default_fault o)
    (or_else (label_fault before o.beside (name_beside o.beside o.short_name o.long_name))
    (or_else (exclusive_fault o.required o.exclusive)
    (if list_any (shares_name o) before then Some same_name else None))))))

-- why this option cannot be declared after those before it
abbrev pub fault : List Declared → Declared → Option Reason
fault before o = fault_by name_fault before o

-- why each of these options cannot be declared, where others come before them
abbrev pub faults : List Declared → List Declared → List (Option Reason)
faults before [] = []
faults before (o ∷ os) = fault before o ∷ faults (before ++ o ∷ []) os

-- all of these options can be declared together
abbrev pub is_sound : List Declared → Bool
is_sound options = list_all is_none (faults [] options)

-- these positionals can be declared together: at most one of them may occur more than once
abbrev pub are_clear : List Positional → Bool
are_clear [] = true
are_clear (p ∷ ps) =
    if may_repeat p.count then not (list_any (λ q. may_repeat q.count) ps) else are_clear ps

-- the list of each of these positionals can be declared, if it has one
abbrev pub are_listable : List Positional → Bool
are_listable positionals = list_all (λ p. is_none (list_fault p.words)) positionals

-- the option at this index is the first that cannot be declared after those before it, for this
-- reason
pub record IsFirstFault (options : List Declared) (index : ℕ) (reason : Reason) : Type 0 where
  pub here : slice_get (faults [] options) index ≡ Some (Some reason)
  pub before : list_all is_none (take index (faults [] options)) ≡ true

-- the positional at this index is the second that may occur more than once
pub record IsSecondRepeated (positionals : List Positional) (index : ℕ) : Type 0 where
  pub positional : Positional
  pub here : slice_get positionals index ≡ Some positional
  pub repeats : may_repeat positional.count ≡ true
  pub before : length (filter (λ p. may_repeat p.count) (take index positionals)) ≡ 1

-- the positional at this index is the first whose list cannot be declared
pub record IsFirstBadList (positionals : List Positional) (index : ℕ) : Type 0 where
  pub positional : Positional
  pub here : slice_get positionals index ≡ Some positional
  pub bad : list_fault positional.words ≡ Some bad_list
  pub before : are_listable (take index positionals) ≡ true
