-- The words that the relations of `Speller` choose, and the faults that they name, computed: what
-- an item adds at its place. Laws and worked examples about these relations are proved by it. No
-- contract of code cites it.
use Rattle.std.specs.Prelude.{ℕ, suc, Bool, true, false, ◌==◌, ◌&&◌, not, List, [], ◌∷◌, ◌++◌}
use Rattle.std.specs.Prelude.{Option, Some, None, Result, Ok, Err, encode_utf8, if◌then◌else◌}
use Rattle.std.specs.List.{list_any, list_all}
use Rattle.std.specs.Str.{is_utf8}
use lib.Utf8.{scalar}
use Rattle.lexopt_spec.specs.UnreadLine.{dash, equals, is_plain}
use Rattle.lexopt_line_spec.specs.Table.{short, long, Item, option, many, positional, Kind, flag}
use Rattle.lexopt_line_spec.specs.Table.{one, optional, several, kind, Table}
use Rattle.lexopt_line_spec.specs.Spelling.{After, nothing, attached, joined}
use Rattle.lexopt_line_spec.specs.Speller.{Reason, no_name, equals_in_name, unexpected_value}
use Rattle.lexopt_line_spec.specs.Speller.{missing_value, wants_many, not_many, empty_value}
use Rattle.lexopt_line_spec.specs.Speller.{option_among_values, empty_name, past_separator}
use Rattle.lexopt_line_spec.specs.Speller.{dash_without_flag, Place, open_line, in_cluster}
use Rattle.lexopt_line_spec.specs.Speller.{after_values, after_positional, ended, after_bytes}
use Rattle.lexopt_line_spec.specs.Speller.{is_positional, Fault}

-- ---- the values of an option

-- the form of an option: the text after its name in its word, the words after that word, and the
-- place of the next item
pub record Form : Type 0 where
  pub after : After
  pub words : List (List ℕ)
  pub place : Place

-- an option that is only its name
abbrev pub name_only : Place → Form
name_only place = record { after = nothing; words = []; place = place }

-- an option with all its values in its word
abbrev pub in_word : After → Form
in_word after = record { after = after; words = []; place = open_line }

-- a value right after a character; or after `=` if it is empty or begins with `=`, and the setting
-- is on
abbrev pub attached_form : Bool → List ℕ → Result Form Reason
attached_form true [] = Ok (in_word (joined []))
attached_form false [] = Err empty_value
attached_form true (b ∷ bs) = if b == equals then Ok (in_word (joined (b ∷ bs)))
    else Ok (in_word (attached (b ∷ bs)))
attached_form false (b ∷ bs) = Ok (in_word (attached (b ∷ bs)))

-- a short option with one value or none
abbrev pub short_form : Bool → Kind → Option (List ℕ) → Result Form Reason
short_form short_equals flag None = Ok (name_only in_cluster)
short_form short_equals flag (Some v) = Err unexpected_value
short_form short_equals one None = Err missing_value
short_form short_equals one (Some v) =
    Ok (record { after = nothing; words = v ∷ []; place = open_line })
short_form short_equals optional None = Ok (name_only open_line)
short_form short_equals optional (Some v) = attached_form short_equals v
short_form short_equals several value = Err wants_many

-- a long option with one value or none
abbrev pub long_form : Kind → Option (List ℕ) → Result Form Reason
long_form flag None = Ok (name_only open_line)
long_form flag (Some v) = Err unexpected_value
long_form one None = Err missing_value
long_form one (Some v) = Ok (in_word (joined v))
long_form optional None = Ok (name_only open_line)
long_form optional (Some v) = Ok (in_word (joined v))
long_form several value = Err wants_many

-- values in words of their own; the boolean is whether all are plain
abbrev pub words_form : Bool → List (List ℕ) → Result Form Reason
words_form true values = Ok (record { after = nothing; words = values; place = after_values })
words_form false values = Err option_among_values

-- the same for a short option, whose first value comes right after the character if it is not
-- plain; the booleans are whether the first value is plain, and whether the others are
abbrev pub short_words_form : Bool → Bool → List ℕ → List (List ℕ) → Result Form Reason
short_words_form true others v vs = words_form others (v ∷ vs)
short_words_form false true v vs =
    Ok (record { after = attached v; words = vs; place = after_values })
short_words_form false false v vs = Err option_among_values

-- a short option with several values; the boolean is whether an only value is joined by `=`
abbrev pub short_many_form : Bool → Kind → List (List ℕ) → Result Form Reason
short_many_form joins several [] = Err missing_value
short_many_form true several (v ∷ []) = Ok (in_word (joined v))
short_many_form false several (v ∷ []) = short_words_form (is_plain false v) true v []
short_many_form joins several (v ∷ w ∷ vs) =
    short_words_form (is_plain false v) (list_all (is_plain false) (w ∷ vs)) v (w ∷ vs)
short_many_form joins flag values = Err not_many
short_many_form joins one values = Err not_many
short_many_form joins optional values = Err not_many

-- a long option with several values
abbrev pub long_many_form : Kind → List (List ℕ) → Result Form Reason
long_many_form several [] = Err missing_value
long_many_form several (v ∷ []) = Ok (in_word (joined v))
long_many_form several (v ∷ w ∷ vs) =
    words_form (list_all (is_plain false) (v ∷ w ∷ vs)) (v ∷ w ∷ vs)
long_many_form k values = Err not_many

-- ---- one item

-- the words that an item adds: one word, or bytes that continue the word before, and more words;
-- and the place of the next item
pub record Added : Type 0 where
  pub continues : Bool
  pub word : List ℕ
  pub words : List (List ℕ)
  pub place : Place

-- an option with this name, which has its dashes unless it continues the word before
abbrev pub with_form : Bool → List ℕ → Form → Added
with_form continues name f = record {
  continues = continues;
  word = name ++ after_bytes f.after;
  words = f.words;
  place = f.place;
}

-- a short option; the booleans are whether it is a character, and whether it is `-`
abbrev pub short_added : Bool → Bool → Place → ℕ → Result Form Reason → Result Added Reason
short_added false is_dash place c form = Err no_name
short_added true is_dash place c (Err reason) = Err reason
short_added true is_dash ended c (Ok f) = Err past_separator
short_added true false place c (Ok f) = Ok (with_form false (dash ∷ encode_utf8 c) f)
short_added true true in_cluster c (Ok f) = Ok (with_form true (encode_utf8 c) f)
short_added true true place c (Ok f) = Err dash_without_flag

-- the name is not empty, or a value comes after `=`
abbrev pub is_named : List ℕ → After → Bool
is_named [] nothing = false
is_named [] (attached v) = false
is_named [] (joined v) = true
is_named (b ∷ bs) after = true

-- a long option; the boolean is whether it is named
abbrev pub long_placed : Bool → Place → List ℕ → Form → Result Added Reason
long_placed false place name f = Err empty_name
long_placed true ended name f = Err past_separator
long_placed true place name f = Ok (with_form false (dash ∷ dash ∷ name) f)

-- a long option; the booleans are whether its name is UTF-8, and whether it has `=`
abbrev pub long_added : Bool → Bool → Place → List ℕ → Result Form Reason → Result Added Reason
long_added false has_equals place name form = Err no_name
long_added true true place name form = Err equals_in_name
long_added true false place name (Err reason) = Err reason
long_added true false place name (Ok f) = long_placed (is_named name f.after) place name f

-- a positional needs no separator if it is plain, unless it is the first of successive positionals
-- before which the separator is due
abbrev pub needs_no_separator : Bool → Bool → Place → Bool
needs_no_separator plain due open_line = plain && not due
needs_no_separator plain due in_cluster = plain && not due
needs_no_separator plain due place = plain

-- a positional; the boolean is whether it needs no separator. After several values a separator
-- keeps it from being one more value
abbrev pub positional_added : Bool → Place → List ℕ → Added
positional_added alone ended w = record { continues = false; word = w; words = []; place = ended }
positional_added alone after_values w =
    record { continues = false; word = dash ∷ dash ∷ []; words = w ∷ []; place = ended }
positional_added false place w =
    record { continues = false; word = dash ∷ dash ∷ []; words = w ∷ []; place = ended }
positional_added true place w =
    record { continues = false; word = w; words = []; place = after_positional }

-- an item at this place; the booleans are `short_equals`, whether the only one of several values is
-- to be joined if it can be, and whether the separator is due before successive positionals that
-- begin here
abbrev pub adds : Table → Bool → Bool → Bool → Place → Item → Result Added Reason
adds t short_equals joins due place (option (short c) value) =
    short_added (scalar c) (c == dash) place c (short_form short_equals (kind t (short c)) value)
adds t short_equals joins due place (many (short c) values) =
    short_added (scalar c) (c == dash) place c
    (short_many_form (short_equals && joins) (kind t (short c)) values)
adds t short_equals joins due place (option (long name) value) =
    long_added (is_utf8 name) (list_any (λ b. b == equals) name) place name
    (long_form (kind t (long name)) value)
adds t short_equals joins due place (many (long name) values) =
    long_added (is_utf8 name) (list_any (λ b. b == equals) name) place name
    (long_many_form (kind t (long name)) values)
adds t short_equals joins due place (positional w) =
    Ok (positional_added (needs_no_separator (is_plain false w) due place) place w)

-- ---- all items

-- these items are a positional and, somewhere after it, an option. After several values that are
-- not joined, the separator would have to come before the positional, and so before the option
abbrev pub separator_comes_too_early : List Item → Bool
separator_comes_too_early [] = false
separator_comes_too_early (item ∷ items) = is_positional item && not (list_all is_positional items)

abbrev pub is_plain_item : Item → Bool
is_plain_item (option name value) = true
is_plain_item (many name values) = true
is_plain_item (positional w) = is_plain false w

-- these items are positionals, and one of them is not plain: so the separator comes before all of
-- them. A program that stops at the first positional reads a separator only there
abbrev pub separator_is_due : List Item → Bool
separator_is_due items = list_all is_positional items && not (list_all is_plain_item items)

-- the words spelled from some place on: bytes that continue the word before, and words
pub record Rest : Type 0 where
  pub first : List ℕ
  pub words : List (List ℕ)

abbrev pub put_in_front : Bool → List ℕ → List (List ℕ) → Rest
put_in_front true word words = record { first = word; words = words }
put_in_front false word words = record { first = []; words = word ∷ words }

abbrev pub with_rest : Added → Result Rest Fault → Result Rest Fault
with_rest a (Err fault) = Err (record { index = suc fault.index; reason = fault.reason })
with_rest a (Ok r) = Ok (put_in_front a.continues (a.word ++ r.first) (a.words ++ r.words))

abbrev pub with_rests : Result Added Reason → (Place → Result Rest Fault) → Result Rest Fault
with_rests (Err reason) rest = Err (record { index = 0; reason = reason })
with_rests (Ok a) rest = with_rest a (rest a.place)

unfoldable pub spelled_from : Table → Bool → List Item → Place → Result Rest Fault
spelled_from t short_equals [] place = Ok (record { first = []; words = [] })
spelled_from t short_equals (item ∷ items) place =
    with_rests
    (adds t short_equals (separator_comes_too_early items) (separator_is_due items) place item)
    (spelled_from t short_equals items)

abbrev pub words_or_fault : Result Rest Fault → Result (List (List ℕ)) Fault
words_or_fault (Err fault) = Err fault
words_or_fault (Ok r) = Ok r.words

-- the words that spell the items, or the first item that cannot be spelled after those before it
abbrev pub spelled : Table → Bool → List Item → Result (List (List ℕ)) Fault
spelled t short_equals items = words_or_fault (spelled_from t short_equals items open_line)
