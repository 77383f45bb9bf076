-- The help of declared options: lines of words, labels, entries, the usage, and the whole. The
-- source is `docs/behaviour.md`, which follows the GNU Coding Standards and the output of
-- `ls --help`. Texts are their UTF-8. Columns are counted from 0.
use Rattle.std.specs.Prelude.{◌≡◌, ◌≤◌, ◌<◌, ◌⊎◌, ℕ, Bool, false, true, ◌+◌, ◌-◌, ◌/◌, min, nat_le, ◌==◌, ◌&&◌, not}
use Rattle.std.specs.Prelude.{if◌then◌else◌, List, [], ◌∷◌, ◌++◌, length, take, drop, filter, replicate}
use Rattle.std.specs.Prelude.{codes, encode_utf8, is_none, map, Option, Some, None}
use Rattle.std.specs.Char.{IsScalar}
use Rattle.std.specs.Str.{IsUtf8, chars}
use Rattle.std.specs.List.{AllZip, concat, ends_with, flat_map, join_by, join_with_byte, slice_split}
use Rattle.std.specs.List.{list_any, starts_with, sum_by}
use Rattle.std.specs.Option.{is_some}
use Rattle.bstr.specs.Unicode.{grapheme_spans}
use Rattle.lexopt_spec.specs.Text.{escaped}
use Rattle.lexopt_spec.specs.UnreadLine.{dash, equals}
use Rattle.lexopt_line_spec.specs.Spelling.{After, Completes}
use Rattle.lexopt_line_spec.specs.Table.{Item, Name, option, many, positional, short, long}
use Rattle.lexopt_line_spec.specs.Table.{Kind, flag, one, optional, several}
use Rattle.lexopt_options_spec.specs.Declaration.{Declared, Declaration, Positional, Count, once}
use Rattle.lexopt_options_spec.specs.Declaration.{at_least_once, at_most_once, any_number, is_empty}
use Rattle.lexopt_options_spec.specs.Declaration.{Beside, Detail, Words, a_flag, brief, full}
use Rattle.lexopt_options_spec.specs.Declaration.{has_name, listed, name_beside, negated, negation}
use Rattle.lexopt_options_spec.specs.Legal.{are_same}

-- ---- columns

-- how many columns a text takes: one for each grapheme cluster
unfoldable pub columns : List ℕ → ℕ
columns text = length (grapheme_spans text)

-- the column where the help text of an entry begins: 24, or a third of the width if that is less
abbrev pub help_column : ℕ → ℕ
help_column width = min 24 (width / 3)

abbrev pub blank : ℕ
blank = 0x20

abbrev pub blanks : ℕ → List ℕ
blanks n = replicate n blank

abbrev pub line_feed : ℕ
line_feed = 0x0A

-- ---- the label of an option

-- what comes after a long name; there is no `=` before several values, since it joins only one
abbrev pub after_long : Kind → List ℕ → List ℕ
after_long flag value = []
after_long one value = codes "=" ++ value
after_long optional value = codes "[=" ++ value ++ codes "]"
after_long several value = codes " " ++ value ++ codes "..."

-- what comes after a character, if there is no long name
abbrev pub after_short : Kind → List ℕ → List ℕ
after_short flag value = []
after_short one value = codes " " ++ value
after_short optional value = codes "[" ++ value ++ codes "]"
after_short several value = codes " " ++ value ++ codes "..."

-- what comes after a character, if there is a long name: a value that may be left out is shown
-- after both, since it is typed differently after each; any other value is shown after the long
-- name only
abbrev pub before_long : Kind → List ℕ → List ℕ
before_long optional value = codes "[" ++ value ++ codes "]"
before_long k value = []

-- a long name with its dashes, and with the negation if that is shown beside it
abbrev pub long_shown : Beside → List ℕ → List ℕ
long_shown negation name = codes "--[no-]" ++ name
long_shown b name = codes "--" ++ name

-- what comes before a long name, if the option has no character: the flag that is shown beside it,
-- or blanks up to the column of the long names of other options
abbrev pub before_alone : Beside → List ℕ
before_alone (a_flag c) = codes "-" ++ encode_utf8 c ++ codes ", "
before_alone b = codes "    "

abbrev pub label_of : Beside → Option ℕ → Option (List ℕ) → Kind → List ℕ → List ℕ
label_of b None None k value = []
label_of b (Some c) None k value = codes "-" ++ encode_utf8 c ++ after_short k value
label_of b None (Some name) k value = before_alone b ++ (long_shown b name ++ after_long k value)
label_of b (Some c) (Some name) k value = codes "-" ++ encode_utf8 c ++ before_long k value
    ++ codes ", " ++ (long_shown b name ++ after_long k value)

abbrev pub label : Declared → List ℕ
label o = label_of o.beside o.short_name o.long_name o.kind o.placeholder

-- ---- the forms that a label shows

abbrev pub short_word : ℕ → List ℕ → List ℕ
short_word c value = dash ∷ encode_utf8 c ++ value

abbrev pub long_word : List ℕ → List ℕ
long_word name = dash ∷ dash ∷ name

abbrev pub long_word_with : List ℕ → List ℕ → List ℕ
long_word_with name value = dash ∷ dash ∷ name ++ equals ∷ value

-- what may be left out
abbrev pub in_brackets : List ℕ → List ℕ
in_brackets text = codes "[" ++ text ++ codes "]"

-- what comes after a character: this, unless there is a long name, after which the value is shown
abbrev pub if_alone : Option (List ℕ) → List ℕ → List ℕ
if_alone None text = text
if_alone (Some name) text = []

-- a form that the label shows, with the placeholder for the value: the text of it in the label, its
-- words, and the item that these spell
pub data LabelForm (o : Declared) : List ℕ → List (List ℕ) → Item → Type 0 where
  -- `-v`
  short_flag : (c : ℕ) → o.short_name ≡ Some c → o.kind ≡ flag
      → LabelForm o (short_word c []) (short_word c [] ∷ []) (option (short c) None)
  -- `-o FILE`, or `-o` before a long name
  short_one : (c : ℕ) → o.short_name ≡ Some c → o.kind ≡ one
      → LabelForm o (short_word c (if_alone o.long_name (codes " " ++ o.placeholder)))
      (short_word c [] ∷ o.placeholder ∷ []) (option (short c) (Some o.placeholder))
  -- `-b[SUFFIX]`, without what is in brackets
  short_optional : (c : ℕ) → o.short_name ≡ Some c → o.kind ≡ optional
      → LabelForm o (short_word c (in_brackets o.placeholder))
      (short_word c [] ∷ []) (option (short c) None)
  -- `-b[SUFFIX]`, with it
  short_optional_value : (c : ℕ) → o.short_name ≡ Some c → o.kind ≡ optional
      → LabelForm o (short_word c (in_brackets o.placeholder))
      (short_word c o.placeholder ∷ []) (option (short c) (Some o.placeholder))
  -- `-x PATTERN...`, or `-x` before a long name
  short_several : (c : ℕ) → o.short_name ≡ Some c → o.kind ≡ several
      → LabelForm o
      (short_word c (if_alone o.long_name (codes " " ++ o.placeholder ++ codes "...")))
      (short_word c [] ∷ o.placeholder ∷ []) (many (short c) (o.placeholder ∷ []))
  -- `--verbose`
  long_flag : (name : List ℕ) → o.long_name ≡ Some name → o.kind ≡ flag
      → LabelForm o (long_shown o.beside name) (long_word name ∷ []) (option (long name) None)
  -- `--output=FILE`
  long_one : (name : List ℕ) → o.long_name ≡ Some name → o.kind ≡ one
      → LabelForm o (long_shown o.beside name ++ equals ∷ o.placeholder)
      (long_word_with name o.placeholder ∷ []) (option (long name) (Some o.placeholder))
  -- `--backup[=SUFFIX]`, without what is in brackets
  long_optional : (name : List ℕ) → o.long_name ≡ Some name → o.kind ≡ optional
      → LabelForm o (long_shown o.beside name ++ in_brackets (equals ∷ o.placeholder))
      (long_word name ∷ []) (option (long name) None)
  -- `--backup[=SUFFIX]`, with it
  long_optional_value : (name : List ℕ) → o.long_name ≡ Some name → o.kind ≡ optional
      → LabelForm o (long_shown o.beside name ++ in_brackets (equals ∷ o.placeholder))
      (long_word_with name o.placeholder ∷ []) (option (long name) (Some o.placeholder))
  -- `--exclude PATTERN...`
  long_several : (name : List ℕ) → o.long_name ≡ Some name → o.kind ≡ several
      → LabelForm o (long_shown o.beside name ++ (codes " " ++ o.placeholder ++ codes "..."))
      (long_word name ∷ o.placeholder ∷ []) (many (long name) (o.placeholder ∷ []))
  -- `-F` before `--classify[=WHEN]`, which is a flag of its own
  flag_beside : (c : ℕ) (name : List ℕ) → o.beside ≡ a_flag c → o.short_name ≡ None
      → o.long_name ≡ Some name
      → LabelForm o (short_word c []) (short_word c [] ∷ []) (option (short c) None)
  -- `--[no-]color`, with what is in brackets
  negated_flag : (name : List ℕ) → o.beside ≡ negation → o.long_name ≡ Some name
      → LabelForm o (codes "--[no-]" ++ name)
      (long_word (negated name) ∷ []) (option (long (negated name)) None)

-- an option of this kind can spell this item by this name, with something after it
abbrev pub CanSay : Kind → Name → Item → Type 0
CanSay k name item = (after : After) × (words : List (List ℕ)) × (left : List (List ℕ))
    × Completes k name after words item left

-- the item has no value, or only this one
abbrev pub HasOnly : List ℕ → Item → Type 0
HasOnly value (option name None) = Unit {0}
HasOnly value (option name (Some v)) = v ≡ value
HasOnly value (many name values) = values ≡ value ∷ []
HasOnly value (positional word) = ⊥

-- this text of the label shows all that the option can spell by this name, with the placeholder for
-- the value
abbrev pub ShowsName : Declared → Name → List ℕ → Type 0
ShowsName o name shown = (item : Item) → CanSay o.kind name item → HasOnly o.placeholder item
    → (words : List (List ℕ)) × LabelForm o shown words item

-- its names are text, as a `char` or a `&str` is, and so is a character that its label shows
pub record HasTextNames (o : Declared) : Type 0 where
  pub short_scalar : (c : ℕ) → o.short_name ≡ Some c → IsScalar c
  pub long_text : (name : List ℕ) → o.long_name ≡ Some name → IsUtf8 name
  pub beside_scalar : (c : ℕ) → o.beside ≡ a_flag c → IsScalar c

-- ---- words on lines

-- the words of a text: what is between its blanks
abbrev pub words_of : List ℕ → List (List ℕ)
words_of text = filter (λ word. not (is_empty word)) (slice_split (λ b. b == blank) text)

-- a line: words with a blank between them
abbrev pub Line : Type 0
Line = List (List ℕ)

abbrev pub line_text : Line → List ℕ
line_text line = join_with_byte blank line

-- the columns of a line: those of its words and blanks
abbrev pub line_columns : Line → ℕ
line_columns line = sum_by columns line + (length line - 1)

-- the line has words, and takes at most this many columns, or is one word, which is never broken
pub record Fits (limit : ℕ) (line : Line) : Type 0 where
  pub words : 0 < length line
  pub narrow : (line_columns line ≤ limit) ⊎ (length line ≡ 1)

abbrev pub AllFit : ℕ → List Line → Type 0
AllFit limit [] = Unit {0}
AllFit limit (line ∷ lines) = Fits limit line × AllFit limit lines

-- no line has room for the first word of the next line
abbrev pub AreFull : ℕ → List Line → Type 0
AreFull limit [] = Unit {0}
AreFull limit (line ∷ []) = Unit {0}
AreFull limit (line ∷ next ∷ lines) =
    (limit < line_columns (line ++ take 1 next)) × AreFull limit (next ∷ lines)

-- the lines, of at most this many columns, have these words in order
pub record Wraps (limit : ℕ) (words : List (List ℕ)) (lines : List Line) : Type 0 where
  pub in_order : flat_map (λ line. line) lines ≡ words
  pub fit : AllFit limit lines
  pub full : AreFull limit lines

-- the text of lines, where each but the first has this many blanks before it
abbrev pub below : ℕ → List Line → List ℕ
below column lines = join_by line_text (line_feed ∷ blanks column) lines

-- ---- an entry

-- what comes between a label and its help text, which begins at this column: on the same line if
-- the label, with the two blanks before it, ends at least two columns before that; otherwise on the
-- next
abbrev pub gap : ℕ → List ℕ → List ℕ
gap column text =
    if nat_le (columns text + 4) column then blanks (column - (columns text + 2))
    else (line_feed ∷ blanks column)

-- what comes after a label: the lines of its help text, if there are any
abbrev pub beside : ℕ → List ℕ → List Line → List ℕ
beside column text [] = []
beside column text (line ∷ lines) = gap column text ++ below column (line ∷ lines)

-- a label and the lines of its help text
abbrev pub entry : ℕ → List ℕ → List Line → List ℕ
entry column text lines = codes "  " ++ text ++ beside column text lines ++ line_feed ∷ []

-- the text is the entry with this label and this help text
pub record IsEntry (width : ℕ) (label help text : List ℕ) : Type 0 where
  pub lines : List Line
  pub wrapped : Wraps (width - help_column width) (words_of help) lines
  pub written : text ≡ entry (help_column width) label lines

-- ---- the usage

-- the options that are not hidden
abbrev pub visible : List Declared → List Declared
visible options = filter (λ o. not o.hidden) options

-- the option has this name, if it is one
abbrev pub is_named : Option Name → Declared → Bool
is_named None o = false
is_named (Some name) o = has_name name o

-- the label of the first option shows the second
abbrev pub shows : Declared → Declared → Bool
shows p o = is_named (name_beside p.beside p.short_name p.long_name) o

-- the label of one of these options, which is not hidden, shows this one
abbrev pub is_shown_by : List Declared → Declared → Bool
is_shown_by options o = list_any (λ p. not p.hidden && shows p o) options

-- the options that have an entry: those that are not hidden, and that no label of another shows
abbrev pub entered : List Declared → List Declared
entered options = filter (λ o. not o.hidden && not (is_shown_by options o)) options

-- the options that are not required and that no other excludes, and those that are required
abbrev pub voluntary : List Declared → List Declared
voluntary options = filter (λ o. not o.required && is_none o.exclusive) options

abbrev pub demanded : List Declared → List Declared
demanded options = filter (λ o. o.required) options

-- `[OPTION]...`, if there are such options
abbrev pub options_mark : List Declared → List (List ℕ)
options_mark [] = []
options_mark (o ∷ os) = codes "[OPTION]..." ∷ []

-- an option with its value, by its long name, or by its character if it has no long name
abbrev pub mark_of : Option ℕ → Option (List ℕ) → Kind → List ℕ → List ℕ
mark_of None None k value = []
mark_of (Some c) None k value = codes "-" ++ encode_utf8 c ++ after_short k value
mark_of c (Some name) k value = codes "--" ++ name ++ after_long k value

abbrev pub option_mark : Declared → List ℕ
option_mark o = mark_of o.short_name o.long_name o.kind o.placeholder

-- those of these options that are in this exclusive group
abbrev pub sharing : Option (List ℕ) → List Declared → List Declared
sharing text options = filter (λ o. are_same text o.exclusive) options

-- an option and the others that it excludes, as in `[--json | --xml]`
abbrev pub choice_mark : Declared → List Declared → List ℕ
choice_mark o others = codes "[" ++ option_mark o
    ++ flat_map (λ p. codes " | " ++ option_mark p) others ++ codes "]"

-- this option with those after it that it excludes, if it is the first of its exclusive group after
-- these
abbrev pub choice : List Declared → Declared → List Declared → List (List ℕ)
choice before o later =
    if is_some o.exclusive && not (list_any (λ p. are_same o.exclusive p.exclusive) before)
    then choice_mark o (sharing o.exclusive later) ∷ [] else []

-- the same for each of these options, which come after the first ones
abbrev pub choices : List Declared → List Declared → List (List ℕ)
choices before [] = []
choices before (o ∷ os) = choice before o os ++ choices (before ++ o ∷ []) os

abbrev pub counted : Count → List ℕ → List ℕ
counted once placeholder = placeholder
counted at_most_once placeholder = codes "[" ++ placeholder ++ codes "]"
counted any_number placeholder = codes "[" ++ placeholder ++ codes "]..."
counted at_least_once placeholder = placeholder ++ codes "..."

abbrev pub positional_mark : Positional → List ℕ
positional_mark p = counted p.count p.placeholder

-- the words of the usage line that is generated: the name of the program, `[OPTION]...` for options
-- that are not required, those that exclude each other, each required option, and the positionals
abbrev pub usage_words : Declaration → List (List ℕ)
usage_words d = d.program ∷ options_mark (voluntary (visible d.options))
    ++ choices [] (visible d.options) ++ map option_mark (demanded (visible d.options))
    ++ map positional_mark d.positionals

-- the words of the first usage line, where the program gives these texts for its usage lines
abbrev pub first_usage : Declaration → List (List ℕ) → List (List ℕ)
first_usage d [] = usage_words d
first_usage d (text ∷ texts) = d.program ∷ words_of text

-- the column where the words of a usage line begin
abbrev pub usage_column : ℕ
usage_column = 7

-- the text is the usage line of these words, on as many lines as it needs, without how it begins
pub record IsUsageLine (width : ℕ) (words : List (List ℕ)) (text : List ℕ) : Type 0 where
  pub lines : List Line
  pub wrapped : Wraps (width - usage_column) words lines
  pub written : text ≡ below usage_column lines ++ line_feed ∷ []

-- the text is the usage: the first usage line, and one for each other text that the program gives
pub record IsUsage (width : ℕ) (d : Declaration) (text : List ℕ) : Type 0 where
  pub first : List ℕ
  pub others : List (List ℕ)
  pub first_line : IsUsageLine width (first_usage d d.usage) first
  pub other_lines :
      AllZip (λ own. IsUsageLine width (d.program ∷ words_of own)) (drop 1 d.usage) others
  pub written : text ≡ codes "Usage: " ++ first ++ flat_map (λ line. codes "  or:  " ++ line) others

-- ---- a paragraph

-- the text of a paragraph on these lines
abbrev pub paragraph : List Line → List ℕ
paragraph [] = []
paragraph (line ∷ lines) = below 0 (line ∷ lines) ++ line_feed ∷ []

-- the text has the words of this content, on lines
pub record IsParagraph (width : ℕ) (content text : List ℕ) : Type 0 where
  pub lines : List Line
  pub wrapped : Wraps width (words_of content) lines
  pub written : text ≡ paragraph lines

-- ---- the values in a list

-- a text in which each character that a terminal may act on is escaped
abbrev pub escaped_text : List ℕ → List ℕ
escaped_text text = flat_map escaped (chars text)

-- texts with a comma and a blank between them
abbrev pub list_text : List (List ℕ) → List ℕ
list_text [] = []
list_text (value ∷ values) = value ++ flat_map (λ other. codes ", " ++ other) values

-- whether a text ends with a full stop
abbrev pub is_sentence : List ℕ → Bool
is_sentence text = ends_with (λ a b. a == b) text (codes ".")

-- the list after this help text, which is not empty
abbrev pub list_after : List ℕ → List ℕ → List ℕ
list_after help values = if is_sentence help
    then help ++ (codes " One of " ++ (values ++ codes "."))
    else help ++ (codes ": one of " ++ values)

-- this help text, and the list if there is one
abbrev pub with_list : List ℕ → Words → List ℕ
with_list [] (listed values) = codes "one of " ++ list_text (map escaped_text values)
with_list help (listed values) = list_after help (list_text (map escaped_text values))
with_list help words = help

-- the text of an entry: this help text, and the list unless the help leaves it out
abbrev pub told : Bool → List ℕ → Words → List ℕ
told true help words = help
told false help words = with_list help words

-- the help text of an option: the longer one, unless there is none or the help is brief
abbrev pub chosen : Detail → List ℕ → Option (List ℕ) → List ℕ
chosen brief help details = help
chosen full help None = help
chosen full help (Some details) = details

-- this text, and the default if there is one
abbrev pub with_default : List ℕ → Option (List ℕ) → List ℕ
with_default text None = text
with_default text (Some value) =
    text ++ (codes " [default: " ++ (escaped_text value ++ codes "]"))

abbrev pub option_text : Detail → Declared → List ℕ
option_text detail o =
    with_default (told o.hides_list (chosen detail o.help o.details) o.words) o.default

abbrev pub positional_text : Positional → List ℕ
positional_text p = told p.hides_list p.help p.words

-- ---- headings

-- a heading, on a line of its own after an empty line, if there is one
abbrev pub heading_lines : Option (List ℕ) → List ℕ
heading_lines None = []
heading_lines (Some heading) = line_feed ∷ heading ++ codes ":\n"

-- the text is the heading of this option, if it has one, and its entry
pub record IsOption (detail : Detail) (width : ℕ) (o : Declared) (text : List ℕ) : Type 0 where
  pub own : List ℕ
  pub is_entry : IsEntry width (label o) (option_text detail o) own
  pub written : text ≡ heading_lines o.heading ++ own

-- ---- the whole text

-- the positionals that have an entry
abbrev pub described : List Positional → List Positional
described positionals =
    filter (λ p. not (length (words_of (positional_text p)) == 0)) positionals

-- a part of the help after an empty line; nothing if the part is empty
abbrev pub set_apart : List ℕ → List ℕ
set_apart [] = []
set_apart (b ∷ bs) = line_feed ∷ b ∷ bs

-- the options after an empty line, with which a heading begins; nothing if there are none
abbrev pub options_part : List ℕ → List ℕ
options_part text =
    if starts_with (λ a b. a == b) text (line_feed ∷ []) then text else set_apart text

-- the paragraphs of the epilogue that the help shows
abbrev pub shown_epilogue : Detail → List (List ℕ) → List (List ℕ)
shown_epilogue brief epilogue = []
shown_epilogue full epilogue = epilogue

-- the text is the help: the usage; what the program does; an entry for each positional
-- and option that has one; and the paragraphs of the epilogue that are shown
pub record IsHelp (detail : Detail) (d : Declaration) (width : ℕ) (text : List ℕ) : Type 0 where
  pub usage : List ℕ
  pub about : List ℕ
  pub positionals : List (List ℕ)
  pub options : List (List ℕ)
  pub epilogue : List (List ℕ)
  pub usage_first : IsUsage width d usage
  pub about_next : IsParagraph width d.about about
  pub each_positional :
      AllZip (λ p. IsEntry width p.placeholder (positional_text p)) (described d.positionals)
      positionals
  pub each_option : AllZip (IsOption detail width) (entered d.options) options
  pub each_paragraph : AllZip (IsParagraph width) (shown_epilogue detail d.epilogue) epilogue
  pub written : text ≡ usage ++ about ++ set_apart (concat positionals)
      ++ options_part (concat options) ++ flat_map set_apart epilogue
