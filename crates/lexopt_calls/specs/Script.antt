-- Scripts: their meaning and their output. The source is `docs/formats.md`. A script is a list of
-- bytes.
use Prim.Native.String.{String}
use Rattle.std.specs.Prelude.{◌≡◌, ◌≢◌, ℕ, ◌+◌, ◌*◌, ◌-◌, Bool, true, false, nat_le, ◌==◌, ◌&&◌}
use Rattle.std.specs.Prelude.{◌||◌, List, [], ◌∷◌, ◌++◌, length, take, drop, Option, Some, None}
use Rattle.std.specs.Prelude.{option_map, codes, if◌then◌else◌}
use Rattle.std.specs.List.{after_first, before_first, filter_map, list_any, slice_split}
use Rattle.std.specs.Cmp.Lexicographic.{pointwise}
use Rattle.std.specs.Str.{all_ascii_digits, is_utf8}
use Rattle.std.specs.Str.Parse.{digits_value}
use Rattle.lexopt_spec.specs.Pieces.{first_piece}
use Rattle.lexopt_spec.specs.UnreadLine.{UnreadLine, fresh}
use Rattle.lexopt_spec.specs.Runs as calls
use Rattle.lexopt_spec.specs.Runs.{Call, Run, next, value, values, raw, try_raw, set_short_equals}
use Rattle.lexopt_spec.specs.Runs.{short_equals_after}
use Rattle.lexopt_spec.specs.Steps as steps
use Rattle.lexopt_spec.specs.Steps.{Reply, end, taken, maybe, items, busy, done, missing}
use Rattle.lexopt_spec.specs.Steps.{unexpected, no_memory}
use Rattle.lexopt_spec.specs.Text.{quoted, missing_message, unexpected_value_message}
use Rattle.lexopt_spec.specs.Text.{no_memory_message}
use Rattle.lexopt_line_spec.specs.Table.{Name, short, long, Item, Kind, flag, one, optional}
use Rattle.lexopt_line_spec.specs.Table.{several, Table, one_value}
use Rattle.lexopt_line_spec.specs.Readings.{IsReading, start}
use Rattle.lexopt_line_spec.specs.ItemText.{bracketed, item_text, name_text}

abbrev pub newline : ℕ
newline = 0x0A

abbrev pub space : ℕ
space = 0x20

abbrev pub backslash : ℕ
backslash = 0x5C

-- ---- a line

-- the lines before, between and after the newlines. The empty line after a last newline is not a
-- line of the script; it does no harm here, since an empty line means nothing
abbrev pub lines_of : List ℕ → List (List ℕ)
lines_of script = slice_split (λ b. b == newline) script

abbrev pub in_front : ℕ → Option (List ℕ) → Option (List ℕ)
in_front b None = None
in_front b (Some bs) = Some (b ∷ bs)

-- the value of a hexadecimal digit of either case
abbrev pub hexadecimal : ℕ → Option ℕ
hexadecimal c =
    if nat_le 0x30 c && nat_le c 0x39 then Some (c - 0x30)
    else (if nat_le 0x41 c && nat_le c 0x46 then Some (c - 0x37)
    else (if nat_le 0x61 c && nat_le c 0x66 then Some (c - 0x57)
    else None))

-- the byte of two digits, in front of other bytes
abbrev pub byte_in_front : Option ℕ → Option ℕ → Option (List ℕ) → Option (List ℕ)
byte_in_front None low bytes = None
byte_in_front (Some high) None bytes = None
byte_in_front (Some high) (Some low) bytes = in_front (16 * high + low) bytes

abbrev mutual
  -- the bytes of a text: `\\` is a backslash, `\n` a newline, `\xHH` a byte, and each byte that is
  -- not a backslash represents itself
  pub unescaped : List ℕ → Option (List ℕ)
  unescaped [] = Some []
  unescaped (b ∷ bs) = if b == backslash then after_backslash bs else in_front b (unescaped bs)

  pub after_backslash : List ℕ → Option (List ℕ)
  after_backslash [] = None
  after_backslash (c ∷ bs) =
      if c == backslash then in_front backslash (unescaped bs)
      else (if c == 0x6E then in_front newline (unescaped bs)
      else (if c == 0x78 then after_x bs
      else None))

  pub after_x : List ℕ → Option (List ℕ)
  after_x [] = None
  after_x (high ∷ []) = None
  after_x (high ∷ low ∷ bs) = byte_in_front (hexadecimal high) (hexadecimal low) (unescaped bs)

-- a command of a script
pub data Command : Type 0 where
  -- a call on the parser of the words
  call : Call → Command
  -- all words are read by the table; the parser does not change
  whole_line : Command

-- an option of the table, with its kind
pub record Entry : Type 0 where
  pub kind : Kind
  pub name : Name

-- the meaning of a line of a script
pub data Meaning : Type 0 where
  nothing : Meaning
  word : List ℕ → Meaning
  entry : Entry → Meaning
  command : Command → Meaning
  bad : Meaning

abbrev pub word_or_bad : Option (List ℕ) → Meaning
word_or_bad None = bad
word_or_bad (Some bytes) = word bytes

-- the number that one to nine decimal digits represent
abbrev pub number : List ℕ → Option ℕ
number text = if nat_le 1 (length text) && (nat_le (length text) 9 && all_ascii_digits text)
    then Some (digits_value 10 text) else None

abbrev pub call_or_bad : Option Call → Meaning
call_or_bad None = bad
call_or_bad (Some c) = command (call c)

-- the character that these bytes encode, if they encode exactly one
abbrev pub one_character : List ℕ → Option ℕ
one_character bytes = if length (first_piece bytes).bytes == length bytes
    then (first_piece bytes).char else None

-- the line begins with this text
abbrev pub begins : List ℕ → List ℕ → Bool
begins text line = pointwise ◌==◌ (take (length text) line) text

-- the option that a text names: `--` and a name in UTF-8, or `-` and one character. A dash after
-- the dash begins a name
abbrev pub option_named : List ℕ → Option Name
option_named text =
    if begins (codes "--") text then (if is_utf8 (drop 2 text) then Some (long (drop 2 text))
    else None)
    else (if begins (codes "-") text then option_map short (one_character (drop 1 text))
    else None)

abbrev pub entry_or_bad : Option Entry → Meaning
entry_or_bad None = bad
entry_or_bad (Some e) = entry e

abbrev pub of_kind : Kind → Name → Entry
of_kind k name = record { kind = k; name = name }

-- the bytes are this text
infix 20 ◌is◌
abbrev pub ◌is◌ : List ℕ → String → Bool
bytes is text = pointwise ◌==◌ bytes (codes text)

-- a line is a keyword, or a keyword, one space and a text: the keyword ends at the first space, and
-- all that follows is the text
abbrev pub keyword_of : List ℕ → List ℕ
keyword_of line = before_first (λ b. b == space) line

abbrev pub text_of : List ℕ → Option (List ℕ)
text_of line =
    if list_any (λ b. b == space) line then Some (after_first (λ b. b == space) line) else None

-- the meaning of a keyword alone, and of a keyword with a text
abbrev pub meaning_by_keyword : List ℕ → Option (List ℕ) → Meaning
meaning_by_keyword keyword None =
    if keyword is "" then nothing
    else (if keyword is "next" then command (call next)
    else (if keyword is "value" then command (call value)
    else (if keyword is "optional" then command (call calls.optional)
    else (if keyword is "on" then command (call (set_short_equals true))
    else (if keyword is "off" then command (call (set_short_equals false))
    else (if keyword is "items" then command whole_line
    else (if keyword is "w" then word []
    else bad)))))))
meaning_by_keyword keyword (Some text) =
    if keyword is "w" then word_or_bad (unescaped text)
    else (if keyword is "values" then call_or_bad (option_map values (number text))
    else (if keyword is "raw" then call_or_bad (option_map raw (number text))
    else (if keyword is "try" then call_or_bad (option_map try_raw (number text))
    else (if keyword is "t" then entry_or_bad (option_map (of_kind one) (option_named text))
    else (if keyword is "topt" then entry_or_bad (option_map (of_kind optional) (option_named text))
    else (if keyword is "tmany" then entry_or_bad (option_map (of_kind several) (option_named text))
    else bad))))))

abbrev pub meaning : List ℕ → Meaning
meaning line = meaning_by_keyword (keyword_of line) (text_of line)

-- ---- a script

-- the most bytes that a script may have
abbrev pub most_bytes : ℕ
most_bytes = 1048576

-- the call reads the line: `set_short_equals` alone does not
abbrev pub reads_line : Call → Bool
reads_line (set_short_equals on) = false
reads_line c = true

-- the words are read: words and options come before such a command
abbrev pub reads_words : Command → Bool
reads_words (call c) = reads_line c
reads_words whole_line = true

abbrev pub is_reading : Meaning → Bool
is_reading nothing = false
is_reading (word bytes) = false
is_reading (entry e) = false
is_reading (command c) = reads_words c
is_reading bad = false

-- a word or an option may not come after a command that reads the words
abbrev pub is_bad : Bool → Meaning → Bool
is_bad called nothing = false
is_bad called (word bytes) = called
is_bad called (entry e) = called
is_bad called (command c) = false
is_bad called bad = true

-- the number of the first bad line among these, of which the first has the number `n`; `called` is
-- whether a command that reads the words comes before them
abbrev pub first_bad : ℕ → Bool → List (List ℕ) → Option ℕ
first_bad n called [] = None
first_bad n called (line ∷ lines) =
    if is_bad called (meaning line) then Some n
    else first_bad (n + 1) (called || is_reading (meaning line)) lines

-- the number of the first bad line of a script; lines are counted from 1
abbrev pub bad_line : List ℕ → Option ℕ
bad_line script = first_bad 1 false (lines_of script)

abbrev pub word_of : Meaning → Option (List ℕ)
word_of (word bytes) = Some bytes
word_of m = None

abbrev pub entry_of : Meaning → Option Entry
entry_of (entry e) = Some e
entry_of m = None

abbrev pub command_of : Meaning → Option Command
command_of (command c) = Some c
command_of m = None

abbrev pub call_of : Command → Option Call
call_of (call c) = Some c
call_of whole_line = None

-- the words of a script, its commands, and the calls among them, each in order
abbrev pub words_of : List ℕ → List (List ℕ)
words_of script = filter_map (λ line. word_of (meaning line)) (lines_of script)

abbrev pub commands_of : List ℕ → List Command
commands_of script = filter_map (λ line. command_of (meaning line)) (lines_of script)

abbrev pub calls_of : List ℕ → List Call
calls_of script = filter_map call_of (commands_of script)

-- the table with one more option
abbrev pub joined_to : Table → Kind → Name → Table
joined_to t flag name = t
joined_to t one (short c) = record t { shorts = t.shorts ++ c ∷ [] }
joined_to t one (long name) = record t { longs = t.longs ++ name ∷ [] }
joined_to t optional (short c) = record t { optional_shorts = t.optional_shorts ++ c ∷ [] }
joined_to t optional (long name) = record t { optional_longs = t.optional_longs ++ name ∷ [] }
joined_to t several (short c) = record t { several_shorts = t.several_shorts ++ c ∷ [] }
joined_to t several (long name) = record t { several_longs = t.several_longs ++ name ∷ [] }

abbrev pub table_with : Table → List Entry → Table
table_with t [] = t
table_with t (e ∷ entries) = table_with (joined_to t e.kind e.name) entries

-- the table of a script
abbrev pub table_of : List ℕ → Table
table_of script =
    table_with (one_value [] []) (filter_map (λ line. entry_of (meaning line)) (lines_of script))

-- ---- the output

-- the text of a reply
abbrev pub reply_text : Reply → List ℕ
reply_text (steps.short c) = name_text (short c)
reply_text (steps.long name) = name_text (long name)
reply_text (steps.positional bytes) = codes "Value " ++ quoted bytes
reply_text end = codes "None"
reply_text (taken bytes) = quoted bytes
reply_text (maybe None) = codes "None"
reply_text (maybe (Some bytes)) = quoted bytes
reply_text (items words) = bracketed quoted words
reply_text busy = codes "None"
reply_text done = codes "ok"
reply_text (missing named) = codes "error: " ++ missing_message named
reply_text (unexpected named bytes) = codes "error: " ++ unexpected_value_message named bytes
reply_text no_memory = codes "error: " ++ no_memory_message

abbrev pub with_newline : List ℕ → List ℕ
with_newline text = text ++ newline ∷ []

-- the text may be written for these words, read as a whole line by the table: its items or its
-- error
pub data WholeLineText (t : Table) (on : Bool) (words : List (List ℕ)) (text : List ℕ)
    : Type 0 where
  items_read : (l : List Item) → IsReading t (start on words) end l → text ≡ bracketed item_text l
      → WholeLineText t on words text
  line_refused : (final : Reply) (l : List Item) → IsReading t (start on words) final l
      → final ≢ end → text ≡ reply_text final
      → WholeLineText t on words text
  memory_refused : text ≡ reply_text no_memory → WholeLineText t on words text

-- a line for each command, in order: the text of the reply to a call, or that of the whole line
-- with `short_equals` as it is then
abbrev pub Written : Table → List (List ℕ) → Bool → List Command → List Reply → List ℕ → Type 0
Written t words on [] [] text = text ≡ []
Written t words on [] (reply ∷ replies) text = ⊥
Written t words on (call c ∷ commands) [] text = ⊥
Written t words on (call c ∷ commands) (reply ∷ replies) text =
    (more : List ℕ) × Written t words (short_equals_after on c) commands replies more
    × (text ≡ with_newline (reply_text reply) ++ more)
Written t words on (whole_line ∷ commands) replies text =
    (line : List ℕ) × (more : List ℕ) × WholeLineText t on words line
    × Written t words on commands replies more × (text ≡ with_newline line ++ more)

-- the script has no bad line, and the text has a line for each of its commands, in order: the
-- replies to its calls are those of a run on a parser of its words
pub record IsOutput (script text : List ℕ) : Type 0 where
  pub no_bad_line : bad_line script ≡ None
  pub replies : List Reply
  pub after : UnreadLine
  pub run : Run (fresh (words_of script)) (calls_of script) replies after
  pub written : Written (table_of script) (words_of script) true (commands_of script) replies text
