-- The account of bytes: each byte that a call reads is in one segment.
-- The source is `docs/behaviour.md`.
use Rattle.std.specs.Prelude.{ℕ, Bool, true, ◌==◌, ◌&&◌, List, [], ◌∷◌, ◌++◌, map, flat_map, Option}
use Rattle.std.specs.Prelude.{Some, None, encode_utf8, if◌then◌else◌}
use Rattle.std.specs.List.{concat}
use Rattle.lexopt_spec.specs.Pieces.{Piece, first_piece, pieces, replacement}
use Rattle.lexopt_spec.specs.UnreadLine.{dash, equals, Tail, no_tail, joined, rest, UnreadLine}
use Rattle.lexopt_spec.specs.Steps.{Reply, short, long, positional, end, taken, maybe, items, busy}
use Rattle.lexopt_spec.specs.Steps.{done, missing, unexpected, no_memory, ReadsPositional}
use Rattle.lexopt_spec.specs.Steps.{no_word_left, word_left, ReadsWord, no_word, reads_separator}
use Rattle.lexopt_spec.specs.Steps.{reads_long, reads_cluster, reads_positional, NextStep}
use Rattle.lexopt_spec.specs.Steps.{joined_value, equals_value, next_in_cluster, after_separator}
use Rattle.lexopt_spec.specs.Steps.{next_word}

-- successive bytes of the line, by what the reply has for them
pub data Segment : Type 0 where
  -- the reply has the same bytes
  given : List ℕ → Segment
  -- the dash of a cluster, the dashes of a long option, the `=` before a value, or the separator:
  -- the reply does not have it
  mark : List ℕ → Segment
  -- a damaged piece: the reply has U+FFFD for it
  damage : List ℕ → Segment

abbrev pub segment_bytes : Segment → List ℕ
segment_bytes (given bytes) = bytes
segment_bytes (mark bytes) = bytes
segment_bytes (damage bytes) = bytes

-- all bytes of the segments, in order
abbrev pub bytes_of : List Segment → List ℕ
bytes_of segments = flat_map segment_bytes segments

abbrev pub tail_bytes : Tail → List ℕ
tail_bytes no_tail = []
tail_bytes (joined value) = value
tail_bytes (rest bytes) = bytes

-- all unread bytes of a line: those of its tail, then its words
abbrev pub flat : UnreadLine → List ℕ
flat u = tail_bytes u.tail ++ concat u.words

-- ---- the segments of a step

abbrev pub piece_as : List ℕ → Option ℕ → Segment
piece_as bytes None = damage bytes
piece_as bytes (Some c) = given bytes

abbrev pub piece_segment : Piece → Segment
piece_segment p = piece_as p.bytes p.char

-- the `=` between a long name and its value
abbrev pub name_end : Tail → List Segment
name_end no_tail = []
name_end (joined value) = mark (equals ∷ []) ∷ []
name_end (rest bytes) = []

-- the `=` of a cluster that is dropped before the pending value
abbrev pub dropped_in : Bool → Tail → List Segment
dropped_in short_equals no_tail = []
dropped_in short_equals (joined value) = []
dropped_in short_equals (rest []) = []
dropped_in short_equals (rest (b ∷ bs)) =
    if short_equals && b == equals then mark (equals ∷ []) ∷ [] else []

-- the segments of a call that takes these items from the line
abbrev pub handing : UnreadLine → List (List ℕ) → List Segment
handing u [] = []
handing u (item ∷ more) = dropped_in u.short_equals u.tail ++ (given item ∷ map given more)

abbrev pub positional_account : (u : UnreadLine) (reply : Reply) (after : UnreadLine)
    → ReadsPositional u reply after → List Segment
positional_account u reply after (no_word_left is reply_is after_is) = []
positional_account u reply after (word_left w ws is reply_is after_is) = given w ∷ []

abbrev pub word_account : (u : UnreadLine) (reply : Reply) (after : UnreadLine)
    → ReadsWord u reply after → List Segment
word_account u reply after (no_word is reply_is after_is) = []
word_account u reply after (reads_separator ws is reads) =
    mark (dash ∷ dash ∷ []) ∷ positional_account (record u {
      words = ws;
      ended = true;
    }) reply after reads
word_account u reply after (reads_long text name tail ws is some option reply_is after_is) =
    mark (dash ∷ dash ∷ []) ∷ (map piece_segment (pieces name) ++ name_end tail)
word_account u reply after (reads_cluster bytes ws is other reads) =
    mark (dash ∷ []) ∷ piece_segment (first_piece bytes) ∷ []
word_account u reply after (reads_positional w ws is plain reply_is after_is) = given w ∷ []

abbrev pub next_account : (u : UnreadLine) (reply : Reply) (after : UnreadLine)
    → NextStep u reply after → List Segment
next_account u reply after (joined_value value option is spelled reply_is after_is) =
    given value ∷ []
next_account u reply after (equals_value value option is on spelled reply_is after_is) =
    mark (equals ∷ []) ∷ given value ∷ []
next_account u reply after (next_in_cluster bytes is other reads) =
    piece_segment (first_piece bytes) ∷ []
next_account u reply after (after_separator is ended reads) = positional_account u reply after reads
next_account u reply after (next_word is ended reads) = word_account u reply after reads

-- ---- the bytes of a reply

-- the values and words of a reply, in order
abbrev pub handed_items : Reply → List (List ℕ)
handed_items (short c) = []
handed_items (long name) = []
handed_items (positional word) = word ∷ []
handed_items end = []
handed_items (taken value) = value ∷ []
handed_items (maybe None) = []
handed_items (maybe (Some value)) = value ∷ []
handed_items (items values) = values
handed_items busy = []
handed_items done = []
handed_items (missing option) = []
handed_items (unexpected option value) = value ∷ []
handed_items no_memory = []

-- the bytes of a reply that come from the line; a name that an error repeats does not
abbrev pub bytes_handed_out : Reply → List ℕ
bytes_handed_out (short c) = encode_utf8 c
bytes_handed_out (long name) = name
bytes_handed_out reply = concat (handed_items reply)

-- the reply is an option that was read
abbrev pub NamesOption : Reply → Type 0
NamesOption (short c) = Unit {0}
NamesOption (long name) = Unit {0}
NamesOption reply = ⊥

-- the bytes of each given segment
abbrev pub given_of : List Segment → List (List ℕ)
given_of [] = []
given_of (given bytes ∷ segments) = bytes ∷ given_of segments
given_of (mark bytes ∷ segments) = given_of segments
given_of (damage bytes ∷ segments) = given_of segments

abbrev pub segment_shown : Segment → List ℕ
segment_shown (given bytes) = bytes
segment_shown (mark bytes) = []
segment_shown (damage bytes) = encode_utf8 replacement

-- the bytes that replies have for the segments
abbrev pub shown_of : List Segment → List ℕ
shown_of segments = flat_map segment_shown segments
