-- Steps of worked examples. A condition on bytes is a boolean here, so that an example proves it by
-- `refl`.
use Rattle.std.proofs.Common.{◌≡◌, ◌≢◌, ℕ, zero, suc, Bool, true, false, ◌==◌, ◌&&◌, not, List, [], ◌∷◌, ◌++◌, None, encode_utf8, length, take, refl, sym, ap, ◌∙◌, arith, true≢false}
use Rattle.std.proofs.lemmas.Bool.{and_parts, eq-eqb}
use lib.Utf8.{scalar}
use Rattle.std.specs.List.{All, Contains}
use Rattle.std.specs.Char.{IsScalar}
use Rattle.std.specs.Str.{IsUtf8}
use Rattle.std.proofs.lemmas.List.Elements.{All-nil, All-cons}
use Rattle.lexopt_spec.specs.Pieces.{first_piece, after_first_piece, shown, lossy}
use Rattle.lexopt_spec.specs.UnreadLine as unread
use Rattle.lexopt_spec.specs.UnreadLine.{dash, equals, no_tail, rest_of, short_option, long_option, UnreadLine, spelling, pending, BeginsWith, IsPlain, is_plain, IsNormalIn, IsPlainFront}
use Rattle.lexopt_spec.specs.Steps as steps
use Rattle.lexopt_spec.specs.Steps.{Reply, alone, with_value, NextStep, next_word, reads_long, reads_cluster, reads_positional}
use Rattle.lexopt_spec.specs.Views.{available, available_with, plain_front, without, ValuesStep, no_values, some_values}
use Rattle.lexopt_spec.specs.Runs.{Call, Run}
use Rattle.lexopt_line_spec.specs.Table.{short, long, Item, option, positional, flag, kind, Table}
use Rattle.lexopt_line_spec.specs.Readings.{start, Asked}
use Rattle.lexopt_line_spec.specs.Spelling as lines
use Rattle.lexopt_line_spec.specs.Spelling.{exact, After, nothing, attached, joined, Completes, BeginsWithMark, IsAfterLast, a_value, Cluster, flag_first, last_option, cluster, Line, plain_word, group, name_alone, name_and_value, Shows}
use Rattle.lexopt_spec.proofs.PlainFronts.{plain_holds, plain_passes, front-none, front_only}
use Rattle.lexopt_line_spec.proofs.WholeLines.{shown_said}

-- ---- booleans

pub some : {A : Type 0} (x : A) (xs : List A) → x ∷ xs ≢ []
some {A = A} x xs is = let e : x ∷ xs ≡ [] = is in cc

abbrev pub begins : ℕ → List ℕ → Bool
begins b [] = false
begins b (c ∷ cs) = c == b

pub not_begins : (b : ℕ) (bs : List ℕ) → begins b bs ≡ false → ¬ BeginsWith b bs
not_begins b [] is = λ h. h
not_begins b (c ∷ cs) is = λ h. true≢false (sym (eq-eqb c b h) ∙ is)

pub not_mark : (short_equals : Bool) (bs : List ℕ) → short_equals && begins equals bs ≡ false → ¬ BeginsWithMark short_equals bs
not_mark false bs is = λ mark. true≢false (sym mark.0)
not_mark true bs is = λ mark. not_begins equals bs is mark.1

-- the number is not one of these
abbrev pub lacks : ℕ → List ℕ → Bool
lacks x [] = true
lacks x (b ∷ bs) = not (b == x) && lacks x bs

pub not_among : (x : ℕ) (bs : List ℕ) → lacks x bs ≡ true → ¬ Contains bs x
not_among x [] is (n, below, same) = absurd (omega arith)
not_among x (b ∷ bs) is (zero, below, same) = true≢false (sym (and_parts (not (b == x)) (lacks x bs) is).0 ∙ ap not (eq-eqb b x same))
not_among x (b ∷ bs) is (suc n, below, same) = not_among x bs (and_parts (not (b == x)) (lacks x bs) is).1 (n, omega arith, same)

pub differ : (a b : ℕ) → a == b ≡ false → a ≢ b
differ a b is same = true≢false (sym (eq-eqb a b same) ∙ is)

-- the bytes have no `=`
abbrev pub free : List ℕ → Bool
free bs = lacks equals bs

pub not_contains : (bs : List ℕ) → free bs ≡ true → ¬ Contains bs equals
not_contains bs is = not_among equals bs is

-- all of these words are plain
abbrev pub all_plain : Bool → List (List ℕ) → Bool
all_plain ended [] = true
all_plain ended (w ∷ ws) = is_plain ended w && all_plain ended ws

-- the first of these words, if there is one, is not plain
abbrev pub stops : Bool → List (List ℕ) → Bool
stops ended [] = true
stops ended (w ∷ ws) = not (is_plain ended w)

are_plain : (ended : Bool) (ws : List (List ℕ)) → all_plain ended ws ≡ true → All (IsPlain ended) ws
are_plain ended [] is = All-nil (IsPlain ended)
are_plain ended (w ∷ ws) is = let parts = and_parts (is_plain ended w) (all_plain ended ws) is in
    All-cons (IsPlain ended) w ws (plain_holds ended w parts.0) (are_plain ended ws parts.1)

pub not_normal : (ended : Bool) (ws : List (List ℕ)) → stops ended ws ≡ true → ¬ IsNormalIn ended ws
not_normal ended [] is = λ h. h
not_normal ended (w ∷ ws) is = λ h. true≢false (sym is ∙ ap not (plain_passes ended w h))

pub plain_front_is : {ended : Bool} (front left : List (List ℕ)) → all_plain ended front ≡ true → stops ended left ≡ true → IsPlainFront ended (front ++ left) front left
plain_front_is {ended = ended} front left plain longest = record { words_are = refl; plain = are_plain ended front plain; longest = not_normal ended left longest }

-- ---- from items to words

-- a flag of a cluster, and more of the cluster
pub flag_of : {t : Table} {short_equals : Bool} {words left : List (List ℕ)} {items : List Item} (c : ℕ) (others : List ℕ) → IsScalar c → kind t (short c) ≡ flag
    → short_equals && begins equals others ≡ false → Cluster exact t short_equals words left others items
    → Cluster exact t short_equals words left (encode_utf8 c ++ others) (option (short c) None ∷ items)
flag_of {t = t} {short_equals = short_equals} {words = words} {left = left} {items = items} c others scalar is none spelled =
    flag_first c (encode_utf8 c) others items (scalar, refl) is (not_mark short_equals others none) spelled

-- the last option of a cluster
pub last_of : {t : Table} {short_equals : Bool} {words left : List (List ℕ)} (c : ℕ) (others : List ℕ) (after : After) (item : Item) → IsScalar c
    → IsAfterLast short_equals others after → Completes (kind t (short c)) (short c) after words item left
    → Cluster exact t short_equals words left (encode_utf8 c ++ others) (item ∷ [])
last_of c others after item scalar ends completes = last_option c (encode_utf8 c) others after item (scalar, refl) ends completes

pub value_after : {short_equals : Bool} (b : ℕ) (bs : List ℕ) → short_equals && b == equals ≡ false → IsAfterLast short_equals (b ∷ bs) (attached (b ∷ bs))
value_after {short_equals = short_equals} b bs none = a_value (some b bs) (not_mark short_equals (b ∷ bs) none) refl

pub cluster_line : {t : Table} {short_equals : Bool} {others left : List (List ℕ)} {items : List Item} (bytes : List ℕ) (front : List Item) → begins dash bytes ≡ false
    → Cluster exact t short_equals others left bytes front → Line exact t short_equals left items → Line exact t short_equals ((dash ∷ bytes) ∷ others) (front ++ items)
cluster_line {others = others} {left = left} {items = items} bytes front other spelled line =
    group ((dash ∷ bytes) ∷ others) left front items (cluster bytes others refl (not_begins dash bytes other) spelled) line

-- `--name`, if the name is not empty
pub name_line : {t : Table} {short_equals : Bool} {others left : List (List ℕ)} {items : List Item} (b : ℕ) (bs : List ℕ) (item : Item) → free (b ∷ bs) ≡ true → IsUtf8 (b ∷ bs)
    → Completes (kind t (long (b ∷ bs))) (long (b ∷ bs)) nothing others item left → Line exact t short_equals left items
    → Line exact t short_equals ((dash ∷ dash ∷ b ∷ bs) ∷ others) (item ∷ items)
name_line {others = others} {left = left} {items = items} b bs item none utf8 completes line =
    group ((dash ∷ dash ∷ b ∷ bs) ∷ others) left (item ∷ []) items
    (lines.long_option (b ∷ bs) (b ∷ bs) (b ∷ bs) nothing item others refl (name_alone (some b bs) refl refl) (not_contains (b ∷ bs) none) (utf8, refl) completes refl) line

-- `--name=value`
pub joined_line : {t : Table} {short_equals : Bool} {others left : List (List ℕ)} {items : List Item} (name value : List ℕ) (item : Item) → free name ≡ true → IsUtf8 name
    → Completes (kind t (long name)) (long name) (joined value) others item left → Line exact t short_equals left items
    → Line exact t short_equals ((dash ∷ dash ∷ (name ++ equals ∷ value)) ∷ others) (item ∷ items)
joined_line {others = others} {left = left} {items = items} name value item none utf8 completes line =
    group ((dash ∷ dash ∷ (name ++ equals ∷ value)) ∷ others) left (item ∷ []) items
    (lines.long_option (name ++ equals ∷ value) name name (joined value) item others refl (name_and_value value refl refl) (not_contains name none) (utf8, refl) completes refl) line

pub plain_line : {t : Table} {short_equals : Bool} {words : List (List ℕ)} {items : List Item} (w : List ℕ) → is_plain false w ≡ true → Line exact t short_equals words items
    → Line exact t short_equals (w ∷ words) (positional w ∷ items)
plain_line {words = words} {items = items} w is line = plain_word w words items (plain_holds false w is) line

-- ---- calls

-- `next` reads the first option of a cluster
pub reads_first : (u : UnreadLine) (b : ℕ) (bs : List ℕ) (ws : List (List ℕ)) → u.tail ≡ no_tail → u.ended ≡ false → u.words ≡ (dash ∷ b ∷ bs) ∷ ws → b == dash ≡ false
    → NextStep u (steps.short (shown (first_piece (b ∷ bs)).char))
    (record u { words = ws; last = short_option (shown (first_piece (b ∷ bs)).char); tail = rest_of (after_first_piece (b ∷ bs)) })
reads_first u b bs ws tail ended words other =
    next_word tail ended (reads_cluster (b ∷ bs) ws words (not_begins dash (b ∷ bs) other) (record { some = some b bs; reply_is = refl; after_is = refl }))

-- `next` reads a long option, without a value and with one
pub reads_name : (u : UnreadLine) (b : ℕ) (bs : List ℕ) (ws : List (List ℕ)) → u.tail ≡ no_tail → u.ended ≡ false → u.words ≡ (dash ∷ dash ∷ b ∷ bs) ∷ ws → free (b ∷ bs) ≡ true
    → NextStep u (steps.long (lossy (b ∷ bs))) (record u { words = ws; last = long_option (lossy (b ∷ bs)); tail = no_tail })
reads_name u b bs ws tail ended words none =
    next_word tail ended (reads_long (b ∷ bs) (b ∷ bs) no_tail ws words (some b bs) (alone (not_contains (b ∷ bs) none) refl) refl refl)

pub reads_joined : (u : UnreadLine) (name value : List ℕ) (ws : List (List ℕ)) → u.tail ≡ no_tail → u.ended ≡ false → u.words ≡ (dash ∷ dash ∷ (name ++ equals ∷ value)) ∷ ws
    → free name ≡ true → NextStep u (steps.long (lossy name)) (record u { words = ws; last = long_option (lossy name); tail = unread.joined value })
reads_joined u name value ws tail ended words none =
    next_word tail ended (reads_long (name ++ equals ∷ value) name (unread.joined value) ws words (not_empty name value) (with_value value (not_contains name none) refl) refl refl)
  where
    not_empty : (name value : List ℕ) → name ++ equals ∷ value ≢ []
    not_empty [] value = some equals value
    not_empty (b ∷ bs) value = some b (bs ++ equals ∷ value)

-- `next` reads a positional, before the separator
pub reads_plain : (u : UnreadLine) (w : List ℕ) (ws : List (List ℕ)) → u.tail ≡ no_tail → u.ended ≡ false → u.words ≡ w ∷ ws → is_plain false w ≡ true
    → NextStep u (steps.positional w) (record u { words = ws })
reads_plain u w ws tail ended words plain = next_word tail ended (reads_positional w ws words (plain_holds false w plain) refl refl)

-- `values` returns n of the available values
pub gives_values : (n : ℕ) (u : UnreadLine) (front left : List (List ℕ)) → IsPlainFront u.ended u.words front left → available_with (pending u) front ≢ []
    → ValuesStep n u (steps.items (take n (available_with (pending u) front))) (without (pending u) (length (take n (available_with (pending u) front))) u)
gives_values n u front left is found =
    let same : available u ≡ available_with (pending u) front = ap (available_with (pending u)) (front_only u.ended u.words front left is) in
    some_values (λ none. found (sym same ∙ none)) (ap (λ l. steps.items (take n l)) (sym same)) (ap (λ l. without (pending u) (length (take n l)) u) (sym same))

-- nothing is pending, and the next word is not plain: no values are available
pub misses_values : (n : ℕ) (u : UnreadLine) → pending u ≡ None → stops u.ended u.words ≡ true → ValuesStep n u (steps.missing (spelling u.last)) u
misses_values n u none stop = no_values
    (ap (λ p. available_with p (plain_front u.ended u.words)) none ∙ front-none u.ended u.words (not_normal u.ended u.words stop)) refl refl

-- if a reading ends in an error, the words show no list
pub none_shown : (t : Table) (short_equals : Bool) (words : List (List ℕ)) (calls : List Call) (replies : List Reply) (final : Reply) (after : UnreadLine)
    → Run (start short_equals words) calls replies after → Asked t calls replies final → final ≢ steps.end → (l : List Item) → Shows t short_equals words l → ⊥
none_shown t short_equals words calls replies final after run asked error l shows =
    error (shown_said t short_equals words l _ final shows (record { calls = calls; replies = replies; after = after; run = run; asked = asked; items_are = refl })).0
