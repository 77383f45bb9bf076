-- The words that the speller returns spell the items.
use Rattle.std.proofs.Common.{◌≡◌, ◌≢◌, ◌⊎◌, ℕ, Bool, false, List, [], ◌∷◌, ◌++◌, map, None, encode_utf8, refl, sym, ap, subst, ◌∙◌, arith, inl, inr, true≢false, append-nil, append_assoc}
use Rattle.std.specs.Prelude.{Ok}
use Rattle.std.specs.List.{Contains}
use Rattle.std.specs.Str.{IsUtf8}
use Rattle.std.specs.Char.{IsScalar}
use Rattle.lexopt_spec.specs.UnreadLine.{dash, equals, BeginsWith, IsPlain, IsNormalIn}
use Rattle.lexopt_line_spec.specs.Table.{short, long, Item, option, positional, Kind, kind, Table}
use Rattle.lexopt_line_spec.specs.Spelling as spelling
use Rattle.lexopt_line_spec.specs.Spelling.{exact, After, nothing, attached, joined, BeginsWithMark, Cluster, flag_first, last_option, IsLong, name_alone, name_and_value, cluster, Line, no_words, plain_word, group, separator, Spells}
use Rattle.lexopt_line_spec.specs.Speller as rows
use Rattle.lexopt_line_spec.specs.Speller.{Place, open_line, in_cluster, after_values, after_positional, ended, after_bytes, BeginsRow, HasForm, Adds, GoesOn, SpelledFrom, SpelledAs}
use Rattle.lexopt_line_spec.proofs.SpellerTables.{Rest, spelled}
use Rattle.lexopt_line_spec.proofs.SpellerTests.{dash_first, some_bytes}
use Rattle.lexopt_line_spec.proofs.SpellerForms.{completed, after_last, IsFlag, place_after, long_place}
use Rattle.lexopt_line_spec.proofs.SpellerAgrees.{none_attached, dash_bytes, are_words}

-- ---- facts about the words, by their place

-- the bytes, with the words after them, end a cluster and the line
pub record Clustered (t : Table) (short_equals : Bool) (bytes : List ℕ) (words : List (List ℕ)) (items : List Item) : Type 0 where
  pub front : List Item
  pub others : List Item
  pub left : List (List ℕ)
  pub spelled : Cluster exact t short_equals words left bytes front
  pub line : Line exact t short_equals left others
  pub items_are : items ≡ front ++ others

-- no bytes continue a word, and the words spell the items
pub record Closed (t : Table) (short_equals : Bool) (r : Rest) (items : List Item) : Type 0 where
  pub none : r.first ≡ []
  pub line : Line exact t short_equals r.words items

abbrev pub Right : Table → Bool → Place → Rest → List Item → Type 0
Right t short_equals open_line r items = Closed t short_equals r items
Right t short_equals in_cluster r items = Closed t short_equals r items ⊎ (BeginsWith dash r.first × Clustered t short_equals r.first r.words items)
Right t short_equals after_values r items = Closed t short_equals r items × ¬ IsNormalIn false r.words
Right t short_equals after_positional r items = Closed t short_equals r items
Right t short_equals ended r items = (r.first ≡ []) × (items ≡ map positional r.words)

-- ---- an item's words

pub not_plain : (bytes : List ℕ) → bytes ≢ [] → ¬ IsPlain false (dash ∷ bytes)
not_plain bytes some (inl e) = true≢false (sym e)
not_plain bytes some (inr (inl e)) = some (let same : bytes ≡ [] = cc in same)
not_plain bytes some (inr (inr other)) = other refl

-- the words after an option that is not a short flag
closed_after : (t : Table) (short_equals : Bool) (place : Place) (r : Rest) (items : List Item) → (place ≡ open_line) ⊎ (place ≡ after_values) → Right t short_equals place r items
    → Closed t short_equals r items × (place ≡ after_values → ¬ IsNormalIn false r.words)
closed_after t short_equals place r items (inl is) right =
    (subst (λ (p : Place). Right t short_equals p r items) is right, λ other. absurd (let e : open_line ≡ after_values = sym is ∙ other in cc))
closed_after t short_equals place r items (inr is) right =
    let both = subst (λ (p : Place). Right t short_equals p r items) is right in (both.0, λ same. both.1)

no_mark : (short_equals : Bool) (bytes : List ℕ) → BeginsWith dash bytes → ¬ BeginsWithMark short_equals bytes
no_mark short_equals [] begins mark = begins
no_mark short_equals (b ∷ bs) begins mark = let e : equals ≡ dash = sym mark.1 ∙ begins in absurd (omega arith)

tail_nil : (name after first : List ℕ) → first ≡ [] → (name ++ after) ++ first ≡ name ++ after
tail_nil name after first none = ap (λ l. (name ++ after) ++ l) none ∙ append-nil (name ++ after)

-- an option of a cluster, with the words after it
clustered : (t : Table) (short_equals : Bool) (later : List Item) (c : ℕ) (item : Item) (after : After) (words : List (List ℕ)) (next : Place) (r : Rest) (items : List Item) → IsScalar c
    → HasForm short_equals later (kind t (short c)) (short c) item after words next → Right t short_equals next r items
    → Clustered t short_equals ((encode_utf8 c ++ after_bytes after) ++ r.first) (words ++ r.words) (item ∷ items)
clustered t short_equals later c item after words next r items is_scalar form right = by (place_after short_equals later (kind t (short c)) (short c) item after words next form)
  where
    last : Closed t short_equals r items → (next ≡ after_values → ¬ IsNormalIn false r.words)
        → Clustered t short_equals ((encode_utf8 c ++ after_bytes after) ++ r.first) (words ++ r.words) (item ∷ items)
    last closed calm = record {
      front = item ∷ [];
      others = items;
      left = r.words;
      spelled = subst (λ (l : List ℕ). Cluster exact t short_equals (words ++ r.words) r.words l (item ∷ [])) (sym (tail_nil (encode_utf8 c) (after_bytes after) r.first closed.none))
          (last_option c (encode_utf8 c) (after_bytes after) after item (is_scalar, refl) (after_last short_equals later (kind t (short c)) c item after words next form)
          (completed short_equals later (kind t (short c)) (short c) item after words next r.words form calm));
      line = closed.line;
      items_are = refl;
    }

    in_flags : IsFlag (kind t (short c)) (short c) item after words next → Closed t short_equals r items ⊎ (BeginsWith dash r.first × Clustered t short_equals r.first r.words items)
        → Clustered t short_equals ((encode_utf8 c ++ after_bytes after) ++ r.first) (words ++ r.words) (item ∷ items)
    in_flags flagged (inl closed) = last closed (λ values_at. absurd (let e : in_cluster ≡ after_values = sym flagged.place_is ∙ values_at in cc))
    in_flags flagged (inr more) =
        let l = more.1 in
        subst (λ (a : After). Clustered t short_equals ((encode_utf8 c ++ after_bytes a) ++ r.first) (words ++ r.words) (item ∷ items)) (sym flagged.after_is)
        (subst (λ (ws : List (List ℕ)). Clustered t short_equals ((encode_utf8 c ++ []) ++ r.first) (ws ++ r.words) (item ∷ items)) (sym flagged.words_are)
        (record {
          front = option (short c) None ∷ l.front;
          others = l.others;
          left = l.left;
          spelled = subst (λ (x : List ℕ). Cluster exact t short_equals r.words l.left (x ++ r.first) (option (short c) None ∷ l.front)) (sym (append-nil (encode_utf8 c)))
              (flag_first c (encode_utf8 c) r.first l.front (is_scalar, refl) flagged.kind_is (no_mark short_equals r.first more.0) l.spelled);
          line = l.line;
          items_are = ap (λ x. x ∷ items) flagged.item_is ∙ ap (λ x. option (short c) None ∷ x) l.items_are;
        }))

    by : ((next ≡ open_line) ⊎ (next ≡ after_values)) ⊎ IsFlag (kind t (short c)) (short c) item after words next
        → Clustered t short_equals ((encode_utf8 c ++ after_bytes after) ++ r.first) (words ++ r.words) (item ∷ items)
    by (inl at) = let closed = closed_after t short_equals next r items at right in last closed.0 closed.1
    by (inr flagged) = in_flags flagged (subst (λ (p : Place). Right t short_equals p r items) flagged.place_is right)

-- a cluster as a word
cluster_word : (t : Table) (short_equals : Bool) (bytes : List ℕ) (words : List (List ℕ)) (items : List Item) → ¬ BeginsWith dash bytes → Clustered t short_equals bytes words items
    → Line exact t short_equals ((dash ∷ bytes) ∷ words) items
cluster_word t short_equals bytes words items other l =
    subst (Line exact t short_equals ((dash ∷ bytes) ∷ words)) (sym l.items_are)
    (group ((dash ∷ bytes) ∷ words) l.left l.front l.others (cluster bytes words refl other l.spelled) l.line)

begins_name : (c : ℕ) (after first : List ℕ) → BeginsWith dash ((encode_utf8 c ++ after) ++ first) → c ≡ dash
begins_name c after first begins = dash_first c (after ++ first) (subst (BeginsWith dash) (append_assoc (encode_utf8 c) after first) begins)

name_some : (c : ℕ) (after first : List ℕ) → IsScalar c → (encode_utf8 c ++ after) ++ first ≢ []
name_some c after first is_scalar none = some_bytes c (after ++ first) is_scalar (sym (append_assoc (encode_utf8 c) after first) ∙ none)

-- ---- an option

-- the words, at each place before the separator
anywhere : (t : Table) (short_equals : Bool) (place : Place) (r : Rest) (items : List Item) → place ≢ ended → Closed t short_equals r items → ¬ IsNormalIn false r.words
    → Right t short_equals place r items
anywhere t short_equals open_line r items before closed none = closed
anywhere t short_equals in_cluster r items before closed none = inl closed
anywhere t short_equals after_values r items before closed none = (closed, none)
anywhere t short_equals after_positional r items before closed none = closed
anywhere t short_equals ended r items before closed none = absurd (before refl)

-- a new word, and then the rest
abbrev glued : List ℕ → List (List ℕ) → Rest → Rest
glued word words r = record { first = []; words = (word ++ r.first) ∷ (words ++ r.words) }

short_right : (t : Table) (short_equals : Bool) (later : List Item) (c : ℕ) (place next : Place) (item : Item) (after : After) (words : List (List ℕ)) (r : Rest) (items : List Item)
    → IsScalar c → c ≢ dash → place ≢ ended → HasForm short_equals later (kind t (short c)) (short c) item after words next → Right t short_equals next r items
    → Right t short_equals place (glued (dash ∷ encode_utf8 c ++ after_bytes after) words r) (item ∷ items)
short_right t short_equals later c place next item after words r items is_scalar other before form right =
    anywhere t short_equals place _ (item ∷ items) before (record {
      none = refl;
      line = cluster_word t short_equals ((encode_utf8 c ++ after_bytes after) ++ r.first) (words ++ r.words) (item ∷ items)
          (λ begins. other (begins_name c (after_bytes after) r.first begins)) (clustered t short_equals later c item after words next r items is_scalar form right);
    })
    (not_plain ((encode_utf8 c ++ after_bytes after) ++ r.first) (name_some c (after_bytes after) r.first is_scalar))

is_long : (short_equals : Bool) (later : List Item) (k : Kind) (name : List ℕ) (item : Item) (after : After) (words : List (List ℕ)) (next : Place) → (name ≢ []) ⊎ (after ≢ nothing)
    → HasForm short_equals later k (long name) item after words next → IsLong (name ++ after_bytes after) name after
is_long short_equals later k name item nothing words next (inl some) form = name_alone some (append-nil name) refl
is_long short_equals later k name item nothing words next (inr some) form = absurd (some refl)
is_long short_equals later k name item (attached v) words next some form = absurd (none_attached short_equals later k name item v words next form)
is_long short_equals later k name item (joined v) words next some form = name_and_value v refl refl

long_closed : (t : Table) (short_equals : Bool) (later : List Item) (k : Kind) (name : List ℕ) (item : Item) (after : After) (words : List (List ℕ)) (next : Place) (r : Rest)
    (items : List Item) → HasForm short_equals later k (long name) item after words next → Right t short_equals next r items
    → Closed t short_equals r items × (next ≡ after_values → ¬ IsNormalIn false r.words)
long_closed t short_equals later k name item after words next r items form right =
    closed_after t short_equals next r items (long_place short_equals later k name item after words next form) right

long_right : (t : Table) (short_equals : Bool) (later : List Item) (name : List ℕ) (place next : Place) (item : Item) (after : After) (words : List (List ℕ)) (r : Rest) (items : List Item)
    → IsUtf8 name → ¬ Contains name equals → (name ≢ []) ⊎ (after ≢ nothing) → place ≢ ended → HasForm short_equals later (kind t (long name)) (long name) item after words next
    → Right t short_equals next r items → Right t short_equals place (glued (dash ∷ dash ∷ name ++ after_bytes after) words r) (item ∷ items)
long_right t short_equals later name place next item after words r items text none some before form right =
    let k = kind t (long name) in
    let closed = long_closed t short_equals later k name item after words next r items form right in
    let bytes = after_bytes after in
    anywhere t short_equals place _ (item ∷ items) before (record {
      none = refl;
      line = subst (λ (w : List ℕ). Line exact t short_equals ((dash ∷ dash ∷ w) ∷ (words ++ r.words)) (item ∷ items)) (sym (tail_nil name bytes r.first closed.0.none))
          (group ((dash ∷ dash ∷ (name ++ bytes)) ∷ (words ++ r.words)) r.words (item ∷ []) items
          (spelling.long_option (name ++ bytes) name name after item (words ++ r.words) refl (is_long short_equals later k name item after words next some form) none (text, refl)
          (completed short_equals later k (long name) item after words next r.words form closed.1) refl)
          closed.0.line);
    })
    (not_plain (dash ∷ ((name ++ bytes) ++ r.first)) (λ nil. let e : dash ∷ ((name ++ bytes) ++ r.first) ≡ [] = nil in cc))

-- ---- positionals

first_nil : (w first : List ℕ) → first ≡ [] → w ++ first ≡ w
first_nil w first none = ap (λ l. w ++ l) none ∙ append-nil w

separator_line : (t : Table) (short_equals : Bool) (w : List ℕ) (r : Rest) (items : List Item) → Right t short_equals ended r items
    → Line exact t short_equals (((dash ∷ dash ∷ []) ++ r.first) ∷ w ∷ r.words) (positional w ∷ items)
separator_line t short_equals w r items right =
    subst (λ (l : List ℕ). Line exact t short_equals (l ∷ w ∷ r.words) (positional w ∷ items)) (sym (first_nil (dash ∷ dash ∷ []) r.first right.0))
    (subst (λ (l : List Item). Line exact t short_equals ((dash ∷ dash ∷ []) ∷ w ∷ r.words) (positional w ∷ l)) (sym right.1) (separator (w ∷ r.words)))

separator_right : (t : Table) (short_equals : Bool) (place : Place) (w : List ℕ) (r : Rest) (items : List Item) → place ≢ ended → Right t short_equals ended r items
    → Right t short_equals place (glued (dash ∷ dash ∷ []) (w ∷ []) r) (positional w ∷ items)
separator_right t short_equals place w r items before right =
    anywhere t short_equals place _ (positional w ∷ items) before (record { none = refl; line = separator_line t short_equals w r items right })
    (not_plain (dash ∷ r.first) (λ nil. let e : dash ∷ r.first ≡ [] = nil in cc))

plain_closed : (t : Table) (short_equals : Bool) (w : List ℕ) (r : Rest) (items : List Item) → IsPlain false w → Closed t short_equals r items
    → Closed t short_equals (glued w [] r) (positional w ∷ items)
plain_closed t short_equals w r items plain closed = record {
  none = refl;
  line = subst (λ (l : List ℕ). Line exact t short_equals (l ∷ r.words) (positional w ∷ items)) (sym (first_nil w r.first closed.none)) (plain_word w r.words items plain closed.line);
}

row_before : (place : Place) → BeginsRow place → place ≢ ended
row_before place rows.row_at_open = λ e. let h : open_line ≡ ended = e in cc
row_before place rows.row_at_cluster = λ e. let h : in_cluster ≡ ended = e in cc

-- ---- all items

adds_right : (t : Table) (short_equals : Bool) (later : List Item) (place : Place) (item : Item) (word : List ℕ) (words : List (List ℕ)) (next : Place) (r : Rest) (items : List Item)
    → Adds t short_equals later place item word words next → Right t short_equals next r items → Right t short_equals place (glued word words r) (item ∷ items)
adds_right t short_equals later place item word words next r items (rows.short_option c p q i after ws is_scalar other before form) right =
    short_right t short_equals later c place next item after words r items is_scalar other before form right
adds_right t short_equals later place item word words next r items (rows.long_option name p q i after ws text none some before form) right =
    long_right t short_equals later name place next item after words r items text none some before form right
adds_right t short_equals later place item word words next r items (rows.after_separator w) right =
    (refl, ap (λ l. positional w ∷ l) right.1 ∙ ap (λ x. positional x ∷ map positional r.words) (sym (first_nil w r.first right.0)))
adds_right t short_equals later place item word words next r items (rows.separator_after_values w) right =
    separator_right t short_equals after_values w r items (λ e. let h : after_values ≡ ended = e in cc) right
adds_right t short_equals later place item word words next r items (rows.separator_before_row w p begins need) right =
    separator_right t short_equals place w r items (row_before place begins) right
adds_right t short_equals later place item word words next r items (rows.separator_before_word w p before none) right = separator_right t short_equals place w r items before right
adds_right t short_equals later place item word words next r items (rows.first_of_row w p rows.row_at_open plain calm) right = plain_closed t short_equals w r items plain right
adds_right t short_equals later place item word words next r items (rows.first_of_row w p rows.row_at_cluster plain calm) right = inl (plain_closed t short_equals w r items plain right)
adds_right t short_equals later place item word words next r items (rows.next_of_row w plain) right = plain_closed t short_equals w r items plain right

goes_right : (t : Table) (short_equals : Bool) (later : List Item) (place : Place) (item : Item) (word : List ℕ) (words : List (List ℕ)) (next : Place) (r : Rest) (items : List Item)
    → GoesOn t short_equals later place item word words next → Right t short_equals next r items
    → Right t short_equals place (record { first = word ++ r.first; words = words ++ r.words }) (item ∷ items)
goes_right t short_equals later place item word words next r items (rows.dash_option q i after ws form) right =
    inr (
      refl,
      subst (λ (l : List ℕ). Clustered t short_equals (l ++ r.first) (words ++ r.words) (item ∷ items)) (sym (dash_bytes after))
          (clustered t short_equals later dash item after words next r items refl form right),
    )

nil_right : (t : Table) (short_equals : Bool) (place : Place) → Right t short_equals place (record { first = []; words = [] }) []
nil_right t short_equals ended = (refl, refl)
nil_right t short_equals place = anywhere t short_equals place _ [] (λ e. let h : place ≡ ended = e in cc) (record { none = refl; line = no_words }) (λ h. h)

spelled_right : (t : Table) (short_equals : Bool) (place : Place) (items : List Item) (bytes : List ℕ) (words : List (List ℕ)) → SpelledFrom t short_equals place items bytes words
    → Right t short_equals place (record { first = bytes; words = words }) items
spelled_right t short_equals place items bytes words (rows.no_items p) = nil_right t short_equals place
spelled_right t short_equals place items bytes words (rows.new_word p next item later word others more ws added rest) =
    adds_right t short_equals later place item word more next (record { first = others; words = ws }) later added (spelled_right t short_equals next later others ws rest)
spelled_right t short_equals place items bytes words (rows.same_word p next item later word others more ws goes rest) =
    goes_right t short_equals later place item word more next (record { first = others; words = ws }) later goes (spelled_right t short_equals next later others ws rest)

pub words_spell : (t : Table) (short_equals : Bool) (items : List Item) (words : List (List ℕ)) → SpelledAs t short_equals items words → Spells t short_equals words items
words_spell t short_equals items words is = (spelled_right t short_equals open_line items [] words is).line

pub spelled_spells : (t : Table) (short_equals : Bool) (items : List Item) (words : List (List ℕ)) → spelled t short_equals items ≡ Ok words → Spells t short_equals words items
spelled_spells t short_equals items words is = words_spell t short_equals items words (are_words t short_equals items words is)
