-- The tables of the speller give the results that the relations describe, and the relations
-- describe no others. So each list of items has one result.
use Rattle.std.proofs.Common.{◌≡◌, ◌≢◌, ◌⊎◌, ℕ, suc, ◌==◌, ◌||◌, ◌&&◌, not, Bool, true, false, List, [], ◌∷◌, ◌++◌, encode_utf8, refl, sym, ap, subst, ◌∙◌, arith, inl, inr, true≢false}
use Rattle.std.proofs.lemmas.Bool.{eqb-true, eq-eqb, ne_eqb}
use Rattle.std.proofs.lemmas.List.Folds.{list_any_at}
use Rattle.std.proofs.lemmas.Result.{IfOk-at_ok}
use Rattle.std.proofs.lemmas.Str.{encode_ascii, IsUtf8-from_is_utf8, is_utf8-from_IsUtf8}
use Rattle.std.specs.Prelude.{Result, Ok, Err, Contains}
use Rattle.std.specs.Char.{IsScalar}
use Rattle.std.specs.List.{list_all}
use Rattle.std.specs.Str.{IsUtf8, is_utf8}
use lib.Utf8.{scalar}
use Rattle.lexopt_spec.specs.UnreadLine.{dash, equals, IsPlain, is_plain}
use Rattle.lexopt_spec.proofs.PlainFronts.{plain_holds, plain_passes}
use Rattle.lexopt_line_spec.specs.Table.{Name, short, long, Item, option, many, positional, Kind, kind, Table}
use Rattle.lexopt_line_spec.specs.Spelling.{After, nothing, attached, joined}
use Rattle.lexopt_line_spec.specs.Speller as rows
use Rattle.lexopt_line_spec.specs.Speller.{Reason, dash_without_flag, Place, open_line, in_cluster, after_values, after_positional, ended, BeginsRow, is_positional, NeedSeparator, HasForm, HasNoForm, after_bytes, Adds, GoesOn, IsOf, CannotBeSpelled, SpelledFrom, SpelledAs, FaultFrom, Fault, HasFault}
use Rattle.lexopt_line_spec.proofs.SpellerTables.{Form, short_form, long_form, short_many_form, long_many_form, Added, with_form, short_added, is_named, long_placed, long_added, needs_no_separator, positional_added, adds, separator_comes_too_early, separator_is_due, is_plain_item, Rest, with_rest, with_rests, spelled_from, words_or_fault, spelled}
use Rattle.lexopt_line_spec.proofs.Exact.{contains_first, contains_more}
use Rattle.lexopt_line_spec.proofs.SpellerAnswers.{none_is}
use Rattle.lexopt_line_spec.proofs.SpellerTests.{has_equals, no_equals, none_passes}
use Rattle.lexopt_line_spec.proofs.SpellerRows.{plain_off, off_plain, test_fails, due_holds, due_passes, IsForm, form_of, has_form, has_no_form, short_row, short_many_row, long_row, long_many_row}

-- ---- one item, from the tables

-- the result of a table for an item at a place
abbrev IsAdded : Table → Bool → List Item → Place → Item → Bool → List ℕ → List (List ℕ) → Place → Type 0
IsAdded t short_equals later place item false word words next = Adds t short_equals later place item word words next
IsAdded t short_equals later place item true word words next = GoesOn t short_equals later place item word words next

abbrev IsAnswer : Table → Bool → List Item → Place → Item → Result Added Reason → Type 0
IsAnswer t short_equals later place item (Ok a) = IsAdded t short_equals later place item a.continues a.word a.words a.place
IsAnswer t short_equals later place item (Err r) = CannotBeSpelled t short_equals later place item r

pub dash_bytes : (after : After) → dash ∷ after_bytes after ≡ encode_utf8 dash ++ after_bytes after
dash_bytes after = ap (λ l. l ++ after_bytes after) (sym (encode_ascii dash (omega arith)))

goes_on_row : (t : Table) (short_equals : Bool) (later : List Item) (c : ℕ) (item : Item) (f : Form) → c ≡ dash
    → HasForm short_equals later (kind t (short c)) (short c) item f.after f.words f.place
    → GoesOn t short_equals later in_cluster item (encode_utf8 c ++ after_bytes f.after) f.words f.place
goes_on_row t short_equals later c item f is form =
    subst (λ (x : ℕ). GoesOn t short_equals later in_cluster item (encode_utf8 x ++ after_bytes f.after) f.words f.place) (sym is)
    (subst (λ (l : List ℕ). GoesOn t short_equals later in_cluster item l f.words f.place) (dash_bytes f.after)
    (rows.dash_option f.place item f.after f.words
    (subst (λ (x : ℕ). HasForm short_equals later (kind t (short x)) (short x) item f.after f.words f.place) is form)))

dash_row : (t : Table) (short_equals : Bool) (later : List Item) (c : ℕ) (place : Place) (item : Item) (f : Form) → c ≡ dash → place ≢ in_cluster → place ≢ ended
    → HasForm short_equals later (kind t (short c)) (short c) item f.after f.words f.place → CannotBeSpelled t short_equals later place item dash_without_flag
dash_row t short_equals later c place item f is other some form =
    rows.dash_alone place f.place item f.after f.words other some
    (subst (λ (x : ℕ). HasForm short_equals later (kind t (short x)) (short x) item f.after f.words f.place) is form)

short_answer : (t : Table) (short_equals : Bool) (later : List Item) (s d : Bool) (place : Place) (c : ℕ) (item : Item) (form : Result Form Reason)
    → scalar c ≡ s → (c == dash) ≡ d → IsOf (short c) item → IsForm short_equals later (kind t (short c)) (short c) item form
    → IsAnswer t short_equals later place item (short_added s d place c form)
short_answer t short_equals later false d place c item form scalar_is dash_is of is =
    rows.no_character c place item (λ scalar_too. true≢false (sym scalar_too ∙ scalar_is)) of
short_answer t short_equals later true d place c item (Err r) scalar_is dash_is of is = rows.no_short_form c place item r scalar_is is
short_answer t short_equals later true d ended c item (Ok f) scalar_is dash_is of is =
    rows.short_past_separator c f.place item f.after f.words scalar_is is
short_answer t short_equals later true true in_cluster c item (Ok f) scalar_is dash_is of is = goes_on_row t short_equals later c item f (eqb-true c dash dash_is) is
short_answer t short_equals later true true place c item (Ok f) scalar_is dash_is of is =
    dash_row t short_equals later c place item f (eqb-true c dash dash_is) (λ e. let h : place ≡ in_cluster = e in cc) (λ e. let h : place ≡ ended = e in cc) is
short_answer t short_equals later true false place c item (Ok f) scalar_is dash_is of is =
    rows.short_option c place f.place item f.after f.words scalar_is (λ same. true≢false (sym (eq-eqb c dash same) ∙ dash_is)) (λ e. let h : place ≡ ended = e in cc) is

-- a long option has no value right after its name
pub none_attached : (short_equals : Bool) (later : List Item) (k : Kind) (name : List ℕ) (item : Item) (v : List ℕ) (words : List (List ℕ)) (next : Place)
    → ¬ HasForm short_equals later k (long name) item (attached v) words next
none_attached short_equals later k name item v words next form = elim form [ ]

-- a long option that is named
named_answer : (t : Table) (short_equals : Bool) (later : List Item) (place : Place) (name : List ℕ) (item : Item) (after : After) (words : List (List ℕ)) (next : Place)
    → IsUtf8 name → ¬ Contains name equals → (name ≢ []) ⊎ (after ≢ nothing) → HasForm short_equals later (kind t (long name)) (long name) item after words next
    → IsAnswer t short_equals later place item (long_placed true place name (record { after = after; words = words; place = next }))
named_answer t short_equals later ended name item after words next text none some is = rows.long_past_separator name next item after words text none some is
named_answer t short_equals later place name item after words next text none some is =
    rows.long_option name place next item after words text none some (λ e. let h : place ≡ ended = e in cc) is

-- a long option, by whether it is named
placed_answer : (t : Table) (short_equals : Bool) (later : List Item) (place : Place) (name : List ℕ) (item : Item) (after : After) (words : List (List ℕ)) (next : Place)
    → IsUtf8 name → ¬ Contains name equals → HasForm short_equals later (kind t (long name)) (long name) item after words next
    → IsAnswer t short_equals later place item (long_placed (is_named name after) place name (record { after = after; words = words; place = next }))
placed_answer t short_equals later place [] item nothing words next text none is = rows.empty_long place next item words is
placed_answer t short_equals later place [] item (attached v) words next text none is = absurd (none_attached short_equals later (kind t (long [])) [] item v words next is)
placed_answer t short_equals later place [] item (joined v) words next text none is =
    named_answer t short_equals later place [] item (joined v) words next text none (inr (λ e. let h : joined v ≡ nothing = e in cc)) is
placed_answer t short_equals later place (b ∷ bs) item after words next text none is =
    named_answer t short_equals later place (b ∷ bs) item after words next text none (inl (λ e. let h : b ∷ bs ≡ [] = e in cc)) is

pub contains_so : (name : List ℕ) → has_equals name ≡ true → Contains name equals
contains_so [] has = absurd (true≢false (sym has))
contains_so (b ∷ bs) has = by (b == equals) refl has (λ h. contains_so bs h)
  where
    by : (x : Bool) → (b == equals) ≡ x → (x || has_equals bs) ≡ true → (has_equals bs ≡ true → Contains bs equals) → Contains (b ∷ bs) equals
    by true same all more = subst (λ (y : ℕ). Contains (y ∷ bs) equals) (sym (eqb-true b equals same)) (contains_first bs)
    by false same all more = contains_more b bs (more all)

long_answer : (t : Table) (short_equals : Bool) (later : List Item) (u e : Bool) (place : Place) (name : List ℕ) (item : Item) (form : Result Form Reason)
    → is_utf8 name ≡ u → has_equals name ≡ e → IsOf (long name) item → IsForm short_equals later (kind t (long name)) (long name) item form
    → IsAnswer t short_equals later place item (long_added u e place name form)
long_answer t short_equals later false e place name item form text_is equals_is of is =
    rows.no_text name place item (λ text. true≢false (sym (is_utf8-from_IsUtf8 name text) ∙ text_is)) of
long_answer t short_equals later true true place name item form text_is equals_is of is =
    rows.with_equals name place item (IsUtf8-from_is_utf8 name text_is) (contains_so name equals_is) of
long_answer t short_equals later true false place name item (Err r) text_is equals_is of is =
    rows.no_long_form name place item r (IsUtf8-from_is_utf8 name text_is) (no_equals name equals_is) is
long_answer t short_equals later true false place name item (Ok f) text_is equals_is of is =
    placed_answer t short_equals later place name item f.after f.words f.place (IsUtf8-from_is_utf8 name text_is) (no_equals name equals_is) is

equals_pass : (name : List ℕ) → Contains name equals → has_equals name ≡ true
equals_pass name has = list_any_at (λ b. b == equals) name has.0 equals has.1 (eq-eqb _ equals has.2)

no_bytes : ¬ Contains [] equals
no_bytes has = let within = has.1 in absurd (omega (arith, within))

-- ---- positionals

pub row_needs : (w : List ℕ) (later : List Item) → NeedSeparator later → NeedSeparator (positional w ∷ later)
row_needs w later need = (
  w ∷ need.0,
  ap (λ l. positional w ∷ l) need.1,
  λ plain. need.2 (λ k d within. plain (suc k) d (omega (arith, within))),
)

row_calm : (w : List ℕ) (later : List Item) → is_plain false w ≡ true → separator_is_due later ≡ false → ¬ NeedSeparator (positional w ∷ later)
row_calm w later plain_is due_is need =
    let due = due_passes (positional w ∷ later) need in
    let same : separator_is_due (positional w ∷ later) ≡ separator_is_due later = ap (λ p. list_all is_positional later && not (p && list_all is_plain_item later)) plain_is in
    true≢false (sym due ∙ same ∙ due_is)

-- the first of successive positionals
row_answer : (t : Table) (short_equals : Bool) (later : List Item) (place : Place) (w : List ℕ) (plain due : Bool) → BeginsRow place
    → is_plain false w ≡ plain → separator_is_due later ≡ due
    → IsAnswer t short_equals later place (positional w) (Ok (positional_added (plain && not due) place w))
row_answer t short_equals later place w true true rows.row_at_open plain_is due_is =
    rows.separator_before_row w open_line rows.row_at_open (row_needs w later (due_holds later due_is))
row_answer t short_equals later place w true false rows.row_at_open plain_is due_is =
    rows.first_of_row w open_line rows.row_at_open (plain_holds false w plain_is) (row_calm w later plain_is due_is)
row_answer t short_equals later place w false due rows.row_at_open plain_is due_is =
    rows.separator_before_word w open_line (λ e. let h : open_line ≡ ended = e in cc) (off_plain w plain_is)
row_answer t short_equals later place w true true rows.row_at_cluster plain_is due_is =
    rows.separator_before_row w in_cluster rows.row_at_cluster (row_needs w later (due_holds later due_is))
row_answer t short_equals later place w true false rows.row_at_cluster plain_is due_is =
    rows.first_of_row w in_cluster rows.row_at_cluster (plain_holds false w plain_is) (row_calm w later plain_is due_is)
row_answer t short_equals later place w false due rows.row_at_cluster plain_is due_is =
    rows.separator_before_word w in_cluster (λ e. let h : in_cluster ≡ ended = e in cc) (off_plain w plain_is)

next_answer : (t : Table) (short_equals : Bool) (later : List Item) (w : List ℕ) (plain : Bool) → is_plain false w ≡ plain
    → IsAnswer t short_equals later after_positional (positional w) (Ok (positional_added plain after_positional w))
next_answer t short_equals later w true plain_is = rows.next_of_row w (plain_holds false w plain_is)
next_answer t short_equals later w false plain_is =
    rows.separator_before_word w after_positional (λ e. let h : after_positional ≡ ended = e in cc) (off_plain w plain_is)

positional_answer : (t : Table) (short_equals : Bool) (later : List Item) (place : Place) (w : List ℕ)
    → IsAnswer t short_equals later place (positional w) (Ok (positional_added (needs_no_separator (is_plain false w) (separator_is_due later) place) place w))
positional_answer t short_equals later open_line w = row_answer t short_equals later open_line w (is_plain false w) (separator_is_due later) rows.row_at_open refl refl
positional_answer t short_equals later in_cluster w = row_answer t short_equals later in_cluster w (is_plain false w) (separator_is_due later) rows.row_at_cluster refl refl
positional_answer t short_equals later after_values w = values (is_plain false w)
  where
    values : (alone : Bool) → IsAnswer t short_equals later after_values (positional w) (Ok (positional_added alone after_values w))
    values true = rows.separator_after_values w
    values false = rows.separator_after_values w
positional_answer t short_equals later after_positional w = next_answer t short_equals later w (is_plain false w) refl
positional_answer t short_equals later ended w = last (is_plain false w)
  where
    last : (alone : Bool) → IsAnswer t short_equals later ended (positional w) (Ok (positional_added alone ended w))
    last true = rows.after_separator w
    last false = rows.after_separator w

adds_answer : (t : Table) (short_equals : Bool) (later : List Item) (place : Place) (item : Item)
    → IsAnswer t short_equals later place item (adds t short_equals (separator_comes_too_early later) (separator_is_due later) place item)
adds_answer t short_equals later place (option (short c) value) =
    short_answer t short_equals later (scalar c) (c == dash) place c (option (short c) value) (short_form short_equals (kind t (short c)) value) refl refl refl
    (short_row short_equals later c (kind t (short c)) value)
adds_answer t short_equals later place (many (short c) values) =
    short_answer t short_equals later (scalar c) (c == dash) place c (many (short c) values)
    (short_many_form (short_equals && separator_comes_too_early later) (kind t (short c)) values) refl refl refl
    (short_many_row short_equals later c (kind t (short c)) values)
adds_answer t short_equals later place (option (long name) value) =
    long_answer t short_equals later (is_utf8 name) (has_equals name) place name (option (long name) value) (long_form (kind t (long name)) value) refl refl refl
    (long_row short_equals later name (kind t (long name)) value)
adds_answer t short_equals later place (many (long name) values) =
    long_answer t short_equals later (is_utf8 name) (has_equals name) place name (many (long name) values) (long_many_form (kind t (long name)) values) refl refl refl
    (long_many_row short_equals later name (kind t (long name)) values)
adds_answer t short_equals later place (positional w) = positional_answer t short_equals later place w

-- ---- no other result

-- an item that has a form, or has none, is of its option
form_is_of : (short_equals : Bool) (later : List Item) (k : Kind) (name : Name) (item : Item) (after : After) (words : List (List ℕ)) (next : Place)
    → HasForm short_equals later k name item after words next → IsOf name item
form_is_of short_equals later k name item after words next (rows.short_flag c) = refl
form_is_of short_equals later k name item after words next form = refl

no_form_is_of : (short_equals : Bool) (k : Kind) (name : Name) (item : Item) (reason : Reason) → HasNoForm short_equals k name item reason → IsOf name item
no_form_is_of short_equals k name item reason (rows.no_list n value) = refl
no_form_is_of short_equals k name item reason form = refl

-- the words that an option adds, by its name and its form
abbrev added_by : Table → Bool → Bool → Place → Name → Item → Result Added Reason
added_by t short_equals joins place (short c) item = short_added (scalar c) (c == dash) place c (form_of short_equals joins (kind t (short c)) item)
added_by t short_equals joins place (long name) item =
    long_added (is_utf8 name) (has_equals name) place name (form_of short_equals joins (kind t (long name)) item)

by_name : (t : Table) (short_equals joins due : Bool) (place : Place) (name : Name) (item : Item) → IsOf name item
    → adds t short_equals joins due place item ≡ added_by t short_equals joins place name item
by_name t short_equals joins due place name (option (short c) value) of =
    subst (λ (n : Name). adds t short_equals joins due place (option (short c) value) ≡ added_by t short_equals joins place n (option (short c) value)) of refl
by_name t short_equals joins due place name (many (short c) values) of =
    subst (λ (n : Name). adds t short_equals joins due place (many (short c) values) ≡ added_by t short_equals joins place n (many (short c) values)) of refl
by_name t short_equals joins due place name (option (long m) value) of =
    subst (λ (n : Name). adds t short_equals joins due place (option (long m) value) ≡ added_by t short_equals joins place n (option (long m) value)) of refl
by_name t short_equals joins due place name (many (long m) values) of =
    subst (λ (n : Name). adds t short_equals joins due place (many (long m) values) ≡ added_by t short_equals joins place n (many (long m) values)) of refl
by_name t short_equals joins due place name (positional w) of = absurd of

not_dash : (c : ℕ) → c ≢ dash → (c == dash) ≡ false
not_dash c other = ne_eqb c dash other

-- the result of a table if the item has this form, or has none
short_by : (t : Table) (short_equals : Bool) (later : List Item) (place : Place) (c : ℕ) (item : Item) (form : Result Form Reason) → IsScalar c → IsOf (short c) item
    → form_of short_equals (separator_comes_too_early later) (kind t (short c)) item ≡ form
    → adds t short_equals (separator_comes_too_early later) (separator_is_due later) place item ≡ short_added true (c == dash) place c form
short_by t short_equals later place c item form is_scalar of is =
    by_name t short_equals (separator_comes_too_early later) (separator_is_due later) place (short c) item of
    ∙ ap (λ s. short_added s (c == dash) place c (form_of short_equals (separator_comes_too_early later) (kind t (short c)) item)) is_scalar
    ∙ ap (short_added true (c == dash) place c) is

long_by : (t : Table) (short_equals : Bool) (later : List Item) (place : Place) (name : List ℕ) (item : Item) (form : Result Form Reason) → IsUtf8 name
    → ¬ Contains name equals → IsOf (long name) item → form_of short_equals (separator_comes_too_early later) (kind t (long name)) item ≡ form
    → adds t short_equals (separator_comes_too_early later) (separator_is_due later) place item ≡ long_added true false place name form
long_by t short_equals later place name item form text none of is =
    by_name t short_equals (separator_comes_too_early later) (separator_is_due later) place (long name) item of
    ∙ ap (λ u. long_added u (has_equals name) place name (form_of short_equals (separator_comes_too_early later) (kind t (long name)) item)) (is_utf8-from_IsUtf8 name text)
    ∙ ap (λ e. long_added true e place name (form_of short_equals (separator_comes_too_early later) (kind t (long name)) item)) (none_passes name none)
    ∙ ap (long_added true false place name) is

short_at : (place : Place) (c : ℕ) (f : Form) → place ≢ ended → short_added true false place c (Ok f) ≡ Ok (with_form false (dash ∷ encode_utf8 c) f)
short_at ended c f other = absurd (other refl)
short_at place c f other = refl

dash_at : (place : Place) (c : ℕ) (f : Form) → place ≢ in_cluster → place ≢ ended → short_added true true place c (Ok f) ≡ Err dash_without_flag
dash_at in_cluster c f other some = absurd (other refl)
dash_at ended c f other some = absurd (some refl)
dash_at place c f other some = refl

is_named_so : (name : List ℕ) (after : After) → (name ≢ []) ⊎ (after ≢ nothing) → ((v : List ℕ) → after ≢ attached v) → is_named name after ≡ true
is_named_so (b ∷ bs) after some other = refl
is_named_so [] nothing (inl some) other = absurd (some refl)
is_named_so [] nothing (inr some) other = absurd (some refl)
is_named_so [] (attached v) some other = absurd (other v refl)
is_named_so [] (joined v) some other = refl

-- a long option has no value right after its name
not_attached : (short_equals : Bool) (later : List Item) (k : Kind) (name : List ℕ) (item : Item) (after : After) (words : List (List ℕ)) (next : Place)
    → HasForm short_equals later k (long name) item after words next → (v : List ℕ) → after ≢ attached v
not_attached short_equals later k name item after words next form v is =
    none_attached short_equals later k name item v words next (subst (λ (x : After). HasForm short_equals later k (long name) item x words next) is form)

long_at : (place : Place) (name : List ℕ) (f : Form) → place ≢ ended → long_placed true place name f ≡ Ok (with_form false (dash ∷ dash ∷ name) f)
long_at ended name f other = absurd (other refl)
long_at place name f other = refl

-- a positional that is not plain, at each place except after the separator
off_added : (place : Place) (w : List ℕ) (due : Bool) → place ≢ ended
    → positional_added (needs_no_separator false due place) place w ≡ record { continues = false; word = dash ∷ dash ∷ []; words = w ∷ []; place = ended }
off_added ended w due other = absurd (other refl)
off_added place w due other = refl

-- the first of successive positionals, if the separator is due or it is not plain
due_added : (place : Place) (w : List ℕ) (plain due : Bool) → BeginsRow place → (plain && not due) ≡ false
    → positional_added (needs_no_separator plain due place) place w ≡ record { continues = false; word = dash ∷ dash ∷ []; words = w ∷ []; place = ended }
due_added place w plain due rows.row_at_open off = ap (λ x. positional_added x open_line w) off
due_added place w plain due rows.row_at_cluster off = ap (λ x. positional_added x in_cluster w) off

row_off : (w : List ℕ) (later : List Item) → NeedSeparator (positional w ∷ later) → (is_plain false w && not (separator_is_due later)) ≡ false
row_off w later need = by (is_plain false w) (separator_is_due later) refl refl
  where
    by : (plain due : Bool) → is_plain false w ≡ plain → separator_is_due later ≡ due → (plain && not due) ≡ false
    by true true plain_is due_is = refl
    by false due plain_is due_is = refl
    by true false plain_is due_is = absurd (row_calm w later plain_is due_is need)

row_on : (w : List ℕ) (later : List Item) → IsPlain false w → ¬ NeedSeparator (positional w ∷ later) → (is_plain false w && not (separator_is_due later)) ≡ true
row_on w later plain calm = by (separator_is_due later) refl
  where
    by : (due : Bool) → separator_is_due later ≡ due → (is_plain false w && not due) ≡ true
    by true due_is = absurd (calm (row_needs w later (due_holds later due_is)))
    by false due_is = ap (λ x. x && true) (plain_passes false w plain)

alone_added : (place : Place) (w : List ℕ) (plain due : Bool) → BeginsRow place → (plain && not due) ≡ true
    → positional_added (needs_no_separator plain due place) place w ≡ record { continues = false; word = w; words = []; place = after_positional }
alone_added place w plain due rows.row_at_open on = ap (λ x. positional_added x open_line w) on
alone_added place w plain due rows.row_at_cluster on = ap (λ x. positional_added x in_cluster w) on

last_added : (w : List ℕ) (alone : Bool) → positional_added alone ended w ≡ record { continues = false; word = w; words = []; place = ended }
last_added w true = refl
last_added w false = refl

values_added : (w : List ℕ) (alone : Bool) → positional_added alone after_values w ≡ record { continues = false; word = dash ∷ dash ∷ []; words = w ∷ []; place = ended }
values_added w true = refl
values_added w false = refl

added_is : (t : Table) (short_equals : Bool) (later : List Item) (place : Place) (item : Item) (word : List ℕ) (words : List (List ℕ)) (next : Place)
    → Adds t short_equals later place item word words next
    → adds t short_equals (separator_comes_too_early later) (separator_is_due later) place item ≡ Ok (record { continues = false; word = word; words = words; place = next })
added_is t short_equals later place item word words next (rows.short_option c p q i after ws is_scalar other open_is form) =
    short_by t short_equals later place c item _ is_scalar (form_is_of short_equals later (kind t (short c)) (short c) item after words next form)
    (has_form short_equals later (kind t (short c)) (short c) item after words next form)
    ∙ ap (λ d. short_added true d place c (Ok (record { after = after; words = words; place = next }))) (not_dash c other)
    ∙ short_at place c (record { after = after; words = words; place = next }) open_is
added_is t short_equals later place item word words next (rows.long_option name p q i after ws text none some open_is form) =
    long_by t short_equals later place name item _ text none (form_is_of short_equals later (kind t (long name)) (long name) item after words next form)
    (has_form short_equals later (kind t (long name)) (long name) item after words next form)
    ∙ ap (λ n. long_placed n place name (record { after = after; words = words; place = next }))
    (is_named_so name after some (not_attached short_equals later (kind t (long name)) name item after words next form))
    ∙ long_at place name (record { after = after; words = words; place = next }) open_is
added_is t short_equals later place item word words next (rows.after_separator w) = ap (λ a. Ok a) (last_added w (needs_no_separator (is_plain false w) (separator_is_due later) ended))
added_is t short_equals later place item word words next (rows.separator_after_values w) =
    ap (λ a. Ok a) (values_added w (needs_no_separator (is_plain false w) (separator_is_due later) after_values))
added_is t short_equals later place item word words next (rows.separator_before_row w p begins need) =
    ap (λ a. Ok a) (due_added place w (is_plain false w) (separator_is_due later) begins (row_off w later need))
added_is t short_equals later place item word words next (rows.separator_before_word w p open_is off) =
    ap (λ plain. Ok (positional_added (needs_no_separator plain (separator_is_due later) place) place w)) (plain_off w off)
    ∙ ap (λ a. Ok a) (off_added place w (separator_is_due later) open_is)
added_is t short_equals later place item word words next (rows.first_of_row w p begins plain calm) =
    ap (λ a. Ok a) (alone_added place w (is_plain false w) (separator_is_due later) begins (row_on w later plain calm))
added_is t short_equals later place item word words next (rows.next_of_row w plain) =
    ap (λ alone. Ok (positional_added alone after_positional w)) (plain_passes false w plain)

joined_is : (t : Table) (short_equals : Bool) (later : List Item) (place : Place) (item : Item) (word : List ℕ) (words : List (List ℕ)) (next : Place)
    → GoesOn t short_equals later place item word words next
    → adds t short_equals (separator_comes_too_early later) (separator_is_due later) place item ≡ Ok (record { continues = true; word = word; words = words; place = next })
joined_is t short_equals later place item word words next (rows.dash_option q i after ws form) =
    short_by t short_equals later in_cluster dash item _ refl (form_is_of short_equals later (kind t (short dash)) (short dash) item after words next form)
    (has_form short_equals later (kind t (short dash)) (short dash) item after words next form)
    ∙ ap (λ l. Ok (record { continues = true; word = l; words = words; place = next })) (sym (dash_bytes after))

refused_is : (t : Table) (short_equals : Bool) (later : List Item) (place : Place) (item : Item) (reason : Reason)
    → CannotBeSpelled t short_equals later place item reason
    → adds t short_equals (separator_comes_too_early later) (separator_is_due later) place item ≡ Err reason
refused_is t short_equals later place item reason (rows.no_character c p i none of) =
    by_name t short_equals (separator_comes_too_early later) (separator_is_due later) place (short c) item of
    ∙ ap (λ s. short_added s (c == dash) place c (form_of short_equals (separator_comes_too_early later) (kind t (short c)) item)) (test_fails (scalar c) (λ is. is) none)
refused_is t short_equals later place item reason (rows.no_text name p i none of) =
    by_name t short_equals (separator_comes_too_early later) (separator_is_due later) place (long name) item of
    ∙ ap (λ u. long_added u (has_equals name) place name (form_of short_equals (separator_comes_too_early later) (kind t (long name)) item))
    (test_fails (is_utf8 name) (IsUtf8-from_is_utf8 name) none)
refused_is t short_equals later place item reason (rows.with_equals name p i text has of) =
    by_name t short_equals (separator_comes_too_early later) (separator_is_due later) place (long name) item of
    ∙ ap (λ u. long_added u (has_equals name) place name (form_of short_equals (separator_comes_too_early later) (kind t (long name)) item)) (is_utf8-from_IsUtf8 name text)
    ∙ ap (λ e. long_added true e place name (form_of short_equals (separator_comes_too_early later) (kind t (long name)) item)) (equals_pass name has)
refused_is t short_equals later place item reason (rows.no_short_form c p i r is_scalar form) =
    short_by t short_equals later place c item _ is_scalar (no_form_is_of short_equals (kind t (short c)) (short c) item reason form)
    (has_no_form short_equals later (kind t (short c)) (short c) item reason form)
refused_is t short_equals later place item reason (rows.no_long_form name p i r text none form) =
    long_by t short_equals later place name item _ text none (no_form_is_of short_equals (kind t (long name)) (long name) item reason form)
    (has_no_form short_equals later (kind t (long name)) (long name) item reason form)
refused_is t short_equals later place item reason (rows.empty_long p q i words form) =
    long_by t short_equals later place [] item _ ([], (refl, refl)) no_bytes (form_is_of short_equals later (kind t (long [])) (long []) item nothing words q form)
    (has_form short_equals later (kind t (long [])) (long []) item nothing words q form)
refused_is t short_equals later place item reason (rows.short_past_separator c q i after words is_scalar form) =
    short_by t short_equals later ended c item _ is_scalar (form_is_of short_equals later (kind t (short c)) (short c) item after words q form)
    (has_form short_equals later (kind t (short c)) (short c) item after words q form)
refused_is t short_equals later place item reason (rows.long_past_separator name q i after words text none some form) =
    long_by t short_equals later ended name item _ text none (form_is_of short_equals later (kind t (long name)) (long name) item after words q form)
    (has_form short_equals later (kind t (long name)) (long name) item after words q form)
    ∙ ap (λ n. long_placed n ended name (record { after = after; words = words; place = q }))
    (is_named_so name after some (not_attached short_equals later (kind t (long name)) name item after words q form))
refused_is t short_equals later place item reason (rows.dash_alone p q i after words other open_is form) =
    short_by t short_equals later place dash item _ refl (form_is_of short_equals later (kind t (short dash)) (short dash) item after words q form)
    (has_form short_equals later (kind t (short dash)) (short dash) item after words q form)
    ∙ dash_at place dash (record { after = after; words = words; place = q }) other open_is

-- ---- all items

abbrev IsRest : Table → Bool → List Item → Place → Result Rest Fault → Type 0
IsRest t short_equals items place (Ok r) = SpelledFrom t short_equals place items r.first r.words
IsRest t short_equals items place (Err f) = FaultFrom t short_equals place items f.index f.reason

after_added : (t : Table) (short_equals : Bool) (place next : Place) (item : Item) (later : List Item) (continues : Bool) (word : List ℕ) (words : List (List ℕ))
    (rest : Result Rest Fault) → IsAdded t short_equals later place item continues word words next → IsRest t short_equals later next rest
    → IsRest t short_equals (item ∷ later) place (with_rest (record { continues = continues; word = word; words = words; place = next }) rest)
after_added t short_equals place next item later false word words (Ok r) added is = rows.new_word place next item later word r.first words r.words added is
after_added t short_equals place next item later true word words (Ok r) added is = rows.same_word place next item later word r.first words r.words added is
after_added t short_equals place next item later false word words (Err f) added is =
    rows.after_new_word place next item later word words f.index f.reason added is
after_added t short_equals place next item later true word words (Err f) added is =
    rows.after_same_word place next item later word words f.index f.reason added is

after_answer : (t : Table) (short_equals : Bool) (place : Place) (item : Item) (later : List Item) (o : Result Added Reason) → IsAnswer t short_equals later place item o
    → ((next : Place) → IsRest t short_equals later next (spelled_from t short_equals later next))
    → IsRest t short_equals (item ∷ later) place (with_rests o (spelled_from t short_equals later))
after_answer t short_equals place item later (Err r) is more = rows.here place item later r is
after_answer t short_equals place item later (Ok a) is more =
    after_added t short_equals place a.place item later a.continues a.word a.words (spelled_from t short_equals later a.place) is (more a.place)

from_tables : (t : Table) (short_equals : Bool) (items : List Item) (place : Place) → IsRest t short_equals items place (spelled_from t short_equals items place)
unfolding spelled_from
from_tables t short_equals [] place = rows.no_items place
from_tables t short_equals (item ∷ later) place =
    after_answer t short_equals place item later (adds t short_equals (separator_comes_too_early later) (separator_is_due later) place item)
    (adds_answer t short_equals later place item) (λ next. from_tables t short_equals later next)

from_words : (t : Table) (short_equals : Bool) (place : Place) (items : List Item) (bytes : List ℕ) (words : List (List ℕ))
    → SpelledFrom t short_equals place items bytes words → spelled_from t short_equals items place ≡ Ok (record { first = bytes; words = words })
unfolding spelled_from
from_words t short_equals place items bytes words (rows.no_items p) = refl
from_words t short_equals place items bytes words (rows.new_word p next item later word others more ws added spelled_too) =
    ap (λ o. with_rests o (spelled_from t short_equals later)) (added_is t short_equals later place item word more next added)
    ∙ ap (with_rest (record { continues = false; word = word; words = more; place = next })) (from_words t short_equals next later others ws spelled_too)
from_words t short_equals place items bytes words (rows.same_word p next item later word others more ws added spelled_too) =
    ap (λ o. with_rests o (spelled_from t short_equals later)) (joined_is t short_equals later place item word more next added)
    ∙ ap (with_rest (record { continues = true; word = word; words = more; place = next })) (from_words t short_equals next later others ws spelled_too)

from_fault : (t : Table) (short_equals : Bool) (place : Place) (items : List Item) (index : ℕ) (reason : Reason) → FaultFrom t short_equals place items index reason
    → spelled_from t short_equals items place ≡ Err (record { index = index; reason = reason })
unfolding spelled_from
from_fault t short_equals place items index reason (rows.here p item later r refused) =
    ap (λ o. with_rests o (spelled_from t short_equals later)) (refused_is t short_equals later place item reason refused)
from_fault t short_equals place items index reason (rows.after_new_word p next item later word more i r added fault) =
    ap (λ o. with_rests o (spelled_from t short_equals later)) (added_is t short_equals later place item word more next added)
    ∙ ap (with_rest (record { continues = false; word = word; words = more; place = next })) (from_fault t short_equals next later i reason fault)
from_fault t short_equals place items index reason (rows.after_same_word p next item later word more i r added fault) =
    ap (λ o. with_rests o (spelled_from t short_equals later)) (joined_is t short_equals later place item word more next added)
    ∙ ap (with_rest (record { continues = true; word = word; words = more; place = next })) (from_fault t short_equals next later i reason fault)

-- ---- the words and the fault of a list

abbrev FaultIs : Result (List (List ℕ)) Fault → Fault → Type 0
FaultIs answer f = answer ≡ Err f

-- only after a flag do bytes continue a word
pub none_first : (t : Table) (short_equals : Bool) (place : Place) (items : List Item) (bytes : List ℕ) (words : List (List ℕ)) → place ≢ in_cluster
    → SpelledFrom t short_equals place items bytes words → bytes ≡ []
none_first t short_equals place items bytes words other (rows.no_items p) = refl
none_first t short_equals place items bytes words other (rows.new_word p next item later word others more ws added spelled_too) = refl
none_first t short_equals place items bytes words other (rows.same_word p next item later word others more ws (rows.dash_option q i after vs form) spelled_too) =
    absurd (other refl)

pub words_are : (t : Table) (short_equals : Bool) (items : List Item) (words : List (List ℕ)) → SpelledAs t short_equals items words → spelled t short_equals items ≡ Ok words
words_are t short_equals items words is = ap words_or_fault (from_words t short_equals open_line items [] words is)

pub fault_is : (t : Table) (short_equals : Bool) (items : List Item) (f : Fault) → HasFault t short_equals items f → spelled t short_equals items ≡ Err f
fault_is t short_equals items f is = ap words_or_fault (from_fault t short_equals open_line items f.index f.reason is)

pub are_words : (t : Table) (short_equals : Bool) (items : List Item) (words : List (List ℕ)) → spelled t short_equals items ≡ Ok words → SpelledAs t short_equals items words
are_words t short_equals items words is = by (spelled_from t short_equals items open_line) (from_tables t short_equals items open_line) is
  where
    by : (o : Result Rest Fault) → IsRest t short_equals items open_line o → words_or_fault o ≡ Ok words → SpelledAs t short_equals items words
    by (Err f) from is_ok = none_is f words is_ok
    by (Ok r) from is_ok =
        subst (λ (bytes : List ℕ). SpelledFrom t short_equals open_line items bytes words)
        (none_first t short_equals open_line items r.first r.words (λ e. let h : open_line ≡ in_cluster = e in cc) from)
        (IfOk-at_ok (λ (ws : List (List ℕ)). SpelledFrom t short_equals open_line items r.first ws) is_ok from)

pub is_fault : (t : Table) (short_equals : Bool) (items : List Item) (f : Fault) → spelled t short_equals items ≡ Err f → HasFault t short_equals items f
is_fault t short_equals items f is = by (spelled_from t short_equals items open_line) (from_tables t short_equals items open_line) is
  where
    by : (o : Result Rest Fault) → IsRest t short_equals items open_line o → words_or_fault o ≡ Err f → HasFault t short_equals items f
    by (Ok r) from is_err = none_is f r.words (sym is_err)
    by (Err g) from is_err =
        let same : g ≡ f = (let e : FaultIs (Err g) f = is_err in cc) in subst (HasFault t short_equals items) same from

-- ---- one result

pub some_answer : (t : Table) (short_equals : Bool) (items : List Item)
    → ((words : List (List ℕ)) × SpelledAs t short_equals items words) ⊎ ((f : Fault) × HasFault t short_equals items f)
some_answer t short_equals items = by (spelled t short_equals items) refl
  where
    by : (o : Result (List (List ℕ)) Fault) → spelled t short_equals items ≡ o
        → ((words : List (List ℕ)) × SpelledAs t short_equals items words) ⊎ ((f : Fault) × HasFault t short_equals items f)
    by (Ok words) is = inl (words, are_words t short_equals items words is)
    by (Err f) is = inr (f, is_fault t short_equals items f is)

pub same_words : (t : Table) (short_equals : Bool) (items : List Item) (words others : List (List ℕ)) → SpelledAs t short_equals items words
    → SpelledAs t short_equals items others → words ≡ others
same_words t short_equals items words others one other =
    let e : Ok words ≡ Ok others = sym (words_are t short_equals items words one) ∙ words_are t short_equals items others other in cc

pub same_faults : (t : Table) (short_equals : Bool) (items : List Item) (f g : Fault) → HasFault t short_equals items f → HasFault t short_equals items g → f ≡ g
same_faults t short_equals items f g one other =
    let e : Err f ≡ Err g = sym (fault_is t short_equals items f one) ∙ fault_is t short_equals items g other in cc

pub not_both : {X : Type 0} (t : Table) (short_equals : Bool) (items : List Item) (words : List (List ℕ)) (f : Fault) → SpelledAs t short_equals items words
    → HasFault t short_equals items f → X
not_both t short_equals items words f one other = none_is f words (sym (fault_is t short_equals items f other) ∙ words_are t short_equals items words one)
