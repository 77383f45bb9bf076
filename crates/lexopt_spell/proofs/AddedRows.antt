-- The words that the code finds for an item, by the rows.
use Rattle.std.proofs.Common.{◌≡◌, ◌≢◌, ◌⊎◌, ℕ, Bool, true, false, List, [], ◌∷◌, ◌++◌, Result, Err, refl, sym, ap, subst, ◌∙◌, inl, inr, Contains, map}
use Rattle.std.specs.Char.{IsScalar}
use Rattle.std.specs.Str.{IsUtf8}
use Rattle.std.specs.List.{All}
use Rattle.lexopt_spec.specs.UnreadLine.{dash, equals, IsPlain, is_plain}
use Rattle.lexopt_line_spec.specs.Table as spec
use Rattle.lexopt_line_spec.specs.Table.{Name, short, long, Item, positional, kind, Table}
use Rattle.lexopt_line_spec.specs.Spelling.{After, nothing, attached, joined}
use Rattle.lexopt_line_spec.specs.Speller as rows
use Rattle.lexopt_line_spec.specs.Speller.{HasForm, HasNoForm, CannotBeSpelled, Adds, BeginsRow, NeedSeparator, open_line, in_cluster, ended}
use Rattle.lexopt_spell.proofs.FormRows.{plain_more}
use Rattle.lexopt_line_spec.proofs.SpellerAgrees.{none_attached}
use Rattle.lexopt_spell.specs.Models.{Parts, HasParts, FormIs, AddsWords, AddedIs, form_view, place_view, reason_view}
use Rattle.lexopt_spell.specs.declared.forms.Place.{Place}
use Rattle.lexopt_spell.specs.declared.forms.Place.TheVariants.{Open, InCluster, Ended}
use Rattle.lexopt_spell.specs.declared.forms.Form.{Form}
use Rattle.lexopt_spell.specs.declared.words.Word.{Word}
use Rattle.lexopt_spell.specs.declared.words.Word.TheVariants.{Short, Dash}
use Rattle.lexopt_spell.specs.declared.added.Added.{Added}
use Rattle.lexopt_spell.specs.declared.spell.Reason.{Reason}

-- ---- places

pub not_ended : (place : Place) → (place ≡ Ended → ⊥) → place_view place ≢ ended
not_ended Ended none = absurd (none refl)
not_ended place none = λ is. cc

pub not_in_cluster : (place : Place) → (place ≡ InCluster → ⊥) → place_view place ≢ in_cluster
not_in_cluster InCluster none = absurd (none refl)
not_in_cluster place none = λ is. cc

-- ---- a short option

pub past_short : (t : Table) (short_equals : Bool) (later : List Item) (x : ℕ) (place : Place) (item : Item) (p : Parts) → IsScalar x → place ≡ Ended
    → HasParts short_equals later (kind t (short x)) (short x) item p → CannotBeSpelled t short_equals later (place_view place) item rows.past_separator
past_short t short_equals later x place item p scalar is form =
    subst (λ (q : Place). CannotBeSpelled t short_equals later (place_view q) item rows.past_separator) (sym is) (rows.short_past_separator x p.place item p.after p.words scalar form)

pub dash_row : (t : Table) (short_equals : Bool) (later : List Item) (x : ℕ) (place : Place) (item : Item) (p : Parts) → x ≡ dash → (place ≡ InCluster → ⊥) → (place ≡ Ended → ⊥)
    → HasParts short_equals later (kind t (short x)) (short x) item p → CannotBeSpelled t short_equals later (place_view place) item rows.dash_without_flag
dash_row t short_equals later x place item p is other before form =
    rows.dash_alone (place_view place) p.place item p.after p.words (not_in_cluster place other) (not_ended place before)
    (subst (λ (y : ℕ). HasParts short_equals later (kind t (short y)) (short y) item p) is form)

pub short_row : (t : Table) (short_equals : Bool) (later : List Item) (x : ℕ) (place : Place) (item : Item) (f : Form) (word : Word) → IsScalar x → x ≢ dash → (place ≡ Ended → ⊥)
    → word ≡ Short x f.after → HasParts short_equals later (kind t (short x)) (short x) item (form_view f)
    → AddsWords t short_equals later (place_view place) item (record { word = word; words = f.words; place = f.place })
short_row t short_equals later x place item f word scalar other before is form =
    let p = form_view f in
    subst (λ (w : Word). AddsWords t short_equals later (place_view place) item (record { word = w; words = f.words; place = f.place })) (sym is)
    (rows.short_option x (place_view place) p.place item p.after p.words scalar other (not_ended place before) form)

pub goes_on_row : (t : Table) (short_equals : Bool) (later : List Item) (x : ℕ) (place : Place) (item : Item) (f : Form) (word : Word) → x ≡ dash → place ≡ InCluster
    → word ≡ Dash f.after → HasParts short_equals later (kind t (short x)) (short x) item (form_view f)
    → AddsWords t short_equals later (place_view place) item (record { word = word; words = f.words; place = f.place })
goes_on_row t short_equals later x place item f word same at is form =
    let p = form_view f in
    subst (λ (w : Word). AddsWords t short_equals later (place_view place) item (record { word = w; words = f.words; place = f.place })) (sym is)
    (subst (λ (q : Place). AddsWords t short_equals later (place_view q) item (record { word = Dash f.after; words = f.words; place = f.place })) (sym at)
    (rows.dash_option p.place item p.after p.words (subst (λ (y : ℕ). HasParts short_equals later (kind t (short y)) (short y) item p) same form)))

-- ---- a long option

abbrev pub IsNamed : List ℕ → After → Type 0
IsNamed name after = (name ≢ []) ⊎ ((value : List ℕ) × (after ≡ joined value))

pub empty_row : (t : Table) (short_equals : Bool) (later : List Item) (name : List ℕ) (place : rows.Place) (item : Item) (after : After) (words : List (List ℕ)) (next : rows.Place)
    → ¬ IsNamed name after → HasForm short_equals later (kind t (long name)) (long name) item after words next → CannotBeSpelled t short_equals later place item rows.empty_name
empty_row t short_equals later [] place item nothing words next none form = rows.empty_long place next item words form
empty_row t short_equals later [] place item (attached v) words next none form = absurd (none_attached short_equals later (kind t (long [])) [] item v words next form)
empty_row t short_equals later [] place item (joined v) words next none form = absurd (none (inr (v, refl)))
empty_row t short_equals later (b ∷ bs) place item after words next none form = absurd (none (inl (λ nil. let e : b ∷ bs ≡ [] = nil in cc)))

named_so : (name : List ℕ) (after : After) → IsNamed name after → (name ≢ []) ⊎ (after ≢ nothing)
named_so name after (inl some) = inl some
named_so name after (inr value) = inr (λ none. let e : joined value.0 ≡ nothing = sym value.1 ∙ none in cc)

pub past_long : (t : Table) (short_equals : Bool) (later : List Item) (name : List ℕ) (place : Place) (item : Item) (p : Parts) → IsUtf8 name → ¬ Contains name equals → IsNamed name p.after
    → place ≡ Ended → HasParts short_equals later (kind t (long name)) (long name) item p → CannotBeSpelled t short_equals later (place_view place) item rows.past_separator
past_long t short_equals later name place item p text none named is form =
    subst (λ (q : Place). CannotBeSpelled t short_equals later (place_view q) item rows.past_separator) (sym is)
    (rows.long_past_separator name p.place item p.after p.words text none (named_so name p.after named) form)

pub long_row : (t : Table) (short_equals : Bool) (later : List Item) (name : List ℕ) (place : Place) (item : Item) (p : Parts) → IsUtf8 name → ¬ Contains name equals → IsNamed name p.after
    → (place ≡ Ended → ⊥) → HasParts short_equals later (kind t (long name)) (long name) item p
    → Adds t short_equals later (place_view place) item (dash ∷ dash ∷ name ++ rows.after_bytes p.after) p.words p.place
long_row t short_equals later name place item p text none named before form =
    rows.long_option name (place_view place) p.place item p.after p.words text none (named_so name p.after named) (not_ended place before) form

-- ---- an option without a form

pub refused : (t : Table) (short_equals : Bool) (later : List Item) (place : rows.Place) (item : Item) (a : Result Added Reason) (reason : Reason) → a ≡ Err reason
    → CannotBeSpelled t short_equals later place item (reason_view reason) → AddedIs t short_equals later place item a
refused t short_equals later place item a reason is row = subst (AddedIs t short_equals later place item) (sym is) row

pub formless : (short_equals : Bool) (later : List Item) (k : spec.Kind) (name : Name) (item : Item) (r : Result Form Reason) (reason : Reason) → r ≡ Err reason
    → FormIs short_equals later k name item r → HasNoForm short_equals k name item (reason_view reason)
formless short_equals later k name item r reason is form = subst (FormIs short_equals later k name item) is form

-- ---- a positional

pub at_places : (t : Table) (short_equals : Bool) (later : List Item) (item : Item) (word : List ℕ) (words others : List (List ℕ)) (place q next n : Place) → place ≡ q → words ≡ others
    → next ≡ n → Adds t short_equals later (place_view q) item word others (place_view n) → Adds t short_equals later (place_view place) item word words (place_view next)
at_places t short_equals later item word words others place q next n at same to row =
    subst (λ (x : Place). Adds t short_equals later (place_view x) item word words (place_view next)) (sym at)
    (subst (λ (l : List (List ℕ)). Adds t short_equals later (place_view q) item word l (place_view next)) (sym same)
    (subst (λ (x : Place). Adds t short_equals later (place_view q) item word others (place_view x)) (sym to) row))

pub begins_row : (place : Place) → (place ≡ Open) ⊎ (place ≡ InCluster) → BeginsRow (place_view place)
begins_row place (inl is) = subst (λ (x : Place). BeginsRow (place_view x)) (sym is) rows.row_at_open
begins_row place (inr is) = subst (λ (x : Place). BeginsRow (place_view x)) (sym is) rows.row_at_cluster

pub row_open : (place : rows.Place) → BeginsRow place → place ≢ ended
row_open place rows.row_at_open = λ is. let e : open_line ≡ ended = is in cc
row_open place rows.row_at_cluster = λ is. let e : in_cluster ≡ ended = is in cc

pub row_calm : (w : List ℕ) (later : List Item) → is_plain false w ≡ true → ¬ NeedSeparator later → ¬ NeedSeparator (positional w ∷ later)
row_calm w later plain none need = by need.0 need.1 need.2
  where
    by : (words : List (List ℕ)) → positional w ∷ later ≡ map positional words → ¬ All (IsPlain false) words → ⊥
    by [] is not = let e : positional w ∷ later ≡ [] = is in cc
    by (v ∷ vs) is not =
        let e : positional w ∷ later ≡ positional v ∷ map positional vs = is in
        let same : w ≡ v = cc in
        let others : later ≡ map positional vs = cc in
        none (vs, others, λ all. not (plain_more v vs (sym (ap (is_plain false) same) ∙ plain) all))
