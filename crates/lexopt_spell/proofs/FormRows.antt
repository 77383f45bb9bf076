-- The forms that the code finds, by the rows.
use Rattle.std.proofs.Common.{◌≡◌, ◌≢◌, ◌⊎◌, ◌↔◌, ◌==◌, ◌<◌, ◌≤◌, ℕ, Bool, true, false, List, [], ◌∷◌, length, get_or, Some, Result, Ok, Err, IfOk, IfErr, IsTrue, refl, sym, ap, subst, ◌∙◌, arith, inl, inr, true≢false}
use Rattle.std.proofs.lemmas.Bool.{eq-eqb, eqb-true, and_from}
use Rattle.std.specs.List.{All}
use Rattle.lexopt_spec.specs.UnreadLine.{equals, BeginsWith, IsPlain, is_plain}
use Rattle.lexopt_line_spec.specs.Table as spec
use Rattle.lexopt_line_spec.specs.Table.{Name, short, long, Item, option, many, optional, several}
use Rattle.lexopt_line_spec.specs.Spelling.{nothing, attached, joined}
use Rattle.lexopt_line_spec.specs.Speller as rows
use Rattle.lexopt_line_spec.specs.Speller.{open_line, after_values, ArePositionalThenOption, IsLoneAndJoined, HasForm, HasNoForm}
use Rattle.lexopt_line_spec.proofs.SpellerTests.{all_plain, all_pass}
use Rattle.lexopt_line_spec.proofs.SpellerRows.{off_plain}
use Rattle.lexopt_items.specs.Items.{kind_view}
use Rattle.lexopt_items.specs.declared.kinds.Kind.{Kind}
use Rattle.lexopt_items.specs.declared.kinds.Kind.TheVariants.{Flag, One, Optional, Several}
use Rattle.lexopt_spell.specs.Models.{Parts, HasParts, FormIs, form_view, reason_view}
use Rattle.lexopt_spell.specs.declared.forms.Form.{Form}
use Rattle.lexopt_spell.specs.declared.spell.Reason.{Reason}
use Rattle.lexopt_spell.specs.declared.spell.Reason.TheVariants.{OptionAmongValues}
use Rattle.lexopt_spell.proofs.After.{from_on, from_on_is}

-- ---- a row for the kind and the values that the code has

pub formed : {X : Type 0} (short_equals : Bool) (later : List Item) (name : Name) (item : X → Item) (k j : spec.Kind) (x y : X) (f : Form) (p : Parts) → k ≡ j → x ≡ y → form_view f ≡ p
    → HasParts short_equals later j name (item y) p → HasParts short_equals later k name (item x) (form_view f)
formed short_equals later name item k j x y f p kind_is value_is form_is row =
    subst (λ (i : spec.Kind). HasParts short_equals later i name (item x) (form_view f)) (sym kind_is)
    (subst (λ z. HasParts short_equals later j name (item z) (form_view f)) (sym value_is) (subst (HasParts short_equals later j name (item y)) (sym form_is) row))

pub unformed : {X : Type 0} (short_equals : Bool) (name : Name) (item : X → Item) (k j : spec.Kind) (x y : X) (r : rows.Reason) → k ≡ j → x ≡ y
    → HasNoForm short_equals j name (item y) r → HasNoForm short_equals k name (item x) r
unformed short_equals name item k j x y r kind_is value_is row =
    subst (λ (i : spec.Kind). HasNoForm short_equals i name (item x) r) (sym kind_is) (subst (λ z. HasNoForm short_equals j name (item z) r) (sym value_is) row)

pub form_at : {X : Type 0} (short_equals : Bool) (later : List Item) (name : Name) (item : X → Item) (k j : spec.Kind) (x y : X) (r : Result Form Reason) → k ≡ j → x ≡ y
    → FormIs short_equals later j name (item y) r → FormIs short_equals later k name (item x) r
form_at short_equals later name item k j x y r kind_is value_is row =
    subst (λ (i : spec.Kind). FormIs short_equals later i name (item x) r) (sym kind_is) (subst (λ z. FormIs short_equals later j name (item z) r) (sym value_is) row)

pub other_kind : (k : Kind) → (k ≡ Several → ⊥) → kind_view k ≢ several
other_kind Flag none = λ is. cc
other_kind One none = λ is. cc
other_kind Optional none = λ is. cc
other_kind Several none = absurd (none refl)

-- ---- lists

pub empty : {X : Type 0} (xs : List X) → length xs < 1 → xs ≡ []
empty [] few = refl
empty (x ∷ xs) few = absurd (omega (arith, few))

pub lone : {X : Type 0} (xs : List X) (x : X) → 1 ≤ length xs → length xs < 2 → x ≡ get_or xs 0 x → xs ≡ x ∷ []
lone [] x some few is = absurd (omega (arith, some))
lone (y ∷ []) x some few is = ap (λ z. z ∷ []) (sym is)
lone (y ∷ z ∷ zs) x some few is = absurd (omega (arith, few))

-- whether others come after the first
pub no_others : {X : Type 0} (xs : List X) → (length (from_on 1 xs) == 0) ≡ true → length xs < 2
no_others [] none = omega arith
no_others (x ∷ xs) none =
    let e : length xs ≡ 0 = sym (ap length (from_on_is 1 (x ∷ xs))) ∙ eqb-true _ 0 none in omega (arith, e)

pub some_others : {X : Type 0} (xs : List X) → 1 ≤ length xs → (length (from_on 1 xs) == 0) ≡ false → 2 ≤ length xs
some_others [] within some = absurd (omega (arith, within))
some_others (x ∷ []) within some = absurd (true≢false (sym (ap (λ n. n == 0) (ap length (from_on_is 1 (x ∷ [])))) ∙ some))
some_others (x ∷ y ∷ ys) within some = omega arith

-- ---- a value that may be left out

pub joined_row : (short_equals : Bool) (later : List Item) (c : ℕ) (v : List ℕ) → short_equals ≡ true → (v ≡ []) ⊎ BeginsWith equals v
    → HasForm short_equals later optional (short c) (option (short c) (Some v)) (joined v) [] open_line
joined_row short_equals later c v on (inl none) =
    subst (λ (w : List ℕ). HasForm short_equals later optional (short c) (option (short c) (Some w)) (joined w) [] open_line) (sym none) (rows.empty_on c on)
joined_row short_equals later c v on (inr begins) = rows.equals_on c v begins on

pub begins_so : (v w : List ℕ) → w ≡ v → 1 ≤ length w → get_or w 0 0 ≡ 61 → BeginsWith equals v
begins_so v w same some is = subst (BeginsWith equals) same (by w some is)
  where
    by : (l : List ℕ) → 1 ≤ length l → get_or l 0 0 ≡ 61 → BeginsWith equals l
    by [] within first = absurd (omega (arith, within))
    by (b ∷ bs) within first = first

pub attached_row : (short_equals : Bool) (later : List Item) (c : ℕ) (v w : List ℕ) → w ≡ v → 1 ≤ length w → (short_equals ≡ false) ⊎ (get_or w 0 0 ≢ 61)
    → HasForm short_equals later optional (short c) (option (short c) (Some v)) (attached v) [] open_line
attached_row short_equals later c v w same some other = subst (λ (l : List ℕ). HasForm short_equals later optional (short c) (option (short c) (Some l)) (attached l) [] open_line) same (by w some other)
  where
    off : (b : ℕ) (bs : List ℕ) (x : Bool) → (b == equals) ≡ x → short_equals ≡ false
        → HasForm short_equals later optional (short c) (option (short c) (Some (b ∷ bs))) (attached (b ∷ bs)) [] open_line
    off b bs true is unset = rows.equals_off c (b ∷ bs) (eqb-true b equals is) unset
    off b bs false is unset = rows.right_after c (b ∷ bs) (λ nil. let e : b ∷ bs ≡ [] = nil in cc) (λ begins. true≢false (sym (eq-eqb b equals begins) ∙ is))

    by : (l : List ℕ) → 1 ≤ length l → (short_equals ≡ false) ⊎ (get_or l 0 0 ≢ 61) → HasForm short_equals later optional (short c) (option (short c) (Some l)) (attached l) [] open_line
    by [] within either = absurd (omega (arith, within))
    by (b ∷ bs) within (inl unset) = off b bs (b == equals) refl unset
    by (b ∷ bs) within (inr another) = rows.right_after c (b ∷ bs) (λ nil. let e : b ∷ bs ≡ [] = nil in cc) another

-- ---- several values

pub not_lone : (joins short_equals : Bool) (later : List Item) (values : List (List ℕ)) → (IsTrue joins ↔ ((short_equals ≡ true) × ArePositionalThenOption later))
    → (joins ≡ false) ⊎ (2 ≤ length values) → ¬ IsLoneAndJoined short_equals later values
not_lone joins short_equals later values both (inl off) is = true≢false (sym (both.1 (is.1, is.2)) ∙ off)
not_lone joins short_equals later values both (inr two) is = let one : length values ≡ 1 = is.0 in absurd (omega (arith, one, two))

pub plain_more : (v : List ℕ) (vs : List (List ℕ)) → is_plain false v ≡ true → All (IsPlain false) vs → All (IsPlain false) (v ∷ vs)
plain_more v vs first others = all_plain (v ∷ vs) (and_from _ _ first (all_pass vs others))

-- the values in words of their own, or one of them is not plain
pub record AsWords (front : Parts) (values : List (List ℕ)) (r : Result Form Reason) : Type 0 where
  pub form : IfOk r (λ f. form_view f ≡ front)
  pub plain : IfOk r (λ f. All (IsPlain false) values)
  pub reason : IfErr r (λ e. e ≡ OptionAmongValues)
  pub not_plain : IfErr r (λ e. All (IsPlain false) values → ⊥)

among : (short_equals : Bool) (name : Name) (item : Item) (reason : Reason) → reason ≡ OptionAmongValues → HasNoForm short_equals several name item rows.option_among_values
    → HasNoForm short_equals several name item (reason_view reason)
among short_equals name item reason is row = subst (λ (e : Reason). HasNoForm short_equals several name item (reason_view e)) (sym is) row

pub words_row : (short_equals : Bool) (later : List Item) (c : ℕ) (values : List (List ℕ)) (v : List ℕ) (r : Result Form Reason) → 1 ≤ length values → v ≡ get_or values 0 v
    → is_plain false v ≡ true → ¬ IsLoneAndJoined short_equals later values → AsWords (record { after = nothing; words = values; place = after_values }) values r
    → FormIs short_equals later several (short c) (many (short c) values) r
words_row short_equals later c [] v r some is plain calm found = absurd (omega (arith, some))
words_row short_equals later c (w ∷ ws) v (Ok f) some is plain calm found =
    formed short_equals later (short c) (many (short c)) several several (w ∷ ws) (w ∷ ws) f _ refl refl found.form (rows.short_words c w ws calm found.plain)
words_row short_equals later c (w ∷ ws) v (Err e) some is plain calm found =
    among short_equals (short c) (many (short c) (w ∷ ws)) e found.reason (rows.short_among c w ws (λ all. found.not_plain (plain_more w ws (ap (is_plain false) (sym is) ∙ plain) all)))

pub attached_words_row : (short_equals : Bool) (later : List Item) (c : ℕ) (values : List (List ℕ)) (v u : List ℕ) (r : Result Form Reason) → 1 ≤ length values → v ≡ get_or values 0 v
    → u ≡ get_or values 0 u → is_plain false v ≡ false → ¬ IsLoneAndJoined short_equals later values
    → AsWords (record { after = attached u; words = from_on 1 values; place = after_values }) (from_on 1 values) r
    → FormIs short_equals later several (short c) (many (short c) values) r
attached_words_row short_equals later c [] v u r some is again dashed calm found = absurd (omega (arith, some))
attached_words_row short_equals later c (w ∷ ws) v u (Ok f) some is again dashed calm found =
    let others = from_on_is 1 (w ∷ ws) in
    formed short_equals later (short c) (many (short c)) several several (w ∷ ws) (w ∷ ws) f (record { after = attached w; words = ws; place = after_values }) refl refl
    (found.form ∙ ap (λ (x : List ℕ). record { after = attached x; words = from_on 1 (w ∷ ws); place = after_values }) again
    ∙ ap (λ (l : List (List ℕ)). record { after = attached w; words = l; place = after_values }) others)
    (rows.first_attached c w ws calm (off_plain w (ap (is_plain false) (sym is) ∙ dashed)) (subst (All (IsPlain false)) others found.plain))
attached_words_row short_equals later c (w ∷ ws) v u (Err e) some is again dashed calm found =
    among short_equals (short c) (many (short c) (w ∷ ws)) e found.reason (rows.short_among c w ws (λ all. found.not_plain (subst (All (IsPlain false)) (sym (from_on_is 1 (w ∷ ws))) all)))

pub long_words_row : (short_equals : Bool) (later : List Item) (name : List ℕ) (values : List (List ℕ)) (r : Result Form Reason) → 2 ≤ length values
    → AsWords (record { after = nothing; words = values; place = after_values }) values r → FormIs short_equals later several (long name) (many (long name) values) r
long_words_row short_equals later name [] r two found = absurd (omega (arith, two))
long_words_row short_equals later name (v ∷ []) r two found = absurd (omega (arith, two))
long_words_row short_equals later name (v ∷ w ∷ ws) (Ok f) two found =
    formed short_equals later (long name) (many (long name)) several several (v ∷ w ∷ ws) (v ∷ w ∷ ws) f _ refl refl found.form (rows.long_words name v w ws found.plain)
long_words_row short_equals later name (v ∷ w ∷ ws) (Err e) two found =
    among short_equals (long name) (many (long name) (v ∷ w ∷ ws)) e found.reason (rows.long_among name v w ws found.not_plain)
