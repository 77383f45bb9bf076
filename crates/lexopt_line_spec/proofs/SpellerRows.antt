-- The tables of the speller agree with the relations about the forms of options, and about the
-- items that come after an item.
use Rattle.std.proofs.Common.{◌≡◌, ◌≢◌, ℕ, ◌==◌, ◌&&◌, not, Bool, true, false, map, List, [], ◌∷◌, length, Option, Some, None, refl, sym, ap, ◌∙◌, arith, true≢false, cond}
use Rattle.std.proofs.lemmas.Bool.{eq-eqb, eqb-true, ne_eqb, and_parts, and_from}
use Rattle.std.specs.Prelude.{Result, Ok, Err}
use Rattle.std.specs.List.{All, list_all}
use Rattle.lexopt_spec.specs.UnreadLine.{equals, BeginsWith, IsPlain, is_plain}
use Rattle.lexopt_line_spec.specs.Table.{Name, short, long, Item, option, many, positional, Kind, flag, one, optional, several}
use Rattle.lexopt_line_spec.specs.Spelling.{After, attached, joined}
use Rattle.lexopt_line_spec.specs.Speller as rows
use Rattle.lexopt_line_spec.specs.Speller.{Reason, no_name, not_many, option_among_values, Place, open_line, is_positional, ArePositionals, ArePositionalThenOption, NeedSeparator, IsLoneAndJoined, HasForm, HasNoForm}
use Rattle.lexopt_line_spec.proofs.SpellerTables.{Form, in_word, attached_form, short_form, long_form, words_form, short_words_form, short_many_form, long_many_form, separator_comes_too_early, separator_is_due, is_plain_item}
use Rattle.lexopt_spec.proofs.PlainFronts.{plain_holds, plain_passes}
use Rattle.lexopt_line_spec.proofs.SpellerTests.{all_plain, all_pass}
use Rattle.lexopt_line_spec.proofs.SpellerPlaces.{all_positional}

-- ---- booleans, and the propositions that they decide

pub test_fails : {P : Type 0} (b : Bool) → (b ≡ true → P) → ¬ P → b ≡ false
test_fails true holds none = absurd (none (holds refl))
test_fails false holds none = refl

pub fails_so : {P : Type 0} (b : Bool) → b ≡ false → (P → b ≡ true) → ¬ P
fails_so b is passes p = true≢false (sym (passes p) ∙ is)

pub plain_off : (w : List ℕ) → ¬ IsPlain false w → is_plain false w ≡ false
plain_off w none = test_fails (is_plain false w) (plain_holds false w) none

pub off_plain : (w : List ℕ) → is_plain false w ≡ false → ¬ IsPlain false w
off_plain w is = fails_so (is_plain false w) is (plain_passes false w)

pub all_off : (ws : List (List ℕ)) → ¬ All (IsPlain false) ws → list_all (is_plain false) ws ≡ false
all_off ws none = test_fails (list_all (is_plain false) ws) (all_plain ws) none

pub off_all : (ws : List (List ℕ)) → list_all (is_plain false) ws ≡ false → ¬ All (IsPlain false) ws
off_all ws is = fails_so (list_all (is_plain false) ws) is (all_pass ws)

-- ---- the items after

words_positional : (words : List (List ℕ)) → list_all is_positional (map positional words) ≡ true
words_positional [] = refl
words_positional (w ∷ ws) = words_positional ws

pub words_plain : (words : List (List ℕ)) → list_all is_plain_item (map positional words) ≡ list_all (is_plain false) words
words_plain [] = refl
words_plain (w ∷ ws) = ap (λ b. is_plain false w && b) (words_plain ws)

pub positionals_pass : (items : List Item) → ArePositionals items → list_all is_positional items ≡ true
positionals_pass items are = ap (list_all is_positional) are.1 ∙ words_positional are.0

pub early_holds : (items : List Item) → separator_comes_too_early items ≡ true → ArePositionalThenOption items
early_holds [] is = absurd (true≢false (sym is))
early_holds (option name value ∷ items) is = absurd (true≢false (sym is))
early_holds (many name values ∷ items) is = absurd (true≢false (sym is))
early_holds (positional w ∷ items) is =
    (w, items, refl, λ are. true≢false (sym is ∙ ap not (positionals_pass items are)))

pub early_passes : (items : List Item) → ArePositionalThenOption items → separator_comes_too_early items ≡ true
early_passes items are =
    ap separator_comes_too_early are.2 ∙ ap not (test_fails (list_all is_positional are.1) (all_positional are.1) are.3)

pub due_holds : (items : List Item) → separator_is_due items ≡ true → NeedSeparator items
due_holds items is =
    let parts = and_parts (list_all is_positional items) (not (list_all is_plain_item items)) is in
    let are = all_positional items parts.0 in (
      are.0,
      are.1,
      λ plain. true≢false (sym parts.1 ∙ ap not (ap (list_all is_plain_item) are.1 ∙ words_plain are.0 ∙ all_pass are.0 plain)),
    )

pub due_passes : (items : List Item) → NeedSeparator items → separator_is_due items ≡ true
due_passes items need =
    and_from (list_all is_positional items) (not (list_all is_plain_item items)) (positionals_pass items (need.0, need.1))
    (ap not (ap (list_all is_plain_item) need.1 ∙ words_plain need.0 ∙ all_off need.0 need.2))

-- ---- the form of an option's values

-- the result of a table for a form
abbrev pub IsForm : Bool → List Item → Kind → Name → Item → Result Form Reason → Type 0
IsForm short_equals later k name item (Ok f) = HasForm short_equals later k name item f.after f.words f.place
IsForm short_equals later k name item (Err r) = HasNoForm short_equals k name item r

attached_row : (short_equals : Bool) (later : List Item) (c : ℕ) (v : List ℕ)
    → IsForm short_equals later optional (short c) (option (short c) (Some v)) (attached_form short_equals v)
attached_row true later c [] = rows.empty_on c refl
attached_row false later c [] = rows.empty_off c refl
attached_row true later c (b ∷ bs) = by (b == equals) refl
  where
    by : (x : Bool) → (b == equals) ≡ x
        → IsForm true later optional (short c) (option (short c) (Some (b ∷ bs))) (cond x (Ok (in_word (joined (b ∷ bs)))) (Ok (in_word (attached (b ∷ bs)))))
    by true is = rows.equals_on c (b ∷ bs) (eqb-true b equals is) refl
    by false is = rows.right_after c (b ∷ bs) (λ nil. let e : b ∷ bs ≡ [] = nil in cc) (λ begins. true≢false (sym (eq-eqb b equals begins) ∙ is))
attached_row false later c (b ∷ bs) = by (b == equals) refl
  where
    by : (x : Bool) → (b == equals) ≡ x → HasForm false later optional (short c) (option (short c) (Some (b ∷ bs))) (attached (b ∷ bs)) [] open_line
    by true is = rows.equals_off c (b ∷ bs) (eqb-true b equals is) refl
    by false is = rows.right_after c (b ∷ bs) (λ nil. let e : b ∷ bs ≡ [] = nil in cc) (λ begins. true≢false (sym (eq-eqb b equals begins) ∙ is))

pub short_row : (short_equals : Bool) (later : List Item) (c : ℕ) (k : Kind) (value : Option (List ℕ))
    → IsForm short_equals later k (short c) (option (short c) value) (short_form short_equals k value)
short_row short_equals later c flag None = rows.short_flag c
short_row short_equals later c flag (Some v) = rows.flag_with_value (short c) v
short_row short_equals later c one None = rows.no_value_given (short c)
short_row short_equals later c one (Some v) = rows.short_one c v
short_row short_equals later c optional None = rows.left_out (short c)
short_row short_equals later c optional (Some v) = attached_row short_equals later c v
short_row short_equals later c several value = rows.no_list (short c) value

pub long_row : (short_equals : Bool) (later : List Item) (name : List ℕ) (k : Kind) (value : Option (List ℕ))
    → IsForm short_equals later k (long name) (option (long name) value) (long_form k value)
long_row short_equals later name flag None = rows.long_flag name
long_row short_equals later name flag (Some v) = rows.flag_with_value (long name) v
long_row short_equals later name one None = rows.no_value_given (long name)
long_row short_equals later name one (Some v) = rows.long_one name v
long_row short_equals later name optional None = rows.left_out (long name)
long_row short_equals later name optional (Some v) = rows.long_optional name v
long_row short_equals later name several value = rows.no_list (long name) value

short_words_row : (short_equals : Bool) (later : List Item) (c : ℕ) (v : List ℕ) (vs : List (List ℕ)) (p ps : Bool) → is_plain false v ≡ p
    → list_all (is_plain false) vs ≡ ps → ¬ IsLoneAndJoined short_equals later (v ∷ vs)
    → IsForm short_equals later several (short c) (many (short c) (v ∷ vs)) (short_words_form p ps v vs)
short_words_row short_equals later c v vs true true first others calm = rows.short_words c v vs calm (all_plain (v ∷ vs) (and_from _ _ first others))
short_words_row short_equals later c v vs true false first others calm = rows.short_among c v vs (off_all vs others)
short_words_row short_equals later c v vs false true first others calm = rows.first_attached c v vs calm (off_plain v first) (all_plain vs others)
short_words_row short_equals later c v vs false false first others calm = rows.short_among c v vs (off_all vs others)

lone_row : (short_equals early : Bool) (later : List Item) (c : ℕ) (v : List ℕ) → separator_comes_too_early later ≡ early
    → IsForm short_equals later several (short c) (many (short c) (v ∷ [])) (short_many_form (short_equals && early) several (v ∷ []))
lone_row true true later c v is = rows.lone_joined c v (refl, refl, early_holds later is)
lone_row true false later c v is =
    short_words_row true later c v [] (is_plain false v) true refl refl (λ lone. true≢false (sym (early_passes later lone.2) ∙ is))
lone_row false early later c v is = short_words_row false later c v [] (is_plain false v) true refl refl (λ lone. true≢false (sym lone.1))

two_lone : {X : Type 0} (short_equals : Bool) (later : List Item) (v w : List ℕ) (vs : List (List ℕ)) → IsLoneAndJoined short_equals later (v ∷ w ∷ vs) → X
two_lone short_equals later v w vs lone = let e : length (v ∷ w ∷ vs) ≡ 1 = lone.0 in absurd (omega (arith, e))

abbrev not_several : (k : Kind) → Bool
not_several flag = true
not_several one = true
not_several optional = true
not_several several = false

other_kind : (k : Kind) → not_several k ≡ true → k ≢ several
other_kind k is same = true≢false (sym is ∙ ap not_several same)

pub short_many_row : (short_equals : Bool) (later : List Item) (c : ℕ) (k : Kind) (values : List (List ℕ))
    → IsForm short_equals later k (short c) (many (short c) values) (short_many_form (short_equals && separator_comes_too_early later) k values)
short_many_row short_equals later c flag values = rows.with_list flag (short c) values (other_kind flag refl)
short_many_row short_equals later c one values = rows.with_list one (short c) values (other_kind one refl)
short_many_row short_equals later c optional values = rows.with_list optional (short c) values (other_kind optional refl)
short_many_row short_equals later c several [] = rows.no_values_given (short c)
short_many_row short_equals later c several (v ∷ []) = lone_row short_equals (separator_comes_too_early later) later c v refl
short_many_row short_equals later c several (v ∷ w ∷ vs) =
    two_row (short_equals && separator_comes_too_early later)
  where
    two_row : (x : Bool) → IsForm short_equals later several (short c) (many (short c) (v ∷ w ∷ vs)) (short_many_form x several (v ∷ w ∷ vs))
    two_row true = short_words_row short_equals later c v (w ∷ vs) (is_plain false v) (list_all (is_plain false) (w ∷ vs)) refl refl (λ lone. two_lone short_equals later v w vs lone)
    two_row false = short_words_row short_equals later c v (w ∷ vs) (is_plain false v) (list_all (is_plain false) (w ∷ vs)) refl refl (λ lone. two_lone short_equals later v w vs lone)

long_words_row : (short_equals : Bool) (later : List Item) (name v w : List ℕ) (vs : List (List ℕ)) (p : Bool) → list_all (is_plain false) (v ∷ w ∷ vs) ≡ p
    → IsForm short_equals later several (long name) (many (long name) (v ∷ w ∷ vs)) (words_form p (v ∷ w ∷ vs))
long_words_row short_equals later name v w vs true is = rows.long_words name v w vs (all_plain (v ∷ w ∷ vs) is)
long_words_row short_equals later name v w vs false is = rows.long_among name v w vs (off_all (v ∷ w ∷ vs) is)

pub long_many_row : (short_equals : Bool) (later : List Item) (name : List ℕ) (k : Kind) (values : List (List ℕ))
    → IsForm short_equals later k (long name) (many (long name) values) (long_many_form k values)
long_many_row short_equals later name flag values = rows.with_list flag (long name) values (other_kind flag refl)
long_many_row short_equals later name one values = rows.with_list one (long name) values (other_kind one refl)
long_many_row short_equals later name optional values = rows.with_list optional (long name) values (other_kind optional refl)
long_many_row short_equals later name several [] = rows.no_values_given (long name)
long_many_row short_equals later name several (v ∷ []) = rows.long_lone name v
long_many_row short_equals later name several (v ∷ w ∷ vs) =
    long_words_row short_equals later name v w vs (list_all (is_plain false) (v ∷ w ∷ vs)) refl

-- ---- no other item has a form, or has none

-- the result of the tables for an option given as this item
abbrev pub form_of : Bool → Bool → Kind → Item → Result Form Reason
form_of short_equals joins k (option (short c) value) = short_form short_equals k value
form_of short_equals joins k (many (short c) values) = short_many_form (short_equals && joins) k values
form_of short_equals joins k (option (long name) value) = long_form k value
form_of short_equals joins k (many (long name) values) = long_many_form k values
form_of short_equals joins k (positional w) = Err no_name

equals_form : (short_equals : Bool) (v : List ℕ) → BeginsWith equals v → short_equals ≡ true → attached_form short_equals v ≡ Ok (in_word (joined v))
equals_form true [] begins on = absurd begins
equals_form true (b ∷ bs) begins on = let e = eq-eqb b equals begins in rw e refl
equals_form false v begins on = absurd (true≢false (sym on))

off_form : (short_equals : Bool) (v : List ℕ) → BeginsWith equals v → short_equals ≡ false → attached_form short_equals v ≡ Ok (in_word (attached v))
off_form short_equals [] begins off = absurd begins
off_form true (b ∷ bs) begins off = absurd (true≢false off)
off_form false (b ∷ bs) begins off = refl

plain_form : (short_equals : Bool) (v : List ℕ) → v ≢ [] → ¬ BeginsWith equals v → attached_form short_equals v ≡ Ok (in_word (attached v))
plain_form short_equals [] some other = absurd (some refl)
plain_form true (b ∷ bs) some other = let e = ne_eqb b equals other in rw e refl
plain_form false (b ∷ bs) some other = refl

-- whether an only value is joined matters only for an only value
words_joined : (short_equals : Bool) (later : List Item) (v : List ℕ) (vs : List (List ℕ)) → ¬ IsLoneAndJoined short_equals later (v ∷ vs)
    → short_many_form (short_equals && separator_comes_too_early later) several (v ∷ vs) ≡ short_words_form (is_plain false v) (list_all (is_plain false) vs) v vs
words_joined short_equals later v [] calm = by short_equals (separator_comes_too_early later) refl refl
  where
    by : (on early : Bool) → short_equals ≡ on → separator_comes_too_early later ≡ early
        → short_many_form (on && early) several (v ∷ []) ≡ short_words_form (is_plain false v) true v []
    by true true on_is early_is = absurd (calm (refl, on_is, early_holds later early_is))
    by true false on_is early_is = refl
    by false early on_is early_is = refl
words_joined short_equals later v (w ∷ vs) calm = by (short_equals && separator_comes_too_early later)
  where
    by : (x : Bool) → short_many_form x several (v ∷ w ∷ vs) ≡ short_words_form (is_plain false v) (list_all (is_plain false) (w ∷ vs)) v (w ∷ vs)
    by true = refl
    by false = refl

joined_form : (short_equals : Bool) (later : List Item) (v : List ℕ) → IsLoneAndJoined short_equals later (v ∷ [])
    → short_many_form (short_equals && separator_comes_too_early later) several (v ∷ []) ≡ Ok (in_word (joined v))
joined_form short_equals later v lone =
    ap (λ x. short_many_form x several (v ∷ [])) (and_from short_equals (separator_comes_too_early later) lone.1 (early_passes later lone.2))

among_form : (short_equals : Bool) (later : List Item) (v : List ℕ) (vs : List (List ℕ)) → ¬ All (IsPlain false) vs
    → short_many_form (short_equals && separator_comes_too_early later) several (v ∷ vs) ≡ Err option_among_values
among_form short_equals later v [] among = absurd (among (λ k d within. absurd (omega (arith, within))))
among_form short_equals later v (w ∷ vs) among =
    words_joined short_equals later v (w ∷ vs) (λ lone. two_lone short_equals later v w vs lone)
    ∙ ap (λ x. short_words_form (is_plain false v) x v (w ∷ vs)) (all_off (w ∷ vs) among) ∙ by (is_plain false v)
  where
    by : (p : Bool) → short_words_form p false v (w ∷ vs) ≡ Err option_among_values
    by true = refl
    by false = refl

all_first : (v : List ℕ) (vs : List (List ℕ)) → All (IsPlain false) (v ∷ vs) → (is_plain false v ≡ true) × (list_all (is_plain false) vs ≡ true)
all_first v vs all = and_parts (is_plain false v) (list_all (is_plain false) vs) (all_pass (v ∷ vs) all)

pub has_form : (short_equals : Bool) (later : List Item) (k : Kind) (name : Name) (item : Item) (after : After) (words : List (List ℕ)) (next : Place)
    → HasForm short_equals later k name item after words next
    → form_of short_equals (separator_comes_too_early later) k item ≡ Ok (record { after = after; words = words; place = next })
has_form short_equals later k name item after words next (rows.left_out (short c)) = refl
has_form short_equals later k name item after words next (rows.left_out (long n)) = refl
has_form short_equals later k name item after words next (rows.right_after c v some other) = plain_form short_equals v some other
has_form short_equals later k name item after words next (rows.equals_on c v begins on) = equals_form short_equals v begins on
has_form short_equals later k name item after words next (rows.equals_off c v begins off) = off_form short_equals v begins off
has_form short_equals later k name item after words next (rows.empty_on c on) = ap (λ x. attached_form x []) on
has_form short_equals later k name item after words next (rows.lone_joined c v lone) = joined_form short_equals later v lone
has_form short_equals later k name item after words next (rows.short_words c v vs calm all) =
    words_joined short_equals later v vs calm
    ∙ ap (λ x. short_words_form x (list_all (is_plain false) vs) v vs) (all_first v vs all).0
    ∙ ap (λ x. words_form x (v ∷ vs)) (all_first v vs all).1
has_form short_equals later k name item after words next (rows.first_attached c v vs calm first all) =
    words_joined short_equals later v vs calm
    ∙ ap (λ x. short_words_form x (list_all (is_plain false) vs) v vs) (plain_off v first)
    ∙ ap (λ x. short_words_form false x v vs) (all_pass vs all)
has_form short_equals later k name item after words next (rows.long_words n v w vs all) = ap (λ x. words_form x (v ∷ w ∷ vs)) (all_pass (v ∷ w ∷ vs) all)
has_form short_equals later k name item after words next form = refl

other_many : (short_equals joins : Bool) (k : Kind) (name : Name) (values : List (List ℕ)) → k ≢ several → form_of short_equals joins k (many name values) ≡ Err not_many
other_many short_equals joins several name values other = absurd (other refl)
other_many short_equals joins k (short c) values other = refl
other_many short_equals joins k (long n) values other = refl

pub has_no_form : (short_equals : Bool) (later : List Item) (k : Kind) (name : Name) (item : Item) (reason : Reason) → HasNoForm short_equals k name item reason
    → form_of short_equals (separator_comes_too_early later) k item ≡ Err reason
has_no_form short_equals later k name item reason (rows.no_list (short c) value) = refl
has_no_form short_equals later k name item reason (rows.no_list (long n) value) = refl
has_no_form short_equals later k name item reason (rows.with_list l n values other) = other_many short_equals (separator_comes_too_early later) k name values other
has_no_form short_equals later k name item reason (rows.flag_with_value (short c) v) = refl
has_no_form short_equals later k name item reason (rows.flag_with_value (long n) v) = refl
has_no_form short_equals later k name item reason (rows.no_value_given (short c)) = refl
has_no_form short_equals later k name item reason (rows.no_value_given (long n)) = refl
has_no_form short_equals later k name item reason (rows.no_values_given (short c)) = refl
has_no_form short_equals later k name item reason (rows.no_values_given (long n)) = refl
has_no_form short_equals later k name item reason (rows.empty_off c off) = ap (λ x. attached_form x []) off
has_no_form short_equals later k name item reason (rows.short_among c v vs among) = among_form short_equals later v vs among
has_no_form short_equals later k name item reason (rows.long_among n v w vs among) = ap (λ x. words_form x (v ∷ w ∷ vs)) (all_off (v ∷ w ∷ vs) among)
