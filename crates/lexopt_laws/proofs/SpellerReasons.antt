-- The reason of an item at fault is about the item, which no words spell, or about its place.
use Rattle.std.proofs.Common.{◌≡◌, ◌≢◌, ℕ, suc, ◌==◌, ◌&&◌, not, Bool, true, false, List, [], ◌∷◌, ◌++◌, take, drop, None, refl, sym, ap, subst, ◌∙◌, true≢false}
use Rattle.std.proofs.lemmas.Bool.{ne_eqb}
use Rattle.std.specs.Prelude.{Result, Ok, Err}
use Rattle.std.specs.Char.{IsScalar}
use Rattle.std.specs.List.{list_all}
use Rattle.std.specs.Str.{is_utf8}
use lib.Utf8.{scalar}
use Rattle.lexopt_spec.specs.UnreadLine.{dash}
use Rattle.lexopt_line_spec.specs.Table.{Name, short, long, Item, option, many, positional, Kind, flag, one, optional, several, kind, Table}
use Rattle.lexopt_line_spec.specs.Spelling.{Spells}
use Rattle.lexopt_line_spec.specs.Speller.{Reason, no_name, equals_in_name, empty_name, past_separator, dash_without_flag, Place, open_line, in_cluster, ended, is_positional, Fault, is_of_the_place}
use Rattle.lexopt_line_spec.proofs.SpellerTables.{Form, short_form, long_form, short_many_form, long_many_form, Added, short_added, is_named, long_placed, long_added, adds, separator_comes_too_early, separator_is_due, is_plain_item, with_rest, with_rests, spelled_from, spelled}
use Rattle.lexopt_line_spec.specs.Speller.{HasNoForm, no_list}
use Rattle.lexopt_line_spec.proofs.SpellerRows.{IsForm, short_row, short_many_row, long_row, long_many_row}
use Rattle.lexopt_line_spec.proofs.SpellerAnswers.{none_is}
use Rattle.lexopt_line_spec.proofs.SpellerTests.{has_equals}
use Rattle.lexopt_line_spec.proofs.SpellerSound.{spelled_spells}
use Rattle.lexopt_line_spec.proofs.SpellerPlaces.{Can, nil_can, cons_can, can_split, all_can, all_positional, option_ended, form_joined, short_through}
use Rattle.lexopt_line_spec.proofs.SpellerFaults.{Failing, no_both, same_added, can_words, spells_can, Fails, here, later, fails, from_words}

-- ---- the reasons of a form

abbrev Unformed : Result Form Reason → Reason → Type 0
Unformed answer r = answer ≡ Err r

-- if there is no form, the reason is about the item
abbrev OfItem : Result Form Reason → Type 0
OfItem form = (r : Reason) → form ≡ Err r → is_of_the_place r ≡ false

unformed : (s r : Reason) → Unformed (Err s) r → s ≡ r
unformed s r is = cc

err_form : (s : Reason) → is_of_the_place s ≡ false → OfItem (Err s)
err_form s of = λ r is. sym (ap is_of_the_place (unformed s r is)) ∙ of

ok_form : (f : Form) → OfItem (Ok f)
ok_form f = λ r is. none_is r f (sym is)

of_no_form : (short_equals : Bool) (k : Kind) (name : Name) (item : Item) (r : Reason) → HasNoForm short_equals k name item r → is_of_the_place r ≡ false
of_no_form short_equals k name item r (no_list n value) = refl
of_no_form short_equals k name item r no_form = refl

of_form : (short_equals : Bool) (items : List Item) (k : Kind) (name : Name) (item : Item) (form : Result Form Reason) → IsForm short_equals items k name item form → OfItem form
of_form short_equals items k name item (Ok f) is = ok_form f
of_form short_equals items k name item (Err s) is = err_form s (of_no_form short_equals k name item s is)

short_many_of : (short_equals joins : Bool) (c : ℕ) (k : Kind) (values : List (List ℕ)) → OfItem (short_many_form (short_equals && joins) k values)
short_many_of short_equals false c k values = of_form short_equals [] k (short c) (many (short c) values) _ (short_many_row short_equals [] c k values)
short_many_of short_equals true c k values =
    let items = positional [] ∷ option (short c) None ∷ [] in of_form short_equals items k (short c) (many (short c) values) _ (short_many_row short_equals items c k values)

-- ---- an item that is not added

abbrev Refusing : Result Added Reason → Reason → Type 0
Refusing answer r = answer ≡ Err r

refusing : (s r : Reason) → Refusing (Err s) r → s ≡ r
refusing s r is = cc

reason_of : {b : Bool} (s r : Reason) → is_of_the_place s ≡ b → Refusing (Err s) r → is_of_the_place r ≡ b
reason_of s r of is = sym (ap is_of_the_place (refusing s r is)) ∙ of

-- what an item adds, by whether its only value is to be joined, whether the separator is due, and
-- the place
abbrev Answer : Type 0
Answer = Bool → Bool → Place → Result Added Reason

abbrev InCluster : Answer → Type 0
InCluster answer = (joins due : Bool) → (b : Added) × (answer joins due in_cluster ≡ Ok b)

-- why an item is not added at this place: it is added nowhere; or it is added right after a flag of
-- one character
data Why (answer : Answer) (place : Place) (r : Reason) : Type 0 where
  of_item : is_of_the_place r ≡ false → ((joins due : Bool) (other : Place) (a : Added) → answer joins due other ≡ Ok a → ⊥) → Why answer place r
  of_place : is_of_the_place r ≡ true → (r ≡ past_separator → place ≡ ended) → InCluster answer → Why answer place r

-- if there is one form there is another, whether or not an only value is joined
abbrev Either : (Bool → Result Form Reason) → Type 0
Either form = (x y : Bool) (f : Form) → form x ≡ Ok f → (g : Form) × (form y ≡ Ok g)

flag_goes_on : (d : Bool) (c : ℕ) (f : Form) → (b : Added) × (short_added true d in_cluster c (Ok f) ≡ Ok b)
flag_goes_on true c f = (_, refl)
flag_goes_on false c f = (_, refl)

short_in_cluster : (d : Bool) (c : ℕ) (form : Bool → Result Form Reason) (x : Bool) (f : Form) → Either form → form x ≡ Ok f
    → InCluster (λ y e other. short_added true d other c (form y))
short_in_cluster d c form x f either is = λ y e.
    let g = either x y f is in
    let b = flag_goes_on d c g.0 in (b.0, ap (short_added true d in_cluster c) g.1 ∙ b.1)

no_separator : {X : Type 0} (r : Reason) → Refusing (Err dash_without_flag) r → r ≡ past_separator → X
no_separator r is separator = absurd (let e : dash_without_flag ≡ past_separator = refusing dash_without_flag r is ∙ separator in cc)

short_why : (s d : Bool) (place : Place) (c : ℕ) (form : Bool → Result Form Reason) (x : Bool) (r : Reason) (o : Result Form Reason) → form x ≡ o → OfItem o → Either form
    → Refusing (short_added s d place c o) r → Why (λ y e other. short_added s d other c (form y)) place r
short_why false d place c form x r o form_is of either is = of_item (reason_of no_name r refl is) (λ y e other a ok. none_is _ a ok)
short_why true d place c form x r (Err s) form_is of either is = of_item (reason_of s r (of s refl) is)
    (λ y e other a ok.
    let th = short_through true d other c (form y) a ok in
    let f = either y x th.formed th.is in none_is s f.0 (sym form_is ∙ f.1))
short_why true d ended c form x r (Ok f) form_is of either is =
    of_place (reason_of past_separator r refl is) (λ separator. refl) (short_in_cluster d c form x f either form_is)
short_why true true in_cluster c form x r (Ok f) form_is of either is = none_is r _ (sym is)
short_why true true place c form x r (Ok f) form_is of either is =
    of_place (reason_of dash_without_flag r refl is) (no_separator r is) (short_in_cluster true c form x f either form_is)
short_why true false place c form x r (Ok f) form_is of either is = none_is r _ (sym is)

placed_why : (n : Bool) (place : Place) (name : List ℕ) (f : Form) (r : Reason) → Refusing (long_placed n place name f) r → Why (λ y e other. long_placed n other name f) place r
placed_why false place name f r is = of_item (reason_of empty_name r refl is) (λ y e other a ok. none_is _ a ok)
placed_why true ended name f r is = of_place (reason_of past_separator r refl is) (λ separator. refl) (λ y e. (_, refl))
placed_why true place name f r is = none_is r _ (sym is)

long_why : (u e : Bool) (place : Place) (name : List ℕ) (form : Result Form Reason) (r : Reason) → OfItem form → Refusing (long_added u e place name form) r
    → Why (λ y d other. long_added u e other name form) place r
long_why false e place name form r of is = of_item (reason_of no_name r refl is) (λ y d other a ok. none_is _ a ok)
long_why true true place name form r of is = of_item (reason_of equals_in_name r refl is) (λ y d other a ok. none_is _ a ok)
long_why true false place name (Err s) r of is = of_item (reason_of s r (of s refl) is) (λ y d other a ok. none_is _ a ok)
long_why true false place name (Ok f) r of is = placed_why (is_named name f.after) place name f r is

either_many : (short_equals : Bool) (k : Kind) (values : List (List ℕ)) → Either (λ y. short_many_form (short_equals && y) k values)
either_many short_equals k values = λ x y f is. let o = form_joined (short_equals && x) (short_equals && y) k values f is in (o.0, o.1)

why : (t : Table) (short_equals joins due : Bool) (place : Place) (item : Item) (r : Reason) → adds t short_equals joins due place item ≡ Err r
    → Why (λ y e other. adds t short_equals y e other item) place r
why t short_equals joins due place (option (short c) value) r is =
    let k = kind t (short c) in
    short_why (scalar c) (c == dash) place c (λ y. short_form short_equals k value) joins r (short_form short_equals k value) refl (of_form short_equals [] k (short c) (option (short c) value) _ (short_row short_equals [] c k value)) (λ x y f found. (f, found)) is
why t short_equals joins due place (many (short c) values) r is =
    let k = kind t (short c) in
    short_why (scalar c) (c == dash) place c (λ y. short_many_form (short_equals && y) k values) joins r (short_many_form (short_equals && joins) k values) refl
    (short_many_of short_equals joins c k values) (either_many short_equals k values) is
why t short_equals joins due place (option (long name) value) r is =
    long_why (is_utf8 name) (has_equals name) place name (long_form (kind t (long name)) value) r (of_form short_equals [] (kind t (long name)) (long name) (option (long name) value) _ (long_row short_equals [] name (kind t (long name)) value)) is
why t short_equals joins due place (many (long name) values) r is =
    long_why (is_utf8 name) (has_equals name) place name (long_many_form (kind t (long name)) values) r (of_form short_equals [] (kind t (long name)) (long name) (many (long name) values) _ (long_many_row short_equals [] name (kind t (long name)) values)) is
why t short_equals joins due place (positional w) r is = none_is r _ (sym is)

-- ---- the item at fault

here_reason : (t : Table) (short_equals : Bool) (place : Place) (item : Item) (items : List Item) (f : Fault) (r : Reason)
    → adds t short_equals (separator_comes_too_early items) (separator_is_due items) place item ≡ Err r → spelled_from t short_equals (item ∷ items) place ≡ Err f → r ≡ f.reason
unfolding spelled_from
here_reason t short_equals place item items f r err is =
    let h : Failing (Err (record { index = 0; reason = r })) f = sym (ap (λ o. with_rests o (spelled_from t short_equals items)) err) ∙ is in
    let e : record { index = 0; reason = r } ≡ f = cc in ap (λ (x : Fault). x.reason) e

later_reason : (t : Table) (short_equals : Bool) (place : Place) (item : Item) (items : List Item) (f : Fault) (a : Added) (g : Fault)
    → adds t short_equals (separator_comes_too_early items) (separator_is_due items) place item ≡ Ok a → spelled_from t short_equals items a.place ≡ Err g
    → spelled_from t short_equals (item ∷ items) place ≡ Err f → g.reason ≡ f.reason
unfolding spelled_from
later_reason t short_equals place item items f a g added_is rest_is is =
    let h : Failing (Err (record { index = suc g.index; reason = g.reason })) f =
    sym (ap (λ o. with_rests o (spelled_from t short_equals items)) added_is ∙ ap (with_rest a) rest_is) ∙ is in
    let e : record { index = suc g.index; reason = g.reason } ≡ f = cc in ap (λ (x : Fault). x.reason) e

-- the item is not added at some place, for this reason
record Refused (t : Table) (short_equals : Bool) (it : Item) (r : Reason) : Type 0 where
  joins : Bool
  due : Bool
  place : Place
  is : adds t short_equals joins due place it ≡ Err r

abbrev RefusedOf : Table → Bool → List Item → Type 0
RefusedOf t short_equals items = (place : Place) (f : Fault) (it : Item) (others : List Item) → spelled_from t short_equals items place ≡ Err f → drop f.index items ≡ it ∷ others
    → Refused t short_equals it f.reason

first_refused : (t : Table) (short_equals : Bool) (place : Place) (item : Item) (items : List Item) (f : Fault) (it : Item) (others : List Item) → RefusedOf t short_equals items
    → spelled_from t short_equals (item ∷ items) place ≡ Err f → drop f.index (item ∷ items) ≡ it ∷ others → Fails t short_equals place item items f → Refused t short_equals it f.reason
first_refused t short_equals place item items f it others more is dropped (here r err first) =
    let e : item ∷ items ≡ it ∷ others = sym (ap (λ n. drop n (item ∷ items)) first) ∙ dropped in
    let same : item ≡ it = cc in
    subst (Refused t short_equals it) (here_reason t short_equals place item items f r err is)
    (subst (λ (x : Item). Refused t short_equals x r) same (record { joins = _; due = _; place = place; is = err }))
first_refused t short_equals place item items f it others more is dropped (later a g added_is rest_is index) =
    subst (Refused t short_equals it) (later_reason t short_equals place item items f a g added_is rest_is is)
    (more a.place g it others rest_is (sym (ap (λ n. drop n (item ∷ items)) index) ∙ dropped))

refused : (t : Table) (short_equals : Bool) (items : List Item) → RefusedOf t short_equals items
refused t short_equals [] = λ place f it others is dropped. no_both t short_equals [] place f is (nil_can t short_equals place)
refused t short_equals (item ∷ items) = λ place f it others is dropped.
    first_refused t short_equals place item items f it others (refused t short_equals items) is dropped (fails t short_equals place item items f is)

spelled_refused : (t : Table) (short_equals : Bool) (l : List Item) (f : Fault) (it : Item) (others : List Item) → spelled t short_equals l ≡ Err f → drop f.index l ≡ it ∷ others
    → Refused t short_equals it f.reason
spelled_refused t short_equals l f it others is dropped =
    refused t short_equals l open_line f it others (from_words (spelled_from t short_equals l open_line) f is) dropped

-- ---- a reason about the item

-- an item that is spelled is added at some place
added_somewhere : (t : Table) (short_equals : Bool) (it : Item) (after before : List Item) (place : Place) → Can t short_equals (before ++ it ∷ after) place
    → (joins : Bool) × (due : Bool) × (other : Place) × (a : Added) × (adds t short_equals joins due other it ≡ Ok a)
added_somewhere t short_equals it after [] place can = let s = can_split t short_equals place it after can in (_, _, place, s.0, s.1)
added_somewhere t short_equals it after (item ∷ before) place can =
    let s = can_split t short_equals place item (before ++ it ∷ after) can in added_somewhere t short_equals it after before s.0.place s.2

never : (t : Table) (short_equals : Bool) (it : Item) (place : Place) (r : Reason) → is_of_the_place r ≡ false → Why (λ y e other. adds t short_equals y e other it) place r
    → (joins due : Bool) (other : Place) (a : Added) → adds t short_equals joins due other it ≡ Ok a → ⊥
never t short_equals it place r of (of_item is none) joins due other a ok = none joins due other a ok
never t short_equals it place r of (of_place is separator continues) joins due other a ok = true≢false (sym is ∙ of)

pub item_nowhere : (t : Table) (short_equals : Bool) (l : List Item) (f : Fault) (it : Item) (others : List Item) → spelled t short_equals l ≡ Err f → is_of_the_place f.reason ≡ false
    → drop f.index l ≡ it ∷ others → (words : List (List ℕ)) (before after : List Item) → Spells t short_equals words (before ++ it ∷ after) → ⊥
item_nowhere t short_equals l f it others is of dropped words before after spells =
    let no = spelled_refused t short_equals l f it others is dropped in
    let some = added_somewhere t short_equals it after before open_line (spells_can t short_equals words (before ++ it ∷ after) spells) in
    never t short_equals it no.place f.reason of (why t short_equals no.joins no.due no.place it f.reason no.is) some.0 some.1 some.2 some.3 some.4

-- ---- a reason about the place

continues : (t : Table) (short_equals : Bool) (it : Item) (place : Place) (r : Reason) → is_of_the_place r ≡ true → Why (λ y e other. adds t short_equals y e other it) place r
    → InCluster (λ y e other. adds t short_equals y e other it)
continues t short_equals it place r of (of_item is none) = absurd (true≢false (sym of ∙ is))
continues t short_equals it place r of (of_place is separator in_cluster_is) = in_cluster_is

-- a flag of one character, which is not a dash, begins a cluster
flag_added : (short_equals : Bool) (c : ℕ) (s d : Bool) (k : Kind) → s ≡ true → d ≡ false → k ≡ flag
    → (a : Added) × (short_added s d open_line c (short_form short_equals k None) ≡ Ok a) × (a.place ≡ in_cluster)
flag_added short_equals c true false flag s_is d_is k_is = (_, refl, refl)
flag_added short_equals c false d k s_is d_is k_is = absurd (true≢false (sym s_is))
flag_added short_equals c true true k s_is d_is k_is = absurd (true≢false d_is)
flag_added short_equals c true false one s_is d_is k_is = absurd (let e : one ≡ flag = k_is in cc)
flag_added short_equals c true false optional s_is d_is k_is = absurd (let e : optional ≡ flag = k_is in cc)
flag_added short_equals c true false several s_is d_is k_is = absurd (let e : several ≡ flag = k_is in cc)

pub after_flag : (t : Table) (short_equals : Bool) (l : List Item) (f : Fault) (it : Item) (others : List Item) → spelled t short_equals l ≡ Err f → is_of_the_place f.reason ≡ true
    → drop f.index l ≡ it ∷ others → (c : ℕ) → IsScalar c → c ≢ dash → kind t (short c) ≡ flag
    → (words : List (List ℕ)) × Spells t short_equals words (option (short c) None ∷ it ∷ [])
after_flag t short_equals l f it others is of dropped c scalar_is other flag_is =
    let no = spelled_refused t short_equals l f it others is dropped in
    let b = continues t short_equals it no.place f.reason of (why t short_equals no.joins no.due no.place it f.reason no.is)
    (separator_comes_too_early []) (separator_is_due []) in
    let a = flag_added short_equals c (scalar c) (c == dash) (kind t (short c)) scalar_is (ne_eqb c dash other) flag_is in
    let last = cons_can t short_equals in_cluster it [] b.0 b.1 (nil_can t short_equals b.0.place) in
    let can = cons_can t short_equals open_line (option (short c) None) (it ∷ []) a.0 a.1 (subst (Can t short_equals (it ∷ [])) (sym a.2) last) in
    let some = can_words t short_equals (option (short c) None ∷ it ∷ []) can in
    (some.0, spelled_spells t short_equals (option (short c) None ∷ it ∷ []) some.0 some.1)

-- ---- after the separator

separator_stands : (t : Table) (short_equals : Bool) (it : Item) (place : Place) (r : Reason) → r ≡ past_separator → Why (λ y e other. adds t short_equals y e other it) place r → place ≡ ended
separator_stands t short_equals it place r is (of_item of none) = absurd (true≢false (sym (ap is_of_the_place is) ∙ of))
separator_stands t short_equals it place r is (of_place of separator continues) = separator is

-- items of which one is at fault are not all positionals
some_option : (t : Table) (short_equals : Bool) (items : List Item) (place : Place) (f : Fault) → spelled_from t short_equals items place ≡ Err f → list_all is_positional items ≡ false
some_option t short_equals items place f is = by (list_all is_positional items) refl
  where
    by : (b : Bool) → list_all is_positional items ≡ b → b ≡ false
    by true all = no_both t short_equals items place f is (all_can t short_equals items place (all_positional items all))
    by false all = refl

option_last : (front : List Item) (it : Item) → is_positional it ≡ false → list_all is_positional (front ++ it ∷ []) ≡ false
option_last [] it other = ap (λ b. b && true) other
option_last (option name value ∷ front) it other = refl
option_last (many name values ∷ front) it other = refl
option_last (positional w ∷ front) it other = option_last front it other

-- if the item at fault is replaced by an option, and nothing comes after it, the separator is due
-- as before
due_same : (t : Table) (short_equals : Bool) (items : List Item) (place : Place) (f : Fault) (it : Item) → is_positional it ≡ false → spelled_from t short_equals items place ≡ Err f
    → separator_is_due (take f.index items ++ it ∷ []) ≡ separator_is_due items
due_same t short_equals items place f it other is =
    let front = take f.index items ++ it ∷ [] in
    ap (λ b. b && not (list_all is_plain_item front)) (option_last (take f.index items) it other)
    ∙ sym (ap (λ b. b && not (list_all is_plain_item items)) (some_option t short_equals items place f is))

early_option : (it : Item) (rest : List Item) → is_positional it ≡ false → separator_comes_too_early (it ∷ rest) ≡ false
early_option it rest other = ap (λ b. b && not (list_all is_positional rest)) other

early_by : (t : Table) (short_equals : Bool) (place : Place) (item : Item) (items : List Item) (f : Fault) (it : Item) → is_positional it ≡ false
    → Fails t short_equals place item items f → separator_comes_too_early (take f.index (item ∷ items) ++ it ∷ []) ≡ separator_comes_too_early (item ∷ items)
early_by t short_equals place (option name value) items f it other (here r err first) =
    ap (λ n. separator_comes_too_early (take n (option name value ∷ items) ++ it ∷ [])) first ∙ early_option it [] other
early_by t short_equals place (many name values) items f it other (here r err first) =
    ap (λ n. separator_comes_too_early (take n (many name values ∷ items) ++ it ∷ [])) first ∙ early_option it [] other
early_by t short_equals place (positional w) items f it other (here r err first) = none_is r _ (sym err)
early_by t short_equals place (option name value) items f it other (later a g added_is rest_is index) =
    ap (λ n. separator_comes_too_early (take n (option name value ∷ items) ++ it ∷ [])) index
early_by t short_equals place (many name values) items f it other (later a g added_is rest_is index) =
    ap (λ n. separator_comes_too_early (take n (many name values ∷ items) ++ it ∷ [])) index
early_by t short_equals place (positional w) items f it other (later a g added_is rest_is index) =
    ap (λ n. separator_comes_too_early (take n (positional w ∷ items) ++ it ∷ [])) index
    ∙ ap not (option_last (take g.index items) it other) ∙ sym (ap not (some_option t short_equals items a.place g rest_is))

-- and it comes too early if and only if it did before
early_same : (t : Table) (short_equals : Bool) (items : List Item) (place : Place) (f : Fault) (it : Item) → is_positional it ≡ false → spelled_from t short_equals items place ≡ Err f
    → separator_comes_too_early (take f.index items ++ it ∷ []) ≡ separator_comes_too_early items
early_same t short_equals [] place f it other is = no_both t short_equals [] place f is (nil_can t short_equals place)
early_same t short_equals (item ∷ items) place f it other is = early_by t short_equals place item items f it other (fails t short_equals place item items f is)

abbrev NoOption : Table → Bool → Item → List Item → Type 0
NoOption t short_equals it items = (place : Place) (f : Fault) → spelled_from t short_equals items place ≡ Err f → f.reason ≡ past_separator
    → ¬ Can t short_equals (take f.index items ++ it ∷ []) place

no_first : (t : Table) (short_equals : Bool) (place : Place) (item : Item) (items : List Item) (f : Fault) (it : Item) → is_positional it ≡ false → NoOption t short_equals it items
    → spelled_from t short_equals (item ∷ items) place ≡ Err f → f.reason ≡ past_separator → Fails t short_equals place item items f
    → ¬ Can t short_equals (take f.index (item ∷ items) ++ it ∷ []) place
no_first t short_equals place item items f it other more is reason (here r err first) can =
    let x = separator_comes_too_early items in
    let y = separator_is_due items in
    let at = separator_stands t short_equals item place r (here_reason t short_equals place item items f r err is ∙ reason) (why t short_equals x y place item r err) in
    let one = subst (λ (n : ℕ). Can t short_equals (take n (item ∷ items) ++ it ∷ []) place) first can in
    let s = can_split t short_equals ended it [] (subst (Can t short_equals (it ∷ [])) at one) in
    option_ended t short_equals (separator_comes_too_early []) (separator_is_due []) it s.0 other s.1
no_first t short_equals place item items f it other more is reason (later a g added_is rest_is index) can =
    let front = take g.index items ++ it ∷ [] in
    let s = can_split t short_equals place item front (subst (λ (n : ℕ). Can t short_equals (take n (item ∷ items) ++ it ∷ []) place) index can) in
    let same = ap (λ x. adds t short_equals x (separator_is_due front) place item) (early_same t short_equals items a.place g it other rest_is)
    ∙ ap (λ y. adds t short_equals (separator_comes_too_early items) y place item) (due_same t short_equals items a.place g it other rest_is) in
    more a.place g rest_is (later_reason t short_equals place item items f a g added_is rest_is is ∙ reason)
    (subst (λ (b : Added). Can t short_equals front b.place) (same_added s.0 a _ s.1 (same ∙ added_is)) s.2)

no_option : (t : Table) (short_equals : Bool) (it : Item) → is_positional it ≡ false → (items : List Item) → NoOption t short_equals it items
no_option t short_equals it other [] = λ place f is reason can. no_both t short_equals [] place f is (nil_can t short_equals place)
no_option t short_equals it other (item ∷ items) = λ place f is reason can.
    no_first t short_equals place item items f it other (no_option t short_equals it other items) is reason (fails t short_equals place item items f is) can

pub no_option_after : (t : Table) (short_equals : Bool) (l : List Item) (f : Fault) → spelled t short_equals l ≡ Err f → f.reason ≡ past_separator
    → (it : Item) → is_positional it ≡ false → (words : List (List ℕ)) → Spells t short_equals words (take f.index l ++ it ∷ []) → ⊥
no_option_after t short_equals l f is reason it other words spells =
    no_option t short_equals it other l open_line f (from_words (spelled_from t short_equals l open_line) f is) reason
    (spells_can t short_equals words (take f.index l ++ it ∷ []) spells)
