-- Items that can be spelled from one place can be spelled from another: an only value leads to the
-- same items, joined or not.
use Rattle.std.proofs.Common.{◌≡◌, ℕ, ◌==◌, ◌&&◌, not, Bool, true, false, List, [], ◌∷◌, map, refl, sym, ap, subst, ◌∙◌, true≢false}
use Rattle.std.proofs.lemmas.Bool.{and_parts, not-false}
use Rattle.std.proofs.lemmas.Result.{IfOk-at_ok}
use Rattle.std.specs.Prelude.{Result, Ok, Err}
use Rattle.std.specs.List.{list_all}
use Rattle.std.specs.Str.{is_utf8}
use lib.Utf8.{scalar}
use Rattle.lexopt_spec.specs.UnreadLine.{dash, is_plain}
use Rattle.lexopt_line_spec.specs.Table.{short, long, Item, option, many, positional, Kind, flag, one, optional, several, kind, Table}
use Rattle.lexopt_line_spec.specs.Speller.{Reason, Place, open_line, in_cluster, after_values, after_positional, ended, is_positional, Fault}
use Rattle.lexopt_line_spec.proofs.SpellerTables.{Form, short_form, long_form, short_words_form, short_many_form, long_many_form, Added, short_added, is_named, long_placed, long_added, needs_no_separator, positional_added, adds, separator_comes_too_early, is_plain_item, separator_is_due, Rest, with_rest, with_rests, spelled_from}
use Rattle.lexopt_line_spec.proofs.SpellerAnswers.{Formed, Adding, Going, none_is}
use Rattle.lexopt_line_spec.proofs.SpellerTests.{has_equals}

-- the items can be spelled from this place on
abbrev pub Can : Table → Bool → List Item → Place → Type 0
Can t short_equals items place = (r : Rest) × (spelled_from t short_equals items place ≡ Ok r)

pub nil_can : (t : Table) (short_equals : Bool) (place : Place) → Can t short_equals [] place
unfolding spelled_from
nil_can t short_equals place = (_, refl)

pub cons_can : (t : Table) (short_equals : Bool) (place : Place) (item : Item) (items : List Item) (a : Added) → adds t short_equals (separator_comes_too_early items) (separator_is_due items) place item ≡ Ok a
    → Can t short_equals items a.place → Can t short_equals (item ∷ items) place
unfolding spelled_from
cons_can t short_equals place item items a is can =
    (_, ap (λ o. with_rests o (spelled_from t short_equals items)) is ∙ ap (with_rest a) can.1)

-- ---- an item that is spelled

abbrev First : Table → Bool → Place → Item → List Item → Type 0
First t short_equals place item items = (a : Added) × (adds t short_equals (separator_comes_too_early items) (separator_is_due items) place item ≡ Ok a) × Can t short_equals items a.place

later_can : (t : Table) (short_equals : Bool) (items : List Item) (a : Added) (rest : Result Rest Fault) (r : Rest) → spelled_from t short_equals items a.place ≡ rest
    → Going (with_rest a rest) r → Can t short_equals items a.place
later_can t short_equals items a (Err fault) r rest_is is = none_is _ r is
later_can t short_equals items a (Ok s) r rest_is is = (s, rest_is)

first_can : (t : Table) (short_equals : Bool) (place : Place) (item : Item) (items : List Item) (o : Result Added Reason) (r : Rest)
    → adds t short_equals (separator_comes_too_early items) (separator_is_due items) place item ≡ o → Going (with_rests o (spelled_from t short_equals items)) r → First t short_equals place item items
first_can t short_equals place item items (Err reason) r added_is is = none_is _ r is
first_can t short_equals place item items (Ok a) r added_is is = (a, added_is, later_can t short_equals items a (spelled_from t short_equals items a.place) r refl is)

pub can_split : (t : Table) (short_equals : Bool) (place : Place) (item : Item) (items : List Item) → Can t short_equals (item ∷ items) place → First t short_equals place item items
unfolding spelled_from
can_split t short_equals place item items can =
    first_can t short_equals place item items (adds t short_equals (separator_comes_too_early items) (separator_is_due items) place item) can.0 refl can.1

-- ---- positionals

pub positionals_can : (t : Table) (short_equals : Bool) (words : List (List ℕ)) (place : Place) → Can t short_equals (map positional words) place
positionals_can t short_equals [] place = nil_can t short_equals place
positionals_can t short_equals (w ∷ ws) place =
    let alone = needs_no_separator (is_plain false w) (separator_is_due (map positional ws)) place in
    cons_can t short_equals place (positional w) (map positional ws) (positional_added alone place w) refl
    (positionals_can t short_equals ws (positional_added alone place w).place)

abbrev pub AllPositional : List Item → Type 0
AllPositional items = (words : List (List ℕ)) × (items ≡ map positional words)

pub all_positional : (items : List Item) → list_all is_positional items ≡ true → AllPositional items
all_positional [] are = ([], refl)
all_positional (option name value ∷ items) are = absurd (true≢false (sym are))
all_positional (many name values ∷ items) are = absurd (true≢false (sym are))
all_positional (positional w ∷ items) are = let more = all_positional items are in (w ∷ more.0, ap (λ l. positional w ∷ l) more.1)

pub all_can : (t : Table) (short_equals : Bool) (items : List Item) (place : Place) → AllPositional items → Can t short_equals items place
all_can t short_equals items place all = subst (λ (l : List Item). Can t short_equals l place) (sym all.1) (positionals_can t short_equals all.0 place)

-- after the separator no option is added
short_ended : {X : Type 0} (s d : Bool) (c : ℕ) (form : Result Form Reason) (a : Added) → Adding (short_added s d ended c form) a → X
short_ended false d c form a is = none_is _ a is
short_ended true d c (Err reason) a is = none_is _ a is
short_ended true d c (Ok f) a is = none_is _ a is

placed_ended : {X : Type 0} (n : Bool) (name : List ℕ) (f : Form) (a : Added) → Adding (long_placed n ended name f) a → X
placed_ended false name f a is = none_is _ a is
placed_ended true name f a is = none_is _ a is

long_ended : {X : Type 0} (u e : Bool) (name : List ℕ) (form : Result Form Reason) (a : Added) → Adding (long_added u e ended name form) a → X
long_ended false e name form a is = none_is _ a is
long_ended true true name form a is = none_is _ a is
long_ended true false name (Err reason) a is = none_is _ a is
long_ended true false name (Ok f) a is = placed_ended (is_named name f.after) name f a is

pub option_ended : {X : Type 0} (t : Table) (short_equals joins due : Bool) (item : Item) (a : Added) → is_positional item ≡ false → adds t short_equals joins due ended item ≡ Ok a → X
option_ended t short_equals joins due (option (short c) value) a other is = short_ended (scalar c) (c == dash) c (short_form short_equals (kind t (short c)) value) a is
option_ended t short_equals joins due (many (short c) values) a other is = short_ended (scalar c) (c == dash) c (short_many_form (short_equals && joins) (kind t (short c)) values) a is
option_ended t short_equals joins due (option (long name) value) a other is = long_ended (is_utf8 name) (has_equals name) name (long_form (kind t (long name)) value) a is
option_ended t short_equals joins due (many (long name) values) a other is = long_ended (is_utf8 name) (has_equals name) name (long_many_form (kind t (long name)) values) a is
option_ended t short_equals joins due (positional w) a other is = absurd (true≢false other)

pub ended_positional : (t : Table) (short_equals : Bool) (items : List Item) → Can t short_equals items ended → list_all is_positional items ≡ true
ended_positional t short_equals [] can = refl
ended_positional t short_equals (option name value ∷ items) can =
    let s = can_split t short_equals ended (option name value) items can in
    option_ended t short_equals (separator_comes_too_early items) (separator_is_due items) (option name value) s.0 refl s.1
ended_positional t short_equals (many name values ∷ items) can =
    let s = can_split t short_equals ended (many name values) items can in
    option_ended t short_equals (separator_comes_too_early items) (separator_is_due items) (many name values) s.0 refl s.1
ended_positional t short_equals (positional w ∷ items) can =
    let s = can_split t short_equals ended (positional w) items can in
    ended_positional t short_equals items (IfOk-at_ok (λ (a : Added). Can t short_equals items a.place → Can t short_equals items ended) s.1 (λ h. h) s.2)

-- ---- the places after values and after nothing

short_same : (s d : Bool) (c : ℕ) (form : Result Form Reason) → short_added s d open_line c form ≡ short_added s d after_values c form
short_same false d c form = refl
short_same true d c (Err reason) = refl
short_same true false c (Ok f) = refl
short_same true true c (Ok f) = refl

placed_same : (n : Bool) (name : List ℕ) (f : Form) → long_placed n open_line name f ≡ long_placed n after_values name f
placed_same false name f = refl
placed_same true name f = refl

long_same : (u e : Bool) (name : List ℕ) (form : Result Form Reason) → long_added u e open_line name form ≡ long_added u e after_values name form
long_same false e name form = refl
long_same true true name form = refl
long_same true false name (Err reason) = refl
long_same true false name (Ok f) = placed_same (is_named name f.after) name f

option_same : (t : Table) (short_equals joins due : Bool) (item : Item) → is_positional item ≡ false → adds t short_equals joins due open_line item ≡ adds t short_equals joins due after_values item
option_same t short_equals joins due (option (short c) value) other = short_same (scalar c) (c == dash) c (short_form short_equals (kind t (short c)) value)
option_same t short_equals joins due (many (short c) values) other = short_same (scalar c) (c == dash) c (short_many_form (short_equals && joins) (kind t (short c)) values)
option_same t short_equals joins due (option (long name) value) other = long_same (is_utf8 name) (has_equals name) name (long_form (kind t (long name)) value)
option_same t short_equals joins due (many (long name) values) other = long_same (is_utf8 name) (has_equals name) name (long_many_form (kind t (long name)) values)
option_same t short_equals joins due (positional w) other = absurd (true≢false other)

options_same : (t : Table) (short_equals : Bool) (item : Item) (items : List Item) → is_positional item ≡ false
    → spelled_from t short_equals (item ∷ items) open_line ≡ spelled_from t short_equals (item ∷ items) after_values
unfolding spelled_from
options_same t short_equals item items other = ap (λ o. with_rests o (spelled_from t short_equals items)) (option_same t short_equals (separator_comes_too_early items) (separator_is_due items) item other)

-- items that can be spelled after nothing can be spelled after values, unless the separator would
-- come too early
pub closed : (t : Table) (short_equals : Bool) (items : List Item) → separator_comes_too_early items ≡ false → Can t short_equals items open_line → Can t short_equals items after_values
closed t short_equals [] early can = nil_can t short_equals after_values
closed t short_equals (option name value ∷ items) early can = (can.0, sym (options_same t short_equals (option name value) items refl) ∙ can.1)
closed t short_equals (many name values ∷ items) early can = (can.0, sym (options_same t short_equals (many name values) items refl) ∙ can.1)
closed t short_equals (positional w ∷ items) early can =
    all_can t short_equals (positional w ∷ items) after_values (all_positional (positional w ∷ items) (not-false (list_all is_positional items) early))

-- the other way round
pub opened : (t : Table) (short_equals : Bool) (items : List Item) → Can t short_equals items after_values → Can t short_equals items open_line
opened t short_equals [] can = nil_can t short_equals open_line
opened t short_equals (option name value ∷ items) can = (can.0, options_same t short_equals (option name value) items refl ∙ can.1)
opened t short_equals (many name values ∷ items) can = (can.0, options_same t short_equals (many name values) items refl ∙ can.1)
opened t short_equals (positional w ∷ items) can =
    let s = can_split t short_equals after_values (positional w) items can in
    all_can t short_equals (positional w ∷ items) open_line
    (all_positional (positional w ∷ items) (ended_positional t short_equals items (IfOk-at_ok (λ (a : Added). Can t short_equals items a.place → Can t short_equals items ended) s.1 (λ h. h) s.2)))

-- ---- an only value, joined or not

-- the item leads to `before` if `x` is whether its only value is joined, and to `after` if `y` is
pub data Moved (x y : Bool) (before after : Place) : Type 0 where
  stays : after ≡ before → Moved x y before after
  opens : before ≡ after_values → after ≡ open_line → Moved x y before after
  closes : before ≡ open_line → after ≡ after_values → x ≡ true → y ≡ false → Moved x y before after

-- a positional leads to `before` and to `after`, by whether the separator is due
pub data Ended (due : Bool) (before after : Place) : Type 0 where
  as_before : after ≡ before → Ended due before after
  ends : before ≡ after_positional → after ≡ ended → due ≡ true → Ended due before after
  ends_later : before ≡ ended → after ≡ after_positional → Ended due before after

abbrev pub Other : Bool → Bool → Kind → List (List ℕ) → Form → Type 0
Other x y k values f = (g : Form) × (short_many_form y k values ≡ Ok g) × Moved x y f.place g.place

pub words_ok : (p : Bool) (v : List ℕ) (vs : List (List ℕ)) → (g : Form) × (short_words_form p true v vs ≡ Ok g) × (g.place ≡ after_values)
words_ok true v vs = (_, refl, refl)
words_ok false v vs = (_, refl, refl)

pub words_place : (p : Bool) (v : List ℕ) (f : Form) → Formed (short_words_form p true v []) f → f.place ≡ after_values
words_place true v f is = IfOk-at_ok (λ (g : Form). g.place ≡ after_values) is refl
words_place false v f is = IfOk-at_ok (λ (g : Form). g.place ≡ after_values) is refl

one_joined : (x y : Bool) (v : List ℕ) (f : Form) → Formed (short_many_form x several (v ∷ [])) f → Other x y several (v ∷ []) f
one_joined true true v f is = (f, is, stays refl)
one_joined false false v f is = (f, is, stays refl)
one_joined true false v f is =
    let words = words_ok (is_plain false v) v [] in
    (words.0, words.1, IfOk-at_ok (λ (g : Form). Moved true false g.place words.0.place) is (closes refl words.2 refl refl))
one_joined false true v f is = (_, refl, opens (words_place (is_plain false v) v f is) refl)

pub form_joined : (x y : Bool) (k : Kind) (values : List (List ℕ)) (f : Form) → Formed (short_many_form x k values) f → Other x y k values f
form_joined x y flag values f is = none_is _ f is
form_joined x y one values f is = none_is _ f is
form_joined x y optional values f is = none_is _ f is
form_joined x y several [] f is = none_is _ f is
form_joined x y several (v ∷ []) f is = one_joined x y v f is
form_joined true true several (v ∷ w ∷ vs) f is = (f, is, stays refl)
form_joined true false several (v ∷ w ∷ vs) f is = (f, is, stays refl)
form_joined false true several (v ∷ w ∷ vs) f is = (f, is, stays refl)
form_joined false false several (v ∷ w ∷ vs) f is = (f, is, stays refl)

-- a short option is added with this form, and so it is with any other
pub record Through (s d : Bool) (place : Place) (c : ℕ) (form : Result Form Reason) (a : Added) : Type 0 where
  pub formed : Form
  pub is : form ≡ Ok formed
  pub leads : a.place ≡ formed.place
  pub other : (g : Form) → (b : Added) × (short_added s d place c (Ok g) ≡ Ok b) × (b.place ≡ g.place)

pub short_through : (s d : Bool) (place : Place) (c : ℕ) (form : Result Form Reason) (a : Added) → Adding (short_added s d place c form) a → Through s d place c form a
short_through false d place c form a is = none_is _ a is
short_through true d place c (Err reason) a is = none_is _ a is
short_through true d ended c (Ok f) a is = none_is _ a is
short_through true true in_cluster c (Ok f) a is = IfOk-at_ok (Through true true in_cluster c (Ok f)) is
    (record { formed = f; is = refl; leads = refl; other = λ g. (_, refl, refl) })
short_through true true place c (Ok f) a is = none_is _ a is
short_through true false place c (Ok f) a is = IfOk-at_ok (Through true false place c (Ok f)) is
    (record { formed = f; is = refl; leads = refl; other = λ g. (_, refl, refl) })

pub data Changed (x y due : Bool) (before after : Place) : Type 0 where
  moved : Moved x y before after → Changed x y due before after
  ended_too : Ended due before after → Changed x y due before after

abbrev pub AddsToo : Table → Bool → Bool → Bool → Bool → Place → Item → Added → Type 0
AddsToo t short_equals x y e place item a = (b : Added) × (adds t short_equals y e place item ≡ Ok b) × Changed (short_equals && x) (short_equals && y) e a.place b.place

many_too : (t : Table) (short_equals x y d e : Bool) (place : Place) (c : ℕ) (values : List (List ℕ)) (a : Added)
    → Adding (adds t short_equals x d place (many (short c) values)) a → AddsToo t short_equals x y e place (many (short c) values) a
many_too t short_equals x y d e place c values a is =
    let k = kind t (short c) in
    let th = short_through (scalar c) (c == dash) place c (short_many_form (short_equals && x) k values) a is in
    let o = form_joined (short_equals && x) (short_equals && y) k values th.formed th.is in
    let b = th.other o.0 in (
      b.0,
      ap (short_added (scalar c) (c == dash) place c) o.1 ∙ b.1,
      moved (subst (λ (p : Place). Moved (short_equals && x) (short_equals && y) p b.0.place) (sym th.leads)
          (subst (λ (p : Place). Moved (short_equals && x) (short_equals && y) th.formed.place p) (sym b.2) o.2)),
    )

positional_ends : (plain d e : Bool) (w : List ℕ) (place : Place)
    → Ended e (positional_added (needs_no_separator plain d place) place w).place (positional_added (needs_no_separator plain e place) place w).place
positional_ends true true true w open_line = as_before refl
positional_ends true true false w open_line = ends_later refl refl
positional_ends true false true w open_line = ends refl refl refl
positional_ends true false false w open_line = as_before refl
positional_ends false d e w open_line = as_before refl
positional_ends true true true w in_cluster = as_before refl
positional_ends true true false w in_cluster = ends_later refl refl
positional_ends true false true w in_cluster = ends refl refl refl
positional_ends true false false w in_cluster = as_before refl
positional_ends false d e w in_cluster = as_before refl
positional_ends plain d e w after_values = as_before refl
positional_ends plain d e w after_positional = as_before refl
positional_ends plain d e w ended = as_before refl

-- an item is added or not, whether its only value is joined or not, and whether the separator is
-- due or not
pub adds_too : (t : Table) (short_equals x y d e : Bool) (place : Place) (item : Item) (a : Added) → adds t short_equals x d place item ≡ Ok a → AddsToo t short_equals x y e place item a
adds_too t short_equals x y d e place (option (short c) value) a is = (a, is, moved (stays refl))
adds_too t short_equals x y d e place (option (long name) value) a is = (a, is, moved (stays refl))
adds_too t short_equals x y d e place (many (short c) values) a is = many_too t short_equals x y d e place c values a is
adds_too t short_equals x y d e place (many (long name) values) a is = (a, is, moved (stays refl))
adds_too t short_equals x y d e place (positional w) a is = (
  _,
  refl,
  IfOk-at_ok (λ (b : Added). Changed (short_equals && x) (short_equals && y) e b.place (positional_added (needs_no_separator (is_plain false w) e place) place w).place) is
      (ended_too (positional_ends (is_plain false w) d e w place)),
)

pub not_joined : (short_equals x y : Bool) → (short_equals && x) ≡ true → (short_equals && y) ≡ false → y ≡ false
not_joined true x y on off = off
not_joined false x y on off = absurd (true≢false (sym on))

-- if the separator is due, all items are positionals
pub due_positional : (items : List Item) → separator_is_due items ≡ true → list_all is_positional items ≡ true
due_positional items due = (and_parts (list_all is_positional items) (not (list_all is_plain_item items)) due).0

-- from one place to the other
pub changed_can : (t : Table) (short_equals x e : Bool) (items : List Item) (y : Bool) (before after : Place) → (x ≡ true → y ≡ false → separator_comes_too_early items ≡ false)
    → (e ≡ true → list_all is_positional items ≡ true) → Changed x y e before after → Can t short_equals items before → Can t short_equals items after
changed_can t short_equals x e items y before after early due (moved (stays same)) can = subst (Can t short_equals items) (sym same) can
changed_can t short_equals x e items y before after early due (moved (opens was is_now)) can =
    subst (Can t short_equals items) (sym is_now) (opened t short_equals items (subst (Can t short_equals items) was can))
changed_can t short_equals x e items y before after early due (moved (closes was is_now on off)) can =
    subst (Can t short_equals items) (sym is_now) (closed t short_equals items (early on off) (subst (Can t short_equals items) was can))
changed_can t short_equals x e items y before after early due (ended_too (as_before same)) can = subst (Can t short_equals items) (sym same) can
changed_can t short_equals x e items y before after early due (ended_too (ends was is_now is_due)) can = all_can t short_equals items after (all_positional items (due is_due))
changed_can t short_equals x e items y before after early due (ended_too (ends_later was is_now)) can =
    all_can t short_equals items after (all_positional items (ended_positional t short_equals items (subst (Can t short_equals items) was can)))

-- items that can be spelled after an item can be spelled with it
pub can_cons : (t : Table) (short_equals joins due : Bool) (place : Place) (item : Item) (items : List Item) (a : Added) → adds t short_equals joins due place item ≡ Ok a
    → Can t short_equals items a.place → Can t short_equals (item ∷ items) place
can_cons t short_equals joins due place item items a is can =
    let too = adds_too t short_equals joins (separator_comes_too_early items) due (separator_is_due items) place item a is in
    cons_can t short_equals place item items too.0 too.1
    (changed_can t short_equals (short_equals && joins) (separator_is_due items) items (short_equals && separator_comes_too_early items) a.place too.0.place
    (not_joined short_equals joins (separator_comes_too_early items)) (due_positional items) too.2 can)
