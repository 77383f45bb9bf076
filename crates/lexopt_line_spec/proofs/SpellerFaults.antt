-- Of items that no words spell, one is at fault, and the speller names it.
use Rattle.std.proofs.Common.{◌≡◌, ℕ, zero, suc, ◌<◌, ◌≤◌, ◌&&◌, not, Bool, true, false, List, [], ◌∷◌, length, take, refl, sym, ap, subst, ◌∙◌, arith, ⊎_elim, true≢false}
use Rattle.std.proofs.lemmas.Bool.{cases_lt, and_parts, and_from}
use Rattle.std.proofs.Math.Seq.{take-length}
use Rattle.std.specs.Prelude.{Result, Ok, Err}
use Rattle.std.specs.List.{list_all}
use Rattle.lexopt_spec.specs.Steps.{Reply, end}
use Rattle.lexopt_line_spec.specs.Table.{Item, Table}
use Rattle.lexopt_line_spec.specs.Readings.{IsReading, start}
use Rattle.lexopt_line_spec.specs.Spelling.{Shows, Spells}
use Rattle.lexopt_line_spec.specs.Speller.{Reason, Place, open_line, is_positional, SpelledAs, Fault, HasFault, IsAtFault}
use Rattle.lexopt_line_spec.proofs.SpellerTables.{Added, adds, separator_comes_too_early, separator_is_due, Rest, with_rest, with_rests, spelled_from, words_or_fault, spelled}
use Rattle.lexopt_line_spec.proofs.Names.{spelled_shows}
use Rattle.lexopt_line_spec.proofs.WholeLines.{shown_said, shown_read}
use Rattle.lexopt_line_spec.proofs.SpellerAnswers.{Adding, none_is}
use Rattle.lexopt_line_spec.proofs.SpellerSound.{spelled_spells}
use Rattle.lexopt_line_spec.proofs.SpellerPlaces.{Can, nil_can, can_cons, can_split, adds_too, changed_can, due_positional, not_joined}
use Rattle.lexopt_line_spec.proofs.SpellerComplete.{shown_can}
use Rattle.lexopt_line_spec.proofs.SpellerAgrees.{are_words, fault_is}

-- ---- items that are spelled, and items that are not

abbrev pub Failing : Result Rest Fault → Fault → Type 0
Failing answer f = answer ≡ Err f

abbrev Answering : Result (List (List ℕ)) Fault → Fault → Type 0
Answering answer f = answer ≡ Err f

pub no_both : {X : Type 0} (t : Table) (short_equals : Bool) (items : List Item) (place : Place) (f : Fault) → spelled_from t short_equals items place ≡ Err f → Can t short_equals items place → X
no_both t short_equals items place f fails can = none_is f can.0 (sym fails ∙ can.1)

no_added : {X : Type 0} (r : Reason) (a : Added) (answer : Result Added Reason) → answer ≡ Err r → answer ≡ Ok a → X
no_added r a answer err ok = none_is r a (sym err ∙ ok)

pub same_added : (a b : Added) (answer : Result Added Reason) → answer ≡ Ok a → answer ≡ Ok b → a ≡ b
same_added a b answer one two = let e : Adding (Ok a) b = sym one ∙ two in cc

abbrev pub SomeWords : Table → Bool → List Item → Type 0
SomeWords t short_equals items = (words : List (List ℕ)) × (spelled t short_equals items ≡ Ok words)

pub can_words : (t : Table) (short_equals : Bool) (items : List Item) → Can t short_equals items open_line → SomeWords t short_equals items
can_words t short_equals items can = (can.0.words, ap words_or_fault can.1)

pub shown_words : (t : Table) (short_equals : Bool) (words : List (List ℕ)) (items : List Item) → Shows t short_equals words items → SomeWords t short_equals items
shown_words t short_equals words items shows = can_words t short_equals items (shown_can t short_equals words items shows)

pub shown_spelled : (t : Table) (short_equals : Bool) (words : List (List ℕ)) (items : List Item) → Shows t short_equals words items
    → (others : List (List ℕ)) × Spells t short_equals others items
shown_spelled t short_equals words items shows =
    let some = shown_words t short_equals words items shows in (some.0, spelled_spells t short_equals items some.0 some.1)

pub spells_can : (t : Table) (short_equals : Bool) (words : List (List ℕ)) (items : List Item) → Spells t short_equals words items → Can t short_equals items open_line
spells_can t short_equals words items spells = shown_can t short_equals words items (spelled_shows t short_equals words items spells)

-- ---- fronts of items

all_take : (p : Item → Bool) (n : ℕ) (items : List Item) → list_all p items ≡ true → list_all p (take n items) ≡ true
all_take p zero items all = refl
all_take p (suc n) [] all = refl
all_take p (suc n) (item ∷ items) all =
    let parts = and_parts (p item) (list_all p items) all in and_from (p item) (list_all p (take n items)) parts.0 (all_take p n items parts.1)

not_all : (n : ℕ) (items : List Item) → not (list_all is_positional (take n items)) ≡ true → not (list_all is_positional items) ≡ true
not_all n items is = by (list_all is_positional items) refl
  where
    by : (b : Bool) → list_all is_positional items ≡ b → not b ≡ true
    by true all = absurd (true≢false (sym is ∙ ap not (all_take is_positional n items all)))
    by false all = refl

early_take : (n : ℕ) (items : List Item) → separator_comes_too_early (take n items) ≡ true → separator_comes_too_early items ≡ true
early_take zero items is = absurd (true≢false (sym is))
early_take (suc n) [] is = is
early_take (suc n) (item ∷ items) is =
    let parts = and_parts (is_positional item) (not (list_all is_positional (take n items))) is in
    and_from (is_positional item) (not (list_all is_positional items)) parts.0 (not_all n items parts.1)

-- if all items can be spelled, so can each front of them
front_can : (t : Table) (short_equals : Bool) (items : List Item) (m n : ℕ) (place : Place) → m ≤ n → Can t short_equals (take n items) place → Can t short_equals (take m items) place
front_can t short_equals items zero n place le can = nil_can t short_equals place
front_can t short_equals items (suc m) zero place le can = absurd (omega arith)
front_can t short_equals [] (suc m) (suc n) place le can = nil_can t short_equals place
front_can t short_equals (item ∷ items) (suc m) (suc n) place le can =
    let s = can_split t short_equals place item (take n items) can in
    can_cons t short_equals (separator_comes_too_early (take n items)) (separator_is_due (take n items)) place item (take m items) s.0 s.1 (front_can t short_equals items m n s.0.place (omega arith) s.2)

-- ---- the first item that is not spelled

record AtFault (t : Table) (short_equals : Bool) (items : List Item) (place : Place) (i : ℕ) : Type 0 where
  within : i < length items
  before : Can t short_equals (take i items) place
  none : ¬ Can t short_equals (take (suc i) items) place

pub data Fails (t : Table) (short_equals : Bool) (place : Place) (item : Item) (items : List Item) (f : Fault) : Type 0 where
  here : (r : Reason) → adds t short_equals (separator_comes_too_early items) (separator_is_due items) place item ≡ Err r → f.index ≡ 0 → Fails t short_equals place item items f
  later : (a : Added) (g : Fault) → adds t short_equals (separator_comes_too_early items) (separator_is_due items) place item ≡ Ok a → spelled_from t short_equals items a.place ≡ Err g
      → f.index ≡ suc g.index → Fails t short_equals place item items f

fails_later : (t : Table) (short_equals : Bool) (place : Place) (item : Item) (items : List Item) (f : Fault) (a : Added) (rest : Result Rest Fault)
    → adds t short_equals (separator_comes_too_early items) (separator_is_due items) place item ≡ Ok a → spelled_from t short_equals items a.place ≡ rest → Failing (with_rest a rest) f
    → Fails t short_equals place item items f
fails_later t short_equals place item items f a (Ok r) added_is rest_is is = none_is f _ (sym is)
fails_later t short_equals place item items f a (Err g) added_is rest_is is =
    let e : record { index = suc g.index; reason = g.reason } ≡ f = (let h : Failing (Err (record { index = suc g.index; reason = g.reason })) f = is in cc) in
    later a g added_is rest_is (sym (ap (λ (x : Fault). x.index) e))

fails_by : (t : Table) (short_equals : Bool) (place : Place) (item : Item) (items : List Item) (f : Fault) (o : Result Added Reason)
    → adds t short_equals (separator_comes_too_early items) (separator_is_due items) place item ≡ o → Failing (with_rests o (spelled_from t short_equals items)) f → Fails t short_equals place item items f
fails_by t short_equals place item items f (Err r) added_is is =
    let e : record { index = 0; reason = r } ≡ f = (let h : Failing (Err (record { index = 0; reason = r })) f = is in cc) in
    here r added_is (sym (ap (λ (x : Fault). x.index) e))
fails_by t short_equals place item items f (Ok a) added_is is = fails_later t short_equals place item items f a (spelled_from t short_equals items a.place) added_is refl is

pub fails : (t : Table) (short_equals : Bool) (place : Place) (item : Item) (items : List Item) (f : Fault) → spelled_from t short_equals (item ∷ items) place ≡ Err f
    → Fails t short_equals place item items f
unfolding spelled_from
fails t short_equals place item items f is = fails_by t short_equals place item items f (adds t short_equals (separator_comes_too_early items) (separator_is_due items) place item) refl is

-- with fewer items after it, the item leads to a place from which no more items can be spelled
cannot : (t : Table) (short_equals : Bool) (place : Place) (item : Item) (items : List Item) (n : ℕ) (a : Added) → adds t short_equals (separator_comes_too_early items) (separator_is_due items) place item ≡ Ok a
    → ¬ Can t short_equals (take n items) a.place → ¬ Can t short_equals (item ∷ take n items) place
cannot t short_equals place item items n a is none can =
    let front = take n items in
    let s = can_split t short_equals place item front can in
    let x = separator_comes_too_early front in
    let y = separator_comes_too_early items in
    let too = adds_too t short_equals x y (separator_is_due front) (separator_is_due items) place item s.0 s.1 in
    none (subst (λ (b : Added). Can t short_equals front b.place) (sym (same_added a too.0 _ is too.1))
    (changed_can t short_equals (short_equals && x) (separator_is_due items) front (short_equals && y) s.0.place too.0.place
    (λ on off. absurd (true≢false (sym (early_take n items (and_parts short_equals x on).1) ∙ not_joined short_equals x y on off)))
    (λ due. all_take is_positional n items (due_positional items due)) too.2 s.2))

abbrev Faults : Table → Bool → List Item → Type 0
Faults t short_equals items = (place : Place) (f : Fault) → spelled_from t short_equals items place ≡ Err f → AtFault t short_equals items place f.index

first_fault : (t : Table) (short_equals : Bool) (place : Place) (item : Item) (items : List Item) (f : Fault) → Faults t short_equals items → Fails t short_equals place item items f
    → AtFault t short_equals (item ∷ items) place f.index
first_fault t short_equals place item items f later_too (here r err first) = subst (AtFault t short_equals (item ∷ items) place) (sym first) (record {
  within = omega arith;
  before = nil_can t short_equals place;
  none = λ can.
      let s = can_split t short_equals place item [] can in
      let too = adds_too t short_equals false (separator_comes_too_early items) false (separator_is_due items) place item s.0 s.1 in no_added r too.0 _ err too.1;
})
first_fault t short_equals place item items f later_too (later a g added_is rest_is index) =
    let more = later_too a.place g rest_is in
    subst (AtFault t short_equals (item ∷ items) place) (sym index) (record {
      within = omega (arith, more.within);
      before = can_cons t short_equals (separator_comes_too_early items) (separator_is_due items) place item (take g.index items) a added_is more.before;
      none = cannot t short_equals place item items (suc g.index) a added_is more.none;
    })

faults : (t : Table) (short_equals : Bool) (items : List Item) → Faults t short_equals items
faults t short_equals [] = λ place f is. no_both t short_equals [] place f is (nil_can t short_equals place)
faults t short_equals (item ∷ items) = λ place f is. first_fault t short_equals place item items f (faults t short_equals items) (fails t short_equals place item items f is)

pub from_words : (o : Result Rest Fault) (f : Fault) → Answering (words_or_fault o) f → Failing o f
from_words (Err g) f is = let e : g ≡ f = cc in ap (λ (x : Fault). Err x) e
from_words (Ok r) f is = none_is f r.words (sym is)

pub named_at_fault : (t : Table) (short_equals : Bool) (items : List Item) (f : Fault) → spelled t short_equals items ≡ Err f → IsAtFault t short_equals items f.index
named_at_fault t short_equals items f is =
    let fault = faults t short_equals items open_line f (from_words (spelled_from t short_equals items open_line) f is) in
    let front = can_words t short_equals (take f.index items) fault.before in
    record {
      within = fault.within;
      before = (front.0, spelled_spells t short_equals (take f.index items) front.0 front.1);
      none = λ words spells. fault.none (spells_can t short_equals words (take (suc f.index) items) spells);
    }

-- ---- if one item is at fault, no words spell the items

front_spells : (t : Table) (short_equals : Bool) (items : List Item) (m n : ℕ) (words : List (List ℕ)) → m ≤ n → Spells t short_equals words (take n items)
    → (others : List (List ℕ)) × Spells t short_equals others (take m items)
front_spells t short_equals items m n words le spells =
    let some = can_words t short_equals (take m items) (front_can t short_equals items m n open_line le (spells_can t short_equals words (take n items) spells)) in
    (some.0, spelled_spells t short_equals (take m items) some.0 some.1)

pub fault_none : (t : Table) (short_equals : Bool) (items : List Item) (i : ℕ) (words : List (List ℕ)) → IsAtFault t short_equals items i → ¬ Spells t short_equals words items
fault_none t short_equals items i words fault spells =
    let within = fault.within in
    let front = front_spells t short_equals items (suc i) (length items) words (omega arith) (subst (Spells t short_equals words) (sym (take-length items)) spells) in
    fault.none front.0 front.1

no_later : (t : Table) (short_equals : Bool) (items : List Item) (i j : ℕ) → i < j → IsAtFault t short_equals items i → IsAtFault t short_equals items j → ⊥
no_later t short_equals items i j lt first other =
    let front = front_spells t short_equals items (suc i) j other.before.0 (omega arith) other.before.1 in first.none front.0 front.1

pub same_fault : (t : Table) (short_equals : Bool) (items : List Item) (i j : ℕ) → IsAtFault t short_equals items i → IsAtFault t short_equals items j → i ≡ j
same_fault t short_equals items i j first other = ⊎_elim
    (λ (lt : i < j). absurd (no_later t short_equals items i j lt first other))
    (λ (ge : j ≤ i). ⊎_elim
    (λ (lt : j < i). absurd (no_later t short_equals items j i lt other first))
    (λ (le : i ≤ j). omega arith)
    (cases_lt j i))
    (cases_lt i j)

-- ---- the words that are spelled are read back

pub words_read : (t : Table) (short_equals : Bool) (words : List (List ℕ)) (items : List Item) → Spells t short_equals words items → IsReading t (start short_equals words) end items
words_read t short_equals words items spells = shown_read t short_equals words items (spelled_shows t short_equals words items spells)

pub words_said : (t : Table) (short_equals : Bool) (words : List (List ℕ)) (items m : List Item) (final : Reply) → Spells t short_equals words items
    → IsReading t (start short_equals words) final m → (final ≡ end) × (items ≡ m)
words_said t short_equals words items m final spells reading = shown_said t short_equals words items m final (spelled_shows t short_equals words items spells) reading

-- ---- the words and the fault by the rows

pub shown_as : (t : Table) (short_equals : Bool) (words : List (List ℕ)) (items : List Item) → Shows t short_equals words items
    → (others : List (List ℕ)) × SpelledAs t short_equals items others
shown_as t short_equals words items shows =
    let some = shown_words t short_equals words items shows in (some.0, are_words t short_equals items some.0 some.1)

pub fault_named : (t : Table) (short_equals : Bool) (items : List Item) (f : Fault) → HasFault t short_equals items f → IsAtFault t short_equals items f.index
fault_named t short_equals items f is = named_at_fault t short_equals items f (fault_is t short_equals items f is)
