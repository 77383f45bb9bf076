-- Items that the same words spell under both settings of `short_equals` have the same form under
-- both.
use Rattle.std.proofs.Common.{◌≡◌, ◌≢◌, ℕ, ◌==◌, ◌||◌, not, Bool, true, false, List, [], ◌∷◌, ◌++◌, length, map, Option, Some, None, refl, sym, ap, subst, ◌∙◌, arith, true≢false}
use Rattle.std.proofs.lemmas.Bool.{ne_eqb}
use Rattle.std.proofs.lemmas.List.{append_cancel_left}
use Rattle.std.proofs.lemmas.List.Folds.{list_any-append}
use Rattle.std.proofs.lemmas.Str.{encode_same}
use Rattle.std.specs.Prelude.{Result, Ok, Err}
use Rattle.std.specs.List.{Contains}
use lib.Utf8.{scalar}
use Rattle.lexopt_spec.specs.UnreadLine.{dash, equals, BeginsWith, IsPlain, is_plain}
use Rattle.lexopt_line_spec.specs.Table.{Name, short, long, Item, option, many, positional, Kind, flag, one, optional, several, kind, Table}
use Rattle.lexopt_line_spec.specs.Spelling as spelling
use Rattle.lexopt_line_spec.specs.Spelling.{exact, After, nothing, attached, joined, NoValue, no_value, attached_value, joined_value, next_word, OptionalValue, no_optional, attached_optional, joined_optional, joined_several, attached_several, several_words, Completes, IsAfterLast, nothing_more, a_value, marked_value, Cluster, flag_first, last_option, IsLong, name_alone, name_and_value, Group, cluster, Line, no_words, plain_word, group, separator, Spells}
use Rattle.lexopt_line_spec.specs.Speller.{SpelledAs, Reason, Place, after_values, open_line}
use Rattle.lexopt_line_spec.proofs.SpellerFaults.{shown_as}
use Rattle.lexopt_line_spec.proofs.SpellerTables.{short_form, short_many_form, Added, short_added, adds, separator_comes_too_early, separator_is_due, with_rest, with_rests, spelled_from, words_or_fault, spelled}
use Rattle.lexopt_line_spec.proofs.Names.{spelled_shows}
use Rattle.lexopt_line_spec.proofs.SpellerTests.{has_equals, none_passes, some_bytes}
use Rattle.lexopt_line_spec.proofs.SpellerPlaces.{Can, can_split, ended_positional, words_place, short_through}
use Rattle.lexopt_line_spec.proofs.SpellerComplete.{shown_can}
use Rattle.lexopt_line_spec.proofs.SpellerAgrees.{are_words, words_are}
use Rattle.lexopt_line_spec.proofs.SpellerSound.{not_plain}

-- ---- items whose values have one form

-- the value of a short option has the same form under both settings
abbrev SameForm : Kind → Option (List ℕ) → Type 0
SameForm k value = short_form true k value ≡ short_form false k value

-- the same for this item, if it is such an option
abbrev SameItem : Table → Item → Type 0
SameItem t (option (short c) value) = SameForm (kind t (short c)) value
SameItem t (option (long name) value) = Unit {0}
SameItem t (many name values) = Unit {0}
SameItem t (positional w) = Unit {0}

abbrev SameItems : Table → List Item → Type 0
SameItems t [] = Unit {0}
SameItems t (item ∷ items) = SameItem t item × SameItems t items

-- ---- such items are spelled in the same way

-- the place after an item, if it is added
abbrev place_of : Result Added Reason → Place
place_of (Err reason) = open_line
place_of (Ok a) = a.place

-- items before which the separator comes too early are not spelled after values in words
none_early : {X : Type 0} (t : Table) (short_equals : Bool) (items : List Item) → separator_comes_too_early items ≡ true → Can t short_equals items after_values → X
none_early t short_equals [] early can = absurd (true≢false (sym early))
none_early t short_equals (option name value ∷ items) early can = absurd (true≢false (sym early))
none_early t short_equals (many name values ∷ items) early can = absurd (true≢false (sym early))
none_early t short_equals (positional w ∷ items) early can =
    let s = can_split t short_equals after_values (positional w) items can in
    let all = ended_positional t short_equals items (subst (Can t short_equals items) (sym (ap place_of s.1)) s.2) in
    absurd (true≢false (sym early ∙ ap not all))

-- so several values have one form, if the items after them are spelled with `short_equals` false
many_form_same : (t : Table) (c : ℕ) (place : Place) (values : List (List ℕ)) (items : List Item) (a : Added) (k : Kind) (early : Bool)
    → separator_comes_too_early items ≡ early → short_added (scalar c) (c == dash) place c (short_many_form false k values) ≡ Ok a → Can t false items a.place
    → short_many_form early k values ≡ short_many_form false k values
many_form_same t c place values items a k false early_is is can = refl
many_form_same t c place values items a flag true early_is is can = refl
many_form_same t c place values items a one true early_is is can = refl
many_form_same t c place values items a optional true early_is is can = refl
many_form_same t c place [] items a several true early_is is can = refl
many_form_same t c place (v ∷ w ∷ vs) items a several true early_is is can = refl
many_form_same t c place (v ∷ []) items a several true early_is is can =
    let th = short_through (scalar c) (c == dash) place c (short_many_form false several (v ∷ [])) a is in
    none_early t false items early_is (subst (Can t false items) (th.leads ∙ words_place (is_plain false v) v th.formed th.is) can)

item_same : (t : Table) (place : Place) (item : Item) (items : List Item) (due : Bool) (a : Added) → SameItem t item
    → adds t false (separator_comes_too_early items) due place item ≡ Ok a → Can t false items a.place
    → adds t true (separator_comes_too_early items) due place item ≡ adds t false (separator_comes_too_early items) due place item
item_same t place (option (short c) value) items due a same is can = ap (short_added (scalar c) (c == dash) place c) same
item_same t place (option (long name) value) items due a same is can = refl
item_same t place (many (short c) values) items due a same is can =
    ap (short_added (scalar c) (c == dash) place c) (many_form_same t c place values items a (kind t (short c)) (separator_comes_too_early items) refl is can)
item_same t place (many (long name) values) items due a same is can = refl
item_same t place (positional w) items due a same is can = refl

from_same : (t : Table) (items : List Item) (place : Place) → SameItems t items → Can t false items place → spelled_from t true items place ≡ spelled_from t false items place
unfolding spelled_from
from_same t [] place same can = refl
from_same t (item ∷ items) place same can =
    let s = can_split t false place item items can in
    ap (λ o. with_rests o (spelled_from t true items)) (item_same t place item items (separator_is_due items) s.0 same.0 s.1 s.2 ∙ s.1)
    ∙ ap (with_rest s.0) (from_same t items s.0.place same.1 s.2)
    ∙ sym (ap (λ o. with_rests o (spelled_from t false items)) s.1)

-- ---- the words that an option takes

-- the option of an item
abbrev name_of : Item → Option Name
name_of (option name value) = Some name
name_of (many name values) = Some name
name_of (positional w) = None

-- nothing comes after the option in its word
abbrev is_bare : After → Bool
is_bare nothing = true
is_bare (attached v) = false
is_bare (joined v) = false

-- the words that an option takes after its own, for this item, by whether it is bare
abbrev taken : Kind → Bool → Item → List (List ℕ)
taken one true (option name (Some v)) = v ∷ []
taken several true (many name values) = values
taken several false (many name (v ∷ vs)) = vs
taken k bare item = []

record Takes (k : Kind) (name : Name) (bare : Bool) (words : List (List ℕ)) (item : Item) (left : List (List ℕ)) : Type 0 where
  named : name_of item ≡ Some name
  words_are : words ≡ taken k bare item ++ left

takes_as : (k : Kind) (name : Name) (bare : Bool) (after : After) (words : List (List ℕ)) (item known : Item) (left : List (List ℕ)) → is_bare after ≡ bare → item ≡ known
    → Takes k name bare words known left → Takes k name (is_bare after) words item left
takes_as k name bare after words item known left b i h =
    subst (λ (x : Bool). Takes k name x words item left) (sym b) (subst (λ (x : Item). Takes k name bare words x left) (sym i) h)

takes : (k : Kind) (name : Name) (after : After) (words : List (List ℕ)) (item : Item) (left : List (List ℕ)) → Completes k name after words item left
    → Takes k name (is_bare after) words item left
takes flag name after words item left (no_value b i l) = takes_as flag name true after words item _ left (ap is_bare b) i (record { named = refl; words_are = sym l })
takes one name after words item left (attached_value v b i l) = takes_as one name false after words item _ left (ap is_bare b) i (record { named = refl; words_are = sym l })
takes one name after words item left (joined_value v b i l) = takes_as one name false after words item _ left (ap is_bare b) i (record { named = refl; words_are = sym l })
takes one name after words item left (next_word w b i l) = takes_as one name true after words item _ left (ap is_bare b) i (record { named = refl; words_are = sym l })
takes optional name after words item left (no_optional b i l) = takes_as optional name true after words item _ left (ap is_bare b) i (record { named = refl; words_are = sym l })
takes optional name after words item left (attached_optional v b i l) =
    takes_as optional name false after words item _ left (ap is_bare b) i (record { named = refl; words_are = sym l })
takes optional name after words item left (joined_optional v b i l) =
    takes_as optional name false after words item _ left (ap is_bare b) i (record { named = refl; words_are = sym l })
takes several name after words item left (joined_several v b i l) =
    takes_as several name false after words item _ left (ap is_bare b) i (record { named = refl; words_are = sym l })
takes several name after words item left (attached_several v front b g i) =
    takes_as several name false after words item _ left (ap is_bare b) i (record { named = refl; words_are = g.words_are })
takes several name after words item left (several_words front b g some i) =
    takes_as several name true after words item _ left (ap is_bare b) i (record { named = refl; words_are = g.words_are })

-- so the same item leaves the same words
same_left : (k : Kind) (name : Name) (after other : After) (words : List (List ℕ)) (item : Item) (left rest : List (List ℕ)) → is_bare after ≡ is_bare other
    → Completes k name after words item left → Completes k name other words item rest → left ≡ rest
same_left k name after other words item left rest bare first second =
    let one_way = takes k name after words item left first in
    let other_way = takes k name other words item rest second in
    append_cancel_left (taken k (is_bare after) item) left rest
    (sym one_way.words_are ∙ other_way.words_are ∙ ap (λ b. taken k b item ++ rest) (sym bare))

-- ---- the last option of a cluster

abbrev is_none : List ℕ → Bool
is_none [] = true
is_none (b ∷ bs) = false

some_none : (bytes : List ℕ) → bytes ≢ [] → is_none bytes ≡ false
some_none [] some = absurd (some refl)
some_none (b ∷ bs) some = refl

bare_last : (short_equals : Bool) (bytes : List ℕ) (after : After) → IsAfterLast short_equals bytes after → is_bare after ≡ is_none bytes
bare_last short_equals bytes after (nothing_more none b) = ap is_bare b ∙ sym (ap is_none none)
bare_last short_equals bytes after (a_value some mark b) = ap is_bare b ∙ sym (some_none bytes some)
bare_last short_equals bytes after (marked_value v on is b) = ap is_bare b ∙ sym (ap is_none is)

not_longer : (b : ℕ) (bs : List ℕ) → bs ≢ b ∷ bs
not_longer b bs is = let e : length bs ≡ length (b ∷ bs) = ap length is in omega arith

-- with `short_equals` true, the bytes of a value do not begin with a `=` that is a mark
unmarked : (name : Name) (bytes : List ℕ) (after : After) (words left : List (List ℕ)) (item : Item) → bytes ≢ [] → item ≡ option name (Some bytes)
    → IsAfterLast true bytes after → OptionalValue name after words item left → ¬ BeginsWith equals bytes
unmarked name bytes after words left item some is (nothing_more none b) h = absurd (some none)
unmarked name bytes after words left item some is (a_value more mark b) h = λ begins. mark (refl, begins)
unmarked name bytes after words left item some is (marked_value v on bytes_are b) (no_optional c i l) = absurd (let e : nothing ≡ joined v = sym c ∙ b in cc)
unmarked name bytes after words left item some is (marked_value v on bytes_are b) (attached_optional w c i l) = absurd (let e : attached w ≡ joined v = sym c ∙ b in cc)
unmarked name bytes after words left item some is (marked_value v on bytes_are b) (joined_optional w c i l) =
    let same : joined w ≡ joined v = sym c ∙ b in
    let one_value : w ≡ v = cc in
    let items_are : option name (Some w) ≡ option name (Some bytes) = sym i ∙ is in
    let whole : w ≡ bytes = cc in
    absurd (not_longer equals v (sym one_value ∙ whole ∙ bytes_are))

value_same : (bytes : List ℕ) → bytes ≢ [] → ¬ BeginsWith equals bytes → SameForm optional (Some bytes)
value_same [] some other = absurd (some refl)
value_same (b ∷ bs) some other = let e = ne_eqb b equals other in rw e refl

-- the same value, read from the same bytes under both settings, has the same form
optional_same : (name : Name) (bytes : List ℕ) (after other : After) (words left rest : List (List ℕ)) (item : Item) → IsAfterLast true bytes after → IsAfterLast false bytes other
    → OptionalValue name after words item left → OptionalValue name other words item rest → (value : Option (List ℕ)) × (item ≡ option name value) × SameForm optional value
optional_same name bytes after other words left rest item last last_off first (no_optional b i l) = (None, i, refl)
optional_same name bytes after other words left rest item last (nothing_more none c) first (attached_optional v b i l) = absurd (let e : attached v ≡ nothing = sym b ∙ c in cc)
optional_same name bytes after other words left rest item last (a_value some mark c) first (attached_optional v b i l) =
    let same : attached v ≡ attached bytes = sym b ∙ c in
    let whole : v ≡ bytes = cc in
    let item_is : item ≡ option name (Some bytes) = i ∙ ap (λ x. option name (Some x)) whole in
    (Some bytes, item_is, value_same bytes some (unmarked name bytes after words left item some item_is last first))
optional_same name bytes after other words left rest item last (marked_value w on is c) first (attached_optional v b i l) = absurd (true≢false (sym on))
optional_same name bytes after other words left rest item last (nothing_more none c) first (joined_optional v b i l) = absurd (let e : joined v ≡ nothing = sym b ∙ c in cc)
optional_same name bytes after other words left rest item last (a_value some mark c) first (joined_optional v b i l) = absurd (let e : joined v ≡ attached bytes = sym b ∙ c in cc)
optional_same name bytes after other words left rest item last (marked_value w on is c) first (joined_optional v b i l) = absurd (true≢false (sym on))

on_kind : (t : Table) (c : ℕ) (k : Kind) (value : Option (List ℕ)) (item : Item) → kind t (short c) ≡ k → item ≡ option (short c) value → SameForm k value → SameItem t item
on_kind t c k value item k_is i same = subst (SameItem t) (sym i) (subst (λ (x : Kind). SameForm x value) (sym k_is) same)

last_same : (t : Table) (c : ℕ) (k : Kind) (bytes : List ℕ) (after other : After) (words left rest : List (List ℕ)) (item : Item) → kind t (short c) ≡ k
    → IsAfterLast true bytes after → IsAfterLast false bytes other → Completes k (short c) after words item left → Completes k (short c) other words item rest → SameItem t item
last_same t c flag bytes after other words left rest item k last last_off first (no_value b i l) = on_kind t c flag _ item k i refl
last_same t c one bytes after other words left rest item k last last_off first (attached_value v b i l) = on_kind t c one _ item k i refl
last_same t c one bytes after other words left rest item k last last_off first (joined_value v b i l) = on_kind t c one _ item k i refl
last_same t c one bytes after other words left rest item k last last_off first (next_word v b i l) = on_kind t c one _ item k i refl
last_same t c optional bytes after other words left rest item k last last_off first second =
    let o = optional_same (short c) bytes after other words left rest item last last_off first second in on_kind t c optional o.0 item k o.1 o.2
last_same t c several bytes after other words left rest item k last last_off first (joined_several v b i l) = subst (SameItem t) (sym i) tt
last_same t c several bytes after other words left rest item k last last_off first (attached_several v front b g i) = subst (SameItem t) (sym i) tt
last_same t c several bytes after other words left rest item k last last_off first (several_words front b g some i) = subst (SameItem t) (sym i) tt

-- ---- clusters

-- a cluster has at least one byte
cluster_some : (t : Table) (short_equals : Bool) (words left : List (List ℕ)) (bytes : List ℕ) (items : List Item) → Cluster exact t short_equals words left bytes items → bytes ≢ []
cluster_some t short_equals words left bytes items (flag_first c character others more letter k mark spelled) =
    subst (λ (l : List ℕ). l ++ others ≢ []) (sym letter.1) (some_bytes c others letter.0)
cluster_some t short_equals words left bytes items (last_option c character others after item letter last completes) =
    subst (λ (l : List ℕ). l ++ others ≢ []) (sym letter.1) (some_bytes c others letter.0)

-- the last option of a cluster, if more bytes come after it, is not a flag
flag_alone : (t : Table) (short_equals : Bool) (c : ℕ) (bytes : List ℕ) (after : After) (words left : List (List ℕ)) (item : Item) → kind t (short c) ≡ flag → bytes ≢ []
    → IsAfterLast short_equals bytes after → ¬ Completes (kind t (short c)) (short c) after words item left
flag_alone t short_equals c bytes after words left item k some last completes =
    by (subst (λ (x : Kind). Completes x (short c) after words item left) k completes)
  where
    by : ¬ NoValue (short c) after words item left
    by (no_value b i l) = true≢false (sym (ap is_bare b) ∙ bare_last short_equals bytes after last ∙ some_none bytes some)

letters_same : (c d : ℕ) (character other after others : List ℕ) → exact.character c character after → exact.character d other others → character ++ after ≡ other ++ others
    → (c ≡ d) × (after ≡ others)
letters_same c d character other after others first second is =
    encode_same c d after others (ap (λ l. l ++ after) (sym first.1) ∙ is ∙ ap (λ l. l ++ others) second.1)

-- clusters of the same bytes, with the same words after them, where all items are the same: each
-- value has the same form, if those after the cluster have
cluster_same : (t : Table) (words left rest : List (List ℕ)) (bytes bytes_off : List ℕ) (front front_off items items_off : List Item)
    → Cluster exact t true words left bytes front → Cluster exact t false words rest bytes_off front_off → bytes ≡ bytes_off → front ++ items ≡ front_off ++ items_off
    → (left ≡ rest → items ≡ items_off → SameItems t items) → SameItems t (front ++ items)
cluster_same t words left rest bytes bytes_off front front_off items items_off
    (flag_first c character others more letter k mark spelled) (flag_first d character_off others_off more_off letter_off k_off mark_off spelled_off) bytes_are items_are later =
    let letters = letters_same c d character character_off others others_off letter letter_off bytes_are in
    let e : (more ++ items) ≡ (more_off ++ items_off) = cc in (
      subst (λ (x : Kind). SameForm x None) (sym k) refl,
      cluster_same t words left rest others others_off more more_off items items_off spelled spelled_off letters.1 e later,
    )
cluster_same t words left rest bytes bytes_off front front_off items items_off
    (flag_first c character others more letter k mark spelled) (last_option d character_off others_off after item letter_off last completes) bytes_are items_are later =
    let letters = letters_same c d character character_off others others_off letter letter_off bytes_are in
    absurd (flag_alone t false d others_off after words rest item (ap (λ x. kind t (short x)) (sym letters.0) ∙ k)
    (λ none. cluster_some t true words left others more spelled (letters.1 ∙ none)) last completes)
cluster_same t words left rest bytes bytes_off front front_off items items_off
    (last_option c character others after item letter last completes) (flag_first d character_off others_off more_off letter_off k_off mark_off spelled_off) bytes_are items_are later =
    let letters = letters_same c d character character_off others others_off letter letter_off bytes_are in
    absurd (flag_alone t true c others after words left item (ap (λ x. kind t (short x)) letters.0 ∙ k_off)
    (λ none. cluster_some t false words rest others_off more_off spelled_off (sym letters.1 ∙ none)) last completes)
cluster_same t words left rest bytes bytes_off front front_off items items_off
    (last_option c character others after item letter last completes) (last_option d character_off others_off after_off item_off letter_off last_off completes_off) bytes_are items_are later =
    let letters = letters_same c d character character_off others others_off letter letter_off bytes_are in
    let item_is : item ≡ item_off = cc in
    let items_is : items ≡ items_off = cc in
    let same_last = subst (λ (l : List ℕ). IsAfterLast false l after_off) (sym letters.1) last_off in
    let same_completes =
    subst (λ (x : ℕ). Completes (kind t (short x)) (short x) after_off words item rest) (sym letters.0)
    (subst (λ (x : Item). Completes (kind t (short d)) (short d) after_off words x rest) (sym item_is) completes_off) in (
      last_same t c (kind t (short c)) others after after_off words left rest item refl last same_last completes same_completes,
      later (same_left (kind t (short c)) (short c) after after_off words item left rest
          (bare_last true others after last ∙ sym (bare_last false others after_off same_last)) completes same_completes) items_is,
    )

-- ---- long options

-- nothing comes after a long option if the text has no `=`
bare_long : (text bytes : List ℕ) (after : After) → ¬ Contains bytes equals → IsLong text bytes after → is_bare after ≡ not (has_equals text)
bare_long text bytes after none (name_alone some is b) = ap is_bare b ∙ sym (ap (λ l. not (has_equals l)) is ∙ ap not (none_passes bytes none))
bare_long text bytes after none (name_and_value v is b) =
    ap is_bare b
    ∙ sym (ap (λ l. not (has_equals l)) is ∙ ap not (list_any-append (λ x. x == equals) bytes (equals ∷ v) ∙ ap (λ x. x || has_equals (equals ∷ v)) (none_passes bytes none)))

long_item : (t : Table) (name : List ℕ) (item : Item) → name_of item ≡ Some (long name) → SameItem t item
long_item t name (option (short c) value) named = absurd (let e : Some (short c) ≡ Some (long name) = named in cc)
long_item t name (option (long other) value) named = tt
long_item t name (many other values) named = tt
long_item t name (positional w) named = tt

same_name : (item : Item) (name other : List ℕ) → name_of item ≡ Some (long name) → name_of item ≡ Some (long other) → name ≡ other
same_name item name other one_way other_way = let e : Some (long name) ≡ Some (long other) = sym one_way ∙ other_way in cc

-- long options of the same text take as many words
long_same : (t : Table) (words left rest : List (List ℕ)) (text bytes bytes_off name name_off : List ℕ) (after after_off : After) (item : Item) (items : List Item)
    → IsLong text bytes after → IsLong text bytes_off after_off → ¬ Contains bytes equals → ¬ Contains bytes_off equals
    → Completes (kind t (long name)) (long name) after words item left → Completes (kind t (long name_off)) (long name_off) after_off words item rest
    → (left ≡ rest → SameItems t items) → SameItems t (item ∷ items)
long_same t words left rest text bytes bytes_off name name_off after after_off item items is is_off none none_off completes completes_off later =
    let named = (takes (kind t (long name)) (long name) after words item left completes).named in
    let same = same_name item name name_off named (takes (kind t (long name_off)) (long name_off) after_off words item rest completes_off).named in (
      long_item t name item named,
      later (same_left (kind t (long name)) (long name) after after_off words item left rest (bare_long text bytes after none is ∙ sym (bare_long text bytes_off after_off none_off is_off))
          completes (subst (λ (n : List ℕ). Completes (kind t (long n)) (long n) after_off words item rest) (sym same) completes_off)),
    )

-- ---- whole lines

-- the same for groups of the same words
group_same : (t : Table) (words words_off left rest : List (List ℕ)) (front front_off items items_off : List Item)
    → Group exact t true words front left → Group exact t false words_off front_off rest → words ≡ words_off → front ++ items ≡ front_off ++ items_off
    → (left ≡ rest → items ≡ items_off → SameItems t items) → SameItems t (front ++ items)
group_same t words words_off left rest front front_off items items_off (cluster bytes others are other spelled) (cluster bytes_off others_off are_off other_off spelled_off)
    words_are items_are later =
    let e : (dash ∷ bytes) ∷ others ≡ (dash ∷ bytes_off) ∷ others_off = sym are ∙ words_are ∙ are_off in
    let bytes_are : bytes ≡ bytes_off = cc in
    let others_are : others ≡ others_off = cc in
    cluster_same t others left rest bytes bytes_off front front_off items items_off spelled
    (subst (λ (l : List (List ℕ)). Cluster exact t false l rest bytes_off front_off) (sym others_are) spelled_off) bytes_are items_are later
group_same t words words_off left rest front front_off items items_off (cluster bytes others are other spelled)
    (spelling.long_option text_off bytes_off name_off after_off item_off others_off are_off is_off none_off letters_off completes_off front_off_is) words_are items_are later =
    let e : (dash ∷ bytes) ∷ others ≡ (dash ∷ dash ∷ text_off) ∷ others_off = sym are ∙ words_are ∙ are_off in
    let bytes_are : bytes ≡ dash ∷ text_off = cc in
    absurd (other (subst (BeginsWith dash) (sym bytes_are) refl))
group_same t words words_off left rest front front_off items items_off
    (spelling.long_option text bytes name after item others are is none letters completes front_is) (cluster bytes_off others_off are_off other_off spelled_off)
    words_are items_are later =
    let e : (dash ∷ dash ∷ text) ∷ others ≡ (dash ∷ bytes_off) ∷ others_off = sym are ∙ words_are ∙ are_off in
    let bytes_are : bytes_off ≡ dash ∷ text = cc in
    absurd (other_off (subst (BeginsWith dash) (sym bytes_are) refl))
group_same t words words_off left rest front front_off items items_off
    (spelling.long_option text bytes name after item others are is none letters completes front_is)
    (spelling.long_option text_off bytes_off name_off after_off item_off others_off are_off is_off none_off letters_off completes_off front_off_is) words_are items_are later =
    let e : (dash ∷ dash ∷ text) ∷ others ≡ (dash ∷ dash ∷ text_off) ∷ others_off = sym are ∙ words_are ∙ are_off in
    let text_is : text ≡ text_off = cc in
    let others_are : others ≡ others_off = cc in
    let all : item ∷ items ≡ item_off ∷ items_off = sym (ap (λ l. l ++ items) front_is) ∙ items_are ∙ ap (λ l. l ++ items_off) front_off_is in
    let item_is : item ≡ item_off = cc in
    let items_is : items ≡ items_off = cc in
    subst (λ (l : List Item). SameItems t (l ++ items)) (sym front_is)
    (long_same t others left rest text bytes bytes_off name name_off after after_off item items is (subst (λ (l : List ℕ). IsLong l bytes_off after_off) (sym text_is) is_off) none none_off
    completes
    (subst (λ (l : List (List ℕ)). Completes (kind t (long name_off)) (long name_off) after_off l item rest) (sym others_are)
    (subst (λ (x : Item). Completes (kind t (long name_off)) (long name_off) after_off others_off x rest) (sym item_is) completes_off))
    (λ left_is. later left_is items_is))

-- no group begins with a plain word
group_word : (t : Table) (short_equals : Bool) (all words left : List (List ℕ)) (w : List ℕ) (front : List Item) → Group exact t short_equals all front left → all ≡ w ∷ words → ¬ IsPlain false w
group_word t short_equals all words left w front (cluster bytes others are other spelled) is plain =
    let e : w ∷ words ≡ (dash ∷ bytes) ∷ others = sym is ∙ are in
    let word_is : w ≡ dash ∷ bytes = cc in
    not_plain bytes (cluster_some t short_equals others left bytes front spelled) (subst (IsPlain false) word_is plain)
group_word t short_equals all words left w front (spelling.long_option text bytes name after item others are text_is none letters completes front_is) is plain =
    let e : w ∷ words ≡ (dash ∷ dash ∷ text) ∷ others = sym is ∙ are in
    let word_is : w ≡ dash ∷ dash ∷ text = cc in
    not_plain (dash ∷ text) (λ nil. let f : dash ∷ text ≡ [] = nil in cc) (subst (IsPlain false) word_is plain)

positionals_same : (t : Table) (words : List (List ℕ)) → SameItems t (map positional words)
positionals_same t [] = tt
positionals_same t (w ∷ ws) = (tt, positionals_same t ws)

-- the same for lines of the same words and items
line_same : (t : Table) (words words_off : List (List ℕ)) (items items_off : List Item) → Line exact t true words items → Line exact t false words_off items_off → words ≡ words_off
    → items ≡ items_off → SameItems t items
line_same t words words_off items items_off no_words line_off words_are items_are = tt
line_same t words words_off items items_off (separator ws) line_off words_are items_are = positionals_same t ws
line_same t words words_off items items_off (plain_word w ws more plain line) no_words words_are items_are = absurd (let e : w ∷ ws ≡ [] = words_are in cc)
line_same t words words_off items items_off (plain_word w ws more plain line) (plain_word w_off ws_off more_off plain_off line_off) words_are items_are =
    let ws_are : ws ≡ ws_off = cc in
    let more_are : more ≡ more_off = cc in
    (tt, line_same t ws ws_off more more_off line line_off ws_are more_are)
line_same t words words_off items items_off (plain_word w ws more plain line) (group ws_off left_off front_off more_off first_off line_off) words_are items_are =
    absurd (group_word t false ws_off ws left_off w front_off first_off (sym words_are) plain)
line_same t words words_off items items_off (plain_word w ws more plain line) (separator ws_off) words_are items_are =
    subst (SameItems t) (sym items_are) (positionals_same t ws_off)
line_same t words words_off items items_off (group ws left front more first line) no_words words_are items_are = subst (SameItems t) (sym items_are) tt
line_same t words words_off items items_off (group ws left front more first line) (plain_word w_off ws_off more_off plain_off line_off) words_are items_are =
    absurd (group_word t true ws ws_off left w_off front first words_are plain_off)
line_same t words words_off items items_off (group ws left front more first line) (group ws_off left_off front_off more_off first_off line_off) words_are items_are =
    group_same t ws ws_off left left_off front front_off more more_off first first_off words_are items_are
    (λ left_is more_are. line_same t left left_off more more_off line line_off left_is more_are)
line_same t words words_off items items_off (group ws left front more first line) (separator ws_off) words_are items_are =
    subst (SameItems t) (sym items_are) (positionals_same t ws_off)

-- ---- one form

pub settings_same : (t : Table) (words : List (List ℕ)) (items : List Item) → Spells t true words items → Spells t false words items
    → (others : List (List ℕ)) × SpelledAs t true items others × SpelledAs t false items others
settings_same t words items on off =
    let shows = spelled_shows t false words items off in
    let same = ap words_or_fault (from_same t items open_line (line_same t words words items items on off refl refl) (shown_can t false words items shows)) in
    let some = shown_as t false words items shows in
    (some.0, are_words t true items some.0 (same ∙ words_are t false items some.0 some.1), some.1)
