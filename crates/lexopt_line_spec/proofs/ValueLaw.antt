-- The items that a line shows after an option of one value, and those that it shows after `value`.
use Rattle.std.proofs.Common.{◌≡◌, ◌↔◌, ℕ, Bool, true, false, List, [], ◌∷◌, Option, Some, None, refl, sym, ap, subst, ◌∙◌}
use Rattle.lexopt_spec.specs.UnreadLine.{Tail, no_tail, joined, rest, LastOption, UnreadLine, pending, spelling, IsLine, TailFits}
use Rattle.lexopt_spec.specs.Steps.{Reply, taken, missing, ValueStep, pending_value, takes_word, nothing_to_take}
use Rattle.lexopt_line_spec.specs.Table.{Name, Item, option, Kind, one, kind, Table}
use Rattle.lexopt_line_spec.specs.Spelling as spelling
use Rattle.lexopt_line_spec.specs.Spelling.{After, nothing, attached, Completes, OneValue, attached_value, joined_value, next_word}
use Rattle.lexopt_line_spec.proofs.HandedItems.{is_some_rest}
use Rattle.lexopt_line_spec.proofs.Unread.{PartsShow, after_of, ShowsAfter, ValueShows}
use Rattle.lexopt_line_spec.proofs.Exact.{value_same}

-- the value of an option is the one in its own word, if there is one
own_value : (name : Name) (after : After) (words left : List (List ℕ)) (item : Item) (value : List ℕ) (by : Bool)
    → after ≡ after_of (Some (value, by)) → OneValue name after words item left → (item ≡ option name (Some value)) × (left ≡ words)
own_value name after words left item value true is (attached_value v b i l) = absurd (let e : spelling.joined value ≡ attached v = sym is ∙ b in cc)
own_value name after words left item value false is (attached_value v b i l) =
    let e : attached value ≡ attached v = sym is ∙ b in let same : v ≡ value = cc in (i ∙ ap (λ x. option name (Some x)) same, l)
own_value name after words left item value true is (joined_value v b i l) =
    let e : spelling.joined value ≡ spelling.joined v = sym is ∙ b in let same : v ≡ value = cc in (i ∙ ap (λ x. option name (Some x)) same, l)
own_value name after words left item value false is (joined_value v b i l) = absurd (let e : attached value ≡ spelling.joined v = sym is ∙ b in cc)
own_value name after words left item value true is (next_word w b i l) = absurd (let e : spelling.joined value ≡ nothing = sym is ∙ b in cc)
own_value name after words left item value false is (next_word w b i l) = absurd (let e : attached value ≡ nothing = sym is ∙ b in cc)

with_value : (name : Name) (words : List (List ℕ)) (value : List ℕ) (by : Bool)
    → OneValue name (after_of (Some (value, by))) words (option name (Some value)) words
with_value name words value true = joined_value value refl refl refl
with_value name words value false = attached_value value refl refl refl

-- the value of an option without a value in its own word is the next word
other_value : (name : Name) (words left : List (List ℕ)) (item : Item)
    → OneValue name nothing words item left → (w : List ℕ) × (item ≡ option name (Some w)) × (w ∷ left ≡ words)
other_value name words left item (attached_value v b i l) = absurd (let e : nothing ≡ attached v = b in cc)
other_value name words left item (joined_value v b i l) = absurd (let e : nothing ≡ spelling.joined v = b in cc)
other_value name words left item (next_word w b i l) = (w, i, l)

-- the option is of the kind with one value
is_one : (t : Table) (name : Name) (after : After) (words : List (List ℕ)) (item : Item) (left : List (List ℕ)) → kind t name ≡ one
    → Completes (kind t name) name after words item left → OneValue name after words item left
is_one t name after words item left k completes = subst (λ (x : Kind). Completes x name after words item left) k completes

one_is : (t : Table) (name : Name) (after : After) (words : List (List ℕ)) (item : Item) (left : List (List ℕ)) → kind t name ≡ one
    → OneValue name after words item left → Completes (kind t name) name after words item left
one_is t name after words item left k completes = subst (λ (x : Kind). Completes x name after words item left) (sym k) completes

-- ---- one result

abbrev ValueLaw : Table → Name → UnreadLine → Reply → UnreadLine → Type 0
ValueLaw t name u r v = (items : List Item) → ShowsAfter t name u items ↔ ValueShows t name r v items

abbrev Answer : Table → Name → UnreadLine → Type 0
Answer t name u = (r : Reply) × (v : UnreadLine) × ValueStep u r v × ValueLaw t name u r v

own_law : (t : Table) (name : Name) (u : UnreadLine) (value : List ℕ) (by : Bool) → kind t name ≡ one → pending u ≡ Some (value, by)
    → ValueLaw t name u (taken value) (record u { tail = no_tail })
own_law t name u value by k is items = (
  λ s.
      let own = own_value name (after_of (pending u)) u.words s.left s.item value by (ap after_of is) (is_one t name (after_of (pending u)) u.words s.item s.left k s.completes) in
      record {
        others = s.others;
        shows = subst (λ (ws : List (List ℕ)). PartsShow t u.short_equals no_tail u.ended ws s.others) own.1 s.line;
        items_are = s.items_are ∙ ap (λ x. x ∷ s.others) own.0;
      },
  λ l. record {
    left = u.words;
    item = option name (Some value);
    others = l.others;
    completes = one_is t name (after_of (pending u)) u.words (option name (Some value)) u.words k
        (subst (λ (p : Option (List ℕ × Bool)). OneValue name (after_of p) u.words (option name (Some value)) u.words) (sym is) (with_value name u.words value by));
    line = l.shows;
    items_are = l.items_are;
  },
)

word_law : (t : Table) (name : Name) (ended : Bool) (last : LastOption) (short_equals : Bool) (bin : Option (List ℕ)) (w : List ℕ) (ws : List (List ℕ)) → kind t name ≡ one
    → ValueLaw t name (record { tail = no_tail; words = w ∷ ws; ended = ended; last = last; short_equals = short_equals; bin_name = bin }) (taken w)
    (record { tail = no_tail; words = ws; ended = ended; last = last; short_equals = short_equals; bin_name = bin })
word_law t name ended last short_equals bin w ws k items = (
  λ s.
      let other = other_value name (w ∷ ws) s.left s.item (is_one t name nothing (w ∷ ws) s.item s.left k s.completes) in
      let word : other.0 ≡ w = let e = other.2 in cc in
      let words : s.left ≡ ws = let e = other.2 in cc in
      record {
        others = s.others;
        shows = subst (λ (l : List (List ℕ)). PartsShow t short_equals no_tail ended l s.others) words s.line;
        items_are = s.items_are ∙ ap (λ x. x ∷ s.others) (other.1 ∙ ap (λ x. option name (Some x)) word);
      },
  λ l. record {
    left = ws;
    item = option name (Some w);
    others = l.others;
    completes = one_is t name nothing (w ∷ ws) (option name (Some w)) ws k (next_word w refl refl refl);
    line = l.shows;
    items_are = l.items_are;
  },
)

none_law : (t : Table) (name : Name) (ended : Bool) (last : LastOption) (short_equals : Bool) (bin : Option (List ℕ)) → kind t name ≡ one
    → let u : UnreadLine = record { tail = no_tail; words = []; ended = ended; last = last; short_equals = short_equals; bin_name = bin } in
    ValueLaw t name u (missing (spelling last)) u
none_law t name ended last short_equals bin k items =
    (λ s. let e = (other_value name [] s.left s.item (is_one t name nothing [] s.item s.left k s.completes)).2 in cc, λ l. absurd l)

parts_answer : (t : Table) (name : Name) (p : Option (List ℕ × Bool)) (tail : Tail) (words : List (List ℕ)) (ended : Bool) (last : LastOption) (short_equals : Bool) (bin : Option (List ℕ))
    → kind t name ≡ one → pending (record { tail = tail; words = words; ended = ended; last = last; short_equals = short_equals; bin_name = bin }) ≡ p
    → TailFits tail last ended → Answer t name (record { tail = tail; words = words; ended = ended; last = last; short_equals = short_equals; bin_name = bin })
parts_answer t name (Some value) tail words ended last short_equals bin k is stands =
    let u : UnreadLine = record { tail = tail; words = words; ended = ended; last = last; short_equals = short_equals; bin_name = bin } in
    (_, _, pending_value value.0 value.1 is refl refl, own_law t name u value.0 value.1 k is)
parts_answer t name None no_tail [] ended last short_equals bin k is stands = (_, _, nothing_to_take refl refl refl refl, none_law t name ended last short_equals bin k)
parts_answer t name None no_tail (w ∷ ws) ended last short_equals bin k is stands = (_, _, takes_word w ws refl refl refl refl, word_law t name ended last short_equals bin w ws k)
parts_answer t name None (joined value) words ended last short_equals bin k is stands = absurd (let e : Some (value, true) ≡ None = is in cc)
parts_answer t name None (rest []) words ended last short_equals bin k is stands = absurd (stands.2 refl)
parts_answer t name None (rest (b ∷ bs)) words ended last short_equals bin k is stands = absurd (is_some_rest short_equals b bs is)

-- ---- each result

-- after an option of one value, the line shows some items if and only if it does so by the reply of
-- `value`
pub value_law : (t : Table) (name : Name) (u v : UnreadLine) (r : Reply) (items : List Item) → kind t name ≡ one → IsLine u → ValueStep u r v
    → ShowsAfter t name u items ↔ ValueShows t name r v items
value_law t name u v r items k line step =
    let a = parts_answer t name (pending u) u.tail u.words u.ended u.last u.short_equals u.bin_name k refl line in
    let same = value_same u a.0 r a.1 v a.2 step in
    subst (λ (s : Reply). ShowsAfter t name u items ↔ ValueShows t name s v items) same.0
    (subst (λ (w : UnreadLine). ShowsAfter t name u items ↔ ValueShows t name a.0 w items) same.1 (a.3 items))
