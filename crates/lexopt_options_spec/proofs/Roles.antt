-- What a word is in its place: the same, whichever word it is.
use Rattle.lexopt_options_spec.proofs.Common.{◌≡◌, ◌≢◌, ◌<◌, ◌≤◌, ◌+◌, ℕ, suc, Bool, true, false, List, [], ◌∷◌, ◌++◌, map, length, drop, nat_eq, Option, Some, None, cond, refl, sym, ap, subst, ◌∙◌}
use Rattle.lexopt_options_spec.proofs.Common.{inl, inr, arith, length-append, ◌&&◌, ◌==◌, starts_with, false≢true, Decides-eqb, same_Some, dash, equals, no_tail, rest_of, Tail, UnreadLine, pending_in}
use Rattle.lexopt_options_spec.proofs.Common.{BeginsWith, IsPlain, ValuesStep, Name, Item, Table, ReadsFirst, ReadsItems, first_positional, first_flag, first_one, first_optional, first_several}
use Rattle.lexopt_options_spec.proofs.Common.{option_reply, option_given, shorter, Declaration, Declared, index_of, Parsed, parsed_item, EndsWith, Extends, HasRole, Role, role_of, map_push}
use Rattle.lexopt_options_spec.proofs.Common.{HandedItems, hands_nothing, hands_pending, hands_words, optional_hands, value_hands, values_hands}
use Rattle.std.proofs.lemmas.Slice.Eq.{starts_is}
use Rattle.lexopt_spec.specs.Pieces.{after_first_piece}
use Rattle.lexopt_spec.specs.UnreadLine as unread
use Rattle.lexopt_spec.specs.Steps as steps
use Rattle.lexopt_spec.specs.Steps.{Reply, NextStep, ValueStep, OptionalStep, ReadsShort, alone, with_value, no_word_left, word_left, no_word, reads_separator, reads_long, reads_cluster, reads_positional, joined_value, equals_value, next_in_cluster, after_separator, next_word, pending_value, takes_word, nothing_to_take, optional_pending, optional_none}
use Rattle.lexopt_line_spec.specs.Table as spec
use Rattle.lexopt_options_spec.specs.Legal as legal
use Rattle.lexopt_options_spec.proofs.Cuts.{enough}
use Rattle.lexopt_options_spec.proofs.Fronts.{one_front}
use Rattle.lexopt_options_spec.proofs.Growing.{longer}
use Rattle.lexopt_options_spec.proofs.Lists.{first_same, same_last, both_empty, not_empty}
use Rattle.lexopt_options_spec.proofs.Occurs.{longer as no_longer}
use Rattle.lexopt_options_spec.proofs.Sound.{known}
use Rattle.lexopt_spec.specs.Account.{handed_items}

-- ---- a value in the word of its option is shorter than the word

-- the bytes of a tail
abbrev bytes_of : Tail → List ℕ
bytes_of no_tail = []
bytes_of (unread.joined value) = value
bytes_of (unread.rest bytes) = bytes

-- no word is left, and fewer than n bytes of one
record Low (n : ℕ) (u : UnreadLine) : Type 0 where
  pub none : u.words ≡ []
  pub less : length (bytes_of u.tail) < n

-- no word is left but this, which is not plain, or fewer bytes than it has
pub record Alone (p : List ℕ) (u : UnreadLine) : Type 0 where
  pub bytes : (bytes : List ℕ) → u.tail ≡ unread.rest bytes → (u.words ≡ []) × (length bytes < length p)
  pub word : (x : List ℕ) (ws : List (List ℕ)) → u.words ≡ x ∷ ws → (u.ended ≡ false) × (x ≡ p) × (ws ≡ []) × ¬ IsPlain false p

low_alone : (p : List ℕ) (u : UnreadLine) → Low (length p) u → Alone p u
low_alone p u low = record {
  bytes = λ bytes is. (low.none, subst (λ tail. length (bytes_of tail) < length p) is low.less);
  word = λ x ws is. absurd (let e : [] ≡ x ∷ ws = sym low.none ∙ is in cc);
}

pub word_alone : (p : List ℕ) (u : UnreadLine) → u.words ≡ p ∷ [] → u.tail ≡ no_tail → u.ended ≡ false → ¬ IsPlain false p → Alone p u
word_alone p u one none not plain = record {
  bytes = λ bytes is. absurd (let e : no_tail ≡ unread.rest bytes = sym none ∙ is in cc);
  word = λ x ws is. let same = first_same x p ws [] (sym is ∙ one) in (not, same.0, same.1, plain);
}

-- what `next` leaves
abbrev After : ℕ → UnreadLine → Reply → Type 0
After n v (steps.short c) = Low n v
After n v (steps.long name) = Low n v
After n v (steps.positional word) = ⊥
After n v r = Unit {0}

short_low : (n : ℕ) (bytes : List ℕ) (u v : UnreadLine) (r : Reply) → u.words ≡ [] → length bytes < n → ReadsShort bytes u r v → After n v r
short_low n bytes u v r none less reads = subst (After n v) (sym reads.reply_is) (record {
  none = ap (λ (x : UnreadLine). x.words) reads.after_is ∙ none;
  less = subst (λ (x : UnreadLine). length (bytes_of x.tail) < n) (sym reads.after_is) (rest_less (after_first_piece bytes) (left_less bytes reads.some less));
})
  where
    rest_less : (left : List ℕ) → length left < n → length (bytes_of (rest_of left)) < n
    rest_less [] less = less
    rest_less (b ∷ bs) less = less

    left_less : (bytes : List ℕ) → bytes ≢ [] → length bytes < n → length (after_first_piece bytes) < n
    left_less [] some less = absurd (some refl)
    left_less (b ∷ bs) some less = let fewer = shorter (b ∷ bs) (length bs) (omega arith) (omega arith) in omega (arith, fewer, less)

next_low : (p : List ℕ) (u v : UnreadLine) (r : Reply) → Alone p u → NextStep u r v → After (length p) v r
next_low p u v r lone (joined_value value o joins spelled r_is after) = subst (After (length p) v) (sym r_is) tt
next_low p u v r lone (equals_value value o joins on spelled r_is after) = subst (After (length p) v) (sym r_is) tt
next_low p u v r lone (next_in_cluster bytes continues other reads) = let less = lone.bytes bytes continues in short_low (length p) bytes u v r less.0 less.1 reads
next_low p u v r lone (after_separator none ended (no_word_left empty r_is after)) = subst (After (length p) v) (sym r_is) tt
next_low p u v r lone (after_separator none ended (word_left w ws some r_is after)) = absurd (false≢true (sym (lone.word w ws some).0 ∙ ended))
next_low p u v r lone (next_word none before (no_word empty r_is after)) = subst (After (length p) v) (sym r_is) tt
next_low p u v r lone (next_word none before (reads_separator ws some (no_word_left empty r_is after))) = subst (After (length p) v) (sym r_is) tt
next_low p u v r lone (next_word none before (reads_separator ws some (word_left w more some_more r_is after))) =
    absurd (let e : [] ≡ w ∷ more = sym (lone.word _ ws some).2 ∙ some_more in cc)
next_low p u v r lone (next_word none before (reads_long text name tail ws some other named r_is after)) =
    let word = lone.word (dash ∷ dash ∷ text) ws some in
    subst (After (length p) v) (sym r_is) (record {
      none = ap (λ (x : UnreadLine). x.words) after ∙ word.2;
      less = subst (λ (x : UnreadLine). length (bytes_of x.tail) < length p) (sym after) (subst (λ x. length (bytes_of tail) < length x) word.1 (value_less tail named));
    })
  where
    value_less : (tail : Tail) → steps.IsLongOption text name tail → length (bytes_of tail) < suc (suc (length text))
    value_less tail (alone whole same) = omega arith
    value_less tail (with_value value whole same) = let a = ap length same in let b = length-append name (equals ∷ value) in omega (arith, a, b)
next_low p u v r lone (next_word none before (reads_cluster bytes ws some other reads)) =
    let word = lone.word (dash ∷ bytes) ws some in
    short_low (length p) bytes (record u { words = ws }) v r word.2 (subst (λ x. length bytes < length x) word.1 (omega arith)) reads
next_low p u v r lone (next_word none before (reads_positional w ws some plain r_is after)) = let word = lone.word w ws some in absurd (word.3 (subst (IsPlain false) word.1 plain))

abbrev value_in : Option (List ℕ × Bool) → List ℕ
value_in None = []
value_in (Some (value, by_equals)) = value

-- a value that is pending
pending_less : (on : Bool) (tail : Tail) (value : List ℕ) (by_equals : Bool) → pending_in on tail ≡ Some (value, by_equals) → length value ≤ length (bytes_of tail)
pending_less on (unread.joined own) value by_equals is = let e = ap (λ o. length (value_in o)) is in omega (arith, e)
pending_less on (unread.rest (b ∷ bs)) value by_equals is = at (on && b == equals) is
  where
    at : (marked : Bool) → cond {A = Option (List ℕ × Bool)} marked (Some (bs, true)) (Some (b ∷ bs, false)) ≡ Some (value, by_equals) → length value ≤ suc (length bs)
    at true is = let e = ap (λ o. length (value_in o)) is in omega (arith, e)
    at false is = let e = ap (λ o. length (value_in o)) is in omega (arith, e)
pending_less on tail value by_equals is = cc

-- the last of the values that are taken there has fewer bytes
values_low : (n : ℕ) (v w : UnreadLine) (l : List (List ℕ)) → Low n v → HandedItems v l w → ((front : List (List ℕ)) (p : List ℕ) → l ≡ front ++ p ∷ [] → length p < n) × Low n w
values_low n v w l low (hands_nothing none after) = ((λ front p is. absurd (not_empty front [] p (sym is ∙ none))), subst (Low n) (sym after) low)
values_low n v w l low (hands_words left none are after) =
    let empty = both_empty l left (sym are ∙ low.none) in
    ((λ front p is. absurd (not_empty front [] p (sym is ∙ empty.0))), subst (Low n) (sym after) (record { none = empty.1; less = low.less }))
values_low n v w l low (hands_pending value by_equals front left has is are after) =
    let empty = both_empty front left (sym are ∙ low.none) in
    let fewer = pending_less v.short_equals v.tail value by_equals has in
    let less = low.less in (
      (λ others p last. subst (λ x. length x < n) (same_last [] others value p (sym (is ∙ ap (λ m. value ∷ m) empty.0) ∙ last)).1 (omega (arith, fewer, less))),
      subst (Low n) (sym after) (record { none = empty.1; less = omega (arith, less) }),
    )

-- this is the word, or its last value is
abbrev Whole : List ℕ → Item → Type 0
Whole p (spec.option name value) = value ≡ Some p
Whole p (spec.many name values) = (others : List (List ℕ)) × (values ≡ others ++ p ∷ [])
Whole p (spec.positional word) = word ≡ p

option_low : (p : List ℕ) (u v : UnreadLine) (name : Name) → Alone p u → steps.Next u (option_reply name) v → Low (length p) v
option_low p u v (spec.short c) lone step = next_low p u v (steps.short c) lone (option_given u v (spec.short c) step)
option_low p u v (spec.long name) lone step = next_low p u v (steps.long name) lone (option_given u v (spec.long name) step)

first_low : (t : Table) (p : List ℕ) (u w : UnreadLine) (x : Item) → Alone p u → ReadsFirst t u x w → (Whole p x → ⊥) × Low (length p) w
first_low t p u w x lone (first_positional word v step) = absurd (next_low p u w (steps.positional word) lone (enough NextStep u (steps.positional word) w step (λ none. cc)))
first_low t p u w x lone (first_flag name v k step) = ((λ is. let e : None ≡ Some p = is in cc), option_low p u w name lone step)
first_low t p u w x lone (first_one name word v z k step takes) =
    let low = values_low (length p) v w (word ∷ []) (option_low p u v name lone step) (value_hands v (steps.taken word) w (enough ValueStep v (steps.taken word) w takes (λ none. cc))) in
    ((λ is. let less = low.0 [] p (ap (λ x. x ∷ []) (same_Some word p is)) in omega (arith, less)), low.1)
first_low t p u w x lone (first_optional name word v z k step takes) =
    let low = values_low (length p) v w (handed_items (steps.maybe word)) (option_low p u v name lone step) (optional_hands v (steps.maybe word) w (enough OptionalStep v (steps.maybe word) w takes (λ none. cc))) in
    ((λ is. let less = low.0 [] p (ap (λ o. handed_items (steps.maybe o)) is) in omega (arith, less)), low.1)
first_low t p u w x lone (first_several name n words v z k step few takes) =
    let low = values_low (length p) v w words (option_low p u v name lone step) (values_hands n v (steps.items words) w (enough (ValuesStep n) v (steps.items words) w takes (λ none. cc))) in
    ((λ whole. let less = low.0 whole.0 p whole.1 in omega (arith, less)), low.1)

is_whole : (options : List Declared) (p : List ℕ) (x : Item) (s : Parsed) → parsed_item options x ≡ Some s → EndsWith p s → Whole p x
is_whole options p (spec.option name v) s is whole = let index = known (λ i. legal.option i v) (index_of options name) s is in subst (EndsWith p) (sym index.2) whole
is_whole options p (spec.many name vs) s is whole = let index = known (λ i. legal.several i vs) (index_of options name) s is in subst (EndsWith p) (sym index.2) whole
is_whole options p (spec.positional word) s is whole = subst (EndsWith p) (sym (same_Some (legal.positional word) s is)) whole

-- what is read last does not end with the word
pub not_whole : (options : List Declared) (t : Table) (p : List ℕ) (u w : UnreadLine) (items : List Item) (front : List Parsed) (s : Parsed) → Alone p u → ReadsItems t u items w
    → map (parsed_item options) items ≡ map (λ s. Some s) (front ++ s ∷ []) → EndsWith p s → ⊥
not_whole options t p u w (x ∷ items) [] s lone (v, first, others) are whole =
    (first_low t p u v x lone first).0 (is_whole options p x s (first_same (parsed_item options x) (Some s) (map (parsed_item options) items) [] are).0 whole)
not_whole options t p u w (x ∷ items) (f ∷ front) s lone (v, first, others) are whole =
    not_whole options t p v w items front s (low_alone p v (first_low t p u v x lone first).1) others
    (first_same (parsed_item options x) (Some f) (map (parsed_item options) items) (map (λ s. Some s) (front ++ s ∷ [])) are).1 whole
not_whole options t p u w [] front s lone reads are whole = not_empty (map (λ s. Some s) front) [] (Some s) (sym (are ∙ map_push (λ s. Some s) front s))

-- ---- a place has one role

-- a word that begins with a dash, and is longer, is not plain
pub dashed_not_plain : (typed w : List ℕ) → BeginsWith dash typed → Extends typed w → IsPlain false w → ⊥
dashed_not_plain [] w begins longer plain = begins
dashed_not_plain (b ∷ typed) w begins longer plain = at (drop (length (b ∷ typed)) w) ((starts_is Decides-eqb w (b ∷ typed) (starts_with nat_eq w (b ∷ typed)) refl).0 longer.begins) plain
  where
    at : (rest : List ℕ) → w ≡ b ∷ (typed ++ rest) → IsPlain false w → ⊥
    at rest is (inl ended) = false≢true ended
    at rest is (inr (inl only)) =
        let e = ap length (sym is ∙ only) in
        let f = length-append typed rest in
        longer.longer (is ∙ ap (λ l. b ∷ l) (none typed rest (omega (arith, e, f))))
      where
        none : (l m : List ℕ) → length l + length m ≤ 0 → l ++ m ≡ l
        none [] [] short_so = refl
        none l m short_so = absurd (omega (arith, short_so))
    at rest is (inr (inr other)) = other (subst (BeginsWith dash) (sym is) begins)

-- what was typed, and one more byte
pub extends : (typed : List ℕ) (b : ℕ) → b ≢ dash → Extends typed (typed ++ b ∷ [])
extends typed b other = record {
  begins = (starts_is Decides-eqb (typed ++ b ∷ []) typed (starts_with nat_eq (typed ++ b ∷ []) typed) refl).1 (b ∷ []) refl;
  longer = no_longer typed b [];
  plain = plain typed;
}
  where
    plain : (typed : List ℕ) → ¬ BeginsWith dash typed → IsPlain false (typed ++ b ∷ [])
    plain [] undashed = inr (inr other)
    plain (c ∷ typed) undashed = inr (inr undashed)

ends_once : (s : Parsed) (v w : List ℕ) → EndsWith v s → EndsWith w s → v ≡ w
ends_once (legal.option i value) v w is other = same_Some v w (sym is ∙ other)
ends_once (legal.several i values) v w is other = (same_last is.0 other.0 v w (sym is.1 ∙ other.1)).1
ends_once (legal.positional word) v w is other = sym is ∙ other

taken_or_not : (d : Declaration) (words : List (List ℕ)) (typed : List ℕ) (role : Role) → HasRole d words typed (Some role) → HasRole d words typed None → ⊥
taken_or_not d words typed role some none =
    let v = typed ++ 0x61 ∷ [] in
    let w = typed ++ 0x62 ∷ [] in
    let v_longer = extends typed 0x61 (λ is. omega (arith, is)) in
    let w_longer = extends typed 0x62 (λ is. omega (arith, is)) in
    let a = some v v_longer in
    let b = some w w_longer in
    let same = one_front d words (a.0 ++ a.1 ∷ []) (b.0 ++ b.1 ∷ []) (none v v_longer a.0 a.1 a.2) (none w w_longer b.0 b.1 b.2) in
    let last = (same_last a.0 b.0 a.1 b.1 same).1 in
    let e = (same_last typed typed 0x61 0x62 (ends_once b.1 v w (subst (EndsWith v) last a.2.whole) b.2.whole)).1 in
    omega (arith, e)

pub one_role : (d : Declaration) (words : List (List ℕ)) (typed : List ℕ) (r s : Option Role) → HasRole d words typed r → HasRole d words typed s → r ≡ s
one_role d words typed None None is other = refl
one_role d words typed None (Some s) is other = absurd (taken_or_not d words typed s other is)
one_role d words typed (Some r) None is other = absurd (taken_or_not d words typed r is other)
one_role d words typed (Some r) (Some s) is other =
    let w = typed ++ 0x61 ∷ [] in
    let w_longer = extends typed 0x61 (λ same. omega (arith, same)) in
    let a = is w w_longer in
    let b = other w w_longer in
    let same = same_last a.0 b.0 a.1 b.1 (one_front d (words ++ w ∷ []) (a.0 ++ a.1 ∷ []) (b.0 ++ b.1 ∷ []) a.2.means b.2.means) in
    ap (λ role. Some role) (sym a.3 ∙ ap (λ l. role_of l a.1) same.0 ∙ ap (role_of b.0) same.1 ∙ b.3)
