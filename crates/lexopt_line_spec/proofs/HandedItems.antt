-- Every call except `next` and `set_short_equals` takes items from the line: the pending value,
-- words, or nothing.
use Rattle.std.proofs.Common.{◌≡◌, ◌≢◌, ℕ, zero, suc, ◌==◌, Bool, true, false, List, [], ◌∷◌, ◌++◌, length, take, drop, map, Option, Some, None, refl, sym, ap, subst, ◌∙◌, ⊎_elim, append_assoc, cond}
use Rattle.std.proofs.lemmas.Bool.{cases_eq, eq-eqb, ne_eqb}
use Rattle.std.proofs.lemmas.Grind.{flat_map-append}
use Rattle.std.proofs.lemmas.List.{take-append-drop}
use Rattle.std.proofs.lemmas.List.Folds.{concat-append}
use Rattle.std.proofs.Math.Seq.{take-nil}
use Rattle.std.specs.List.{concat, prefix_len}
use Rattle.lexopt_spec.specs.UnreadLine.{equals, Tail, no_tail, joined, rest, UnreadLine, pending, pending_in, is_plain, IsLine}
use Rattle.lexopt_spec.specs.Steps.{Reply, ValueStep, pending_value, takes_word, nothing_to_take, OptionalStep, optional_pending, optional_none}
use Rattle.lexopt_spec.specs.Views.{plain_front, available_with, without, ValuesStep, no_values, some_values, TakesWords, TakesWordIf, is_next, is_not_next, RawStep, refuses_pending, lends_words, TryRawStep, leaves_pending, try_lends_words}
use Rattle.lexopt_spec.specs.Account.{given, mark, segment_bytes, bytes_of, tail_bytes, flat, dropped_in, handing, handed_items, segment_shown, shown_of}
use Rattle.lexopt_line_spec.proofs.Exact.{value_bytes}

-- these items, in order, are taken from the first line, and leave the second
pub data HandedItems (u : UnreadLine) (handed : List (List ℕ)) (v : UnreadLine) : Type 0 where
  hands_nothing : handed ≡ [] → v ≡ u → HandedItems u handed v
  hands_words : (left : List (List ℕ)) → pending u ≡ None → u.words ≡ handed ++ left → v ≡ record u { words = left } → HandedItems u handed v
  hands_pending : (found : List ℕ) (by_equals : Bool) (front left : List (List ℕ)) → pending u ≡ Some (found, by_equals)
      → handed ≡ found ∷ front → u.words ≡ front ++ left → v ≡ record u { tail = no_tail; words = left } → HandedItems u handed v

-- ---- each call

pub value_hands : (u : UnreadLine) (r : Reply) (v : UnreadLine) → ValueStep u r v → HandedItems u (handed_items r) v
value_hands u r v (pending_value x by_equals p is after) = hands_pending x by_equals [] u.words p (ap handed_items is) refl after
value_hands u r v (takes_word w ws p words is after) = hands_words ws p (words ∙ ap (λ q. handed_items q ++ ws) (sym is)) after
value_hands u r v (nothing_to_take p words is after) = hands_nothing (ap handed_items is) after

pub optional_hands : (u : UnreadLine) (r : Reply) (v : UnreadLine) → OptionalStep u r v → HandedItems u (handed_items r) v
optional_hands u r v (optional_pending x by_equals p is after) = hands_pending x by_equals [] u.words p (ap handed_items is) refl after
optional_hands u r v (optional_none p is after) = hands_nothing (ap handed_items is) after

taken_front : (n m : ℕ) (words : List (List ℕ)) → words ≡ take n (take m words) ++ drop (length (take n (take m words))) words
taken_front zero m words = refl
taken_front (suc n) zero words = refl
taken_front (suc n) (suc m) [] = refl
taken_front (suc n) (suc m) (w ∷ ws) = ap (λ l. w ∷ l) (taken_front n m ws)

without_none : (n : ℕ) (u : UnreadLine) → without None n u ≡ record u { words = drop n u.words }
without_none zero u = refl
without_none (suc n) u = refl

values_at : (n : ℕ) (u : UnreadLine) (p : Option (List ℕ × Bool)) (l : List (List ℕ)) (v : UnreadLine) → pending u ≡ p
    → l ≡ take n (available_with p (plain_front u.ended u.words)) → v ≡ without p (length (take n (available_with p (plain_front u.ended u.words)))) u → HandedItems u l v
values_at n u None l v p is after =
    let front = take n (plain_front u.ended u.words) in
    hands_words (drop (length front) u.words) p
    (taken_front n (prefix_len (λ word. is_plain u.ended word) u.words) u.words ∙ ap (λ k. k ++ drop (length front) u.words) (sym is))
    (after ∙ without_none (length front) u)
values_at zero u (Some (x, by_equals)) l v p is after = hands_nothing is after
values_at (suc n) u (Some (x, true)) l v p is after =
    hands_pending x true [] u.words p (is ∙ ap (λ k. x ∷ k) (take-nil n)) refl
    (after ∙ ap (λ k. record u { tail = no_tail; words = drop (length k) u.words }) (take-nil n))
values_at (suc n) u (Some (x, false)) l v p is after =
    let front = take n (plain_front u.ended u.words) in
    hands_pending x false front (drop (length front) u.words) p is (taken_front n (prefix_len (λ word. is_plain u.ended word) u.words) u.words) after

pub values_hands : (n : ℕ) (u : UnreadLine) (r : Reply) (v : UnreadLine) → ValuesStep n u r v → HandedItems u (handed_items r) v
values_hands n u r v (no_values none is after) = hands_nothing (ap handed_items is) after
values_hands n u r v (some_values some is after) = values_at n u (pending u) (handed_items r) v refl (ap handed_items is) after

pub words_hands : (n : ℕ) (u : UnreadLine) (r : Reply) (v : UnreadLine) → pending u ≡ None → TakesWords n u r v → HandedItems u (handed_items r) v
words_hands n u r v p taken =
    hands_words (drop n u.words) p (sym (take-append-drop n u.words) ∙ ap (λ q. handed_items q ++ drop n u.words) (sym taken.reply_is)) taken.after_is

pub word_if_hands : (word : List ℕ) (u : UnreadLine) (r : Reply) (v : UnreadLine) → pending u ≡ None → TakesWordIf word u r v → HandedItems u (handed_items r) v
word_if_hands word u r v p (is_next ws words is after) = hands_words ws p (words ∙ ap (λ q. handed_items q ++ ws) (sym is)) after
word_if_hands word u r v p (is_not_next other is after) = hands_nothing (ap handed_items is) after

pub raw_hands : (Taken : UnreadLine → Reply → UnreadLine → Type 0) (u : UnreadLine) (r : Reply) (v : UnreadLine)
    → (pending u ≡ None → Taken u r v → HandedItems u (handed_items r) v) → RawStep Taken u r v → HandedItems u (handed_items r) v
raw_hands Taken u r v lends (refuses_pending x option by_equals p spelled is after) =
    hands_pending x by_equals [] u.words p (ap handed_items is) refl after
raw_hands Taken u r v lends (lends_words p taken) = lends p taken

pub try_raw_hands : (n : ℕ) (u : UnreadLine) (r : Reply) (v : UnreadLine) → TryRawStep n u r v → HandedItems u (handed_items r) v
try_raw_hands n u r v (leaves_pending x by_equals p is after) = hands_nothing (ap handed_items is) after
try_raw_hands n u r v (try_lends_words p taken) = words_hands n u r v p taken

-- ---- the bytes of a pending value

pending_rest : (short_equals : Bool) (b : ℕ) (bs x : List ℕ) (by_equals : Bool) → pending_in short_equals (rest (b ∷ bs)) ≡ Some (x, by_equals)
    → b ∷ bs ≡ bytes_of (dropped_in short_equals (rest (b ∷ bs))) ++ x
pending_rest false b bs x by_equals is = ap value_bytes is
pending_rest true b bs x by_equals is = ⊎_elim
    (λ (same : b ≡ equals).
    let picked : cond (b == equals) (Some (bs, true)) (Some (b ∷ bs, false)) ≡ Some (bs, true) = rw (eq-eqb b equals same) refl in
    let dropped : cond (b == equals) (mark (equals ∷ []) ∷ []) [] ≡ mark (equals ∷ []) ∷ [] = rw (eq-eqb b equals same) refl in
    ap (λ c. c ∷ bs) same ∙ ap (λ l. equals ∷ l) (ap value_bytes (sym picked ∙ is)) ∙ ap (λ l. bytes_of l ++ x) (sym dropped))
    (λ (other : b ≢ equals).
    let picked : cond (b == equals) (Some (bs, true)) (Some (b ∷ bs, false)) ≡ Some (b ∷ bs, false) = rw (ne_eqb b equals other) refl in
    let dropped : cond (b == equals) (mark (equals ∷ []) ∷ []) [] ≡ [] = rw (ne_eqb b equals other) refl in
    ap value_bytes (sym picked ∙ is) ∙ ap (λ l. bytes_of l ++ x) (sym dropped))
    (cases_eq b equals)

pending_bytes : (short_equals : Bool) (tail : Tail) (x : List ℕ) (by_equals : Bool) → pending_in short_equals tail ≡ Some (x, by_equals)
    → tail_bytes tail ≡ bytes_of (dropped_in short_equals tail) ++ x
pending_bytes short_equals no_tail x by_equals is = absurd (let e : None ≡ Some (x, by_equals) = is in cc)
pending_bytes short_equals (joined w) x by_equals is = ap value_bytes is
pending_bytes short_equals (rest []) x by_equals is = absurd (let e : None ≡ Some (x, by_equals) = is in cc)
pending_bytes short_equals (rest (b ∷ bs)) x by_equals is = pending_rest short_equals b bs x by_equals is

some_none : (x : List ℕ × Bool) → Some x ≡ None → ⊥
some_none x is = cc

picks_some : (t : Bool) (x y : List ℕ × Bool) → cond t (Some x) (Some y) ≡ None → ⊥
picks_some true x y is = some_none x is
picks_some false x y is = some_none y is

pub is_some_rest : (short_equals : Bool) (b : ℕ) (bs : List ℕ) → pending_in short_equals (rest (b ∷ bs)) ≡ None → ⊥
is_some_rest false b bs is = some_none (b ∷ bs, false) is
is_some_rest true b bs is = picks_some (b == equals) (bs, true) (b ∷ bs, false) is

-- if nothing is pending, the tail has no bytes
pub pending_none : (short_equals : Bool) (tail : Tail) → pending_in short_equals tail ≡ None → (tail_bytes tail ≡ []) × (dropped_in short_equals tail ≡ [])
pending_none short_equals no_tail is = (refl, refl)
pending_none short_equals (joined w) is = absurd (some_none (w, true) is)
pending_none short_equals (rest []) is = (refl, refl)
pending_none short_equals (rest (b ∷ bs)) is = absurd (is_some_rest short_equals b bs is)

-- ---- the account

given_bytes : (l : List (List ℕ)) → bytes_of (map given l) ≡ concat l
given_bytes [] = refl
given_bytes (x ∷ xs) = ap (λ k. x ++ k) (given_bytes xs)

given_shown : (l : List (List ℕ)) → shown_of (map given l) ≡ concat l
given_shown [] = refl
given_shown (x ∷ xs) = ap (λ k. x ++ k) (given_shown xs)

dropped_shown : (short_equals : Bool) (tail : Tail) → shown_of (dropped_in short_equals tail) ≡ []
dropped_shown short_equals no_tail = refl
dropped_shown short_equals (joined w) = refl
dropped_shown short_equals (rest []) = refl
dropped_shown false (rest (b ∷ bs)) = refl
dropped_shown true (rest (b ∷ bs)) = elim (b == equals) as (λ t. shown_of (cond t (mark (equals ∷ []) ∷ []) []) ≡ []) [ true ↦ refl | false ↦ refl ]

-- the bytes that replies have of the segments are the items
pub handing_shown : (u : UnreadLine) (l : List (List ℕ)) → shown_of (handing u l) ≡ concat l
handing_shown u [] = refl
handing_shown u (x ∷ xs) =
    flat_map-append segment_shown (dropped_in u.short_equals u.tail) (map given (x ∷ xs))
    ∙ ap (λ k. k ++ shown_of (map given (x ∷ xs))) (dropped_shown u.short_equals u.tail)
    ∙ given_shown (x ∷ xs)

handing_words : (u : UnreadLine) (l : List (List ℕ)) → pending u ≡ None → bytes_of (handing u l) ≡ concat l
handing_words u [] p = refl
handing_words u (x ∷ xs) p =
    ap (λ k. bytes_of (k ++ map given (x ∷ xs))) (pending_none u.short_equals u.tail p).1 ∙ given_bytes (x ∷ xs)

handing_pending : (u : UnreadLine) (x : List ℕ) (by_equals : Bool) (xs : List (List ℕ)) → pending u ≡ Some (x, by_equals)
    → bytes_of (handing u (x ∷ xs)) ≡ tail_bytes u.tail ++ concat xs
handing_pending u x by_equals xs p =
    flat_map-append segment_bytes (dropped_in u.short_equals u.tail) (map given (x ∷ xs))
    ∙ ap (λ k. bytes_of (dropped_in u.short_equals u.tail) ++ k) (given_bytes (x ∷ xs))
    ∙ sym (append_assoc (bytes_of (dropped_in u.short_equals u.tail)) x (concat xs))
    ∙ ap (λ k. k ++ concat xs) (sym (pending_bytes u.short_equals u.tail x by_equals p))

-- no byte is lost
pub hands_keep : (u : UnreadLine) (l : List (List ℕ)) (v : UnreadLine) → HandedItems u l v → flat u ≡ bytes_of (handing u l) ++ flat v
hands_keep u l v (hands_nothing none after) = rw (none, after) refl
hands_keep u l v (hands_words left p words after) =
    let no_bytes = (pending_none u.short_equals u.tail p).0 in
    ap (λ k. k ++ concat u.words) no_bytes ∙ ap concat words ∙ concat-append l left
    ∙ ap (λ k. k ++ concat left) (sym (handing_words u l p))
    ∙ ap (λ k. bytes_of (handing u l) ++ (k ++ concat left)) (sym no_bytes)
    ∙ ap (λ k. bytes_of (handing u l) ++ flat k) (sym after)
hands_keep u l v (hands_pending x by_equals front left p is words after) =
    ap (λ k. tail_bytes u.tail ++ k) (ap concat words ∙ concat-append front left)
    ∙ sym (append_assoc (tail_bytes u.tail) (concat front) (concat left))
    ∙ ap (λ k. k ++ concat left) (sym (handing_pending u x by_equals front p))
    ∙ ap (λ k. bytes_of (handing u k) ++ concat left) (sym is)
    ∙ ap (λ k. bytes_of (handing u l) ++ flat k) (sym after)

-- the words left are a suffix
pub hands_suffix : (u : UnreadLine) (l : List (List ℕ)) (v : UnreadLine) → HandedItems u l v → (gone : List (List ℕ)) × (u.words ≡ gone ++ v.words)
hands_suffix u l v (hands_nothing none after) = ([], ap (λ (k : UnreadLine). k.words) (sym after))
hands_suffix u l v (hands_words left p words after) = (l, words ∙ ap (λ (k : UnreadLine). l ++ k.words) (sym after))
hands_suffix u l v (hands_pending x by_equals front left p is words after) = (front, words ∙ ap (λ (k : UnreadLine). front ++ k.words) (sym after))

-- the line after is a line that a parser can have
pub hands_line : (u : UnreadLine) (l : List (List ℕ)) (v : UnreadLine) → IsLine u → HandedItems u l v → IsLine v
hands_line u l v is (hands_nothing none after) = subst IsLine (sym after) is
hands_line u l v is (hands_words left p words after) = subst IsLine (sym after) is
hands_line u l v is (hands_pending x by_equals front left p same words after) = subst IsLine (sym after) tt
