-- Clusters that are read to their end, by one call of `next` for each piece.
use Rattle.std.proofs.Common.{◌≡◌, ◌≢◌, ◌⊎◌, ℕ, zero, suc, ◌<◌, ◌≤◌, Bool, true, false, List, [], ◌∷◌, length, map, drop, refl, sym, ap, subst, ◌∙◌, arith, inl, inr, true≢false, length-drop}
use Rattle.std.specs.List.{Contains}
use Rattle.bstr.specs.Utf8.{decoded}
use Rattle.bstr.proofs.lemmas.PieceLemmas.{piece-bounds}
use Rattle.lexopt_spec.specs.Pieces.{Piece, first_piece, after_first_piece, pieces, pieces_up_to, shown, lossy_characters}
use Rattle.lexopt_spec.specs.UnreadLine.{dash, equals, no_tail, rest_of, UnreadLine, BeginsWith, short_option}
use Rattle.lexopt_spec.specs.Steps.{Reply, short, ReadsShort, reads_cluster, NextStep, next_in_cluster, next_word, TakesMemory}
use Rattle.lexopt_spec.specs.Runs.{Call, next, Step, Run}
use Rattle.lexopt_line_spec.proofs.Exact.{contains_more, contains_first, next_same}
use Rattle.lexopt_spec.proofs.PieceSteps.{pieces-step}

-- no `=` separates an option from its value in these bytes
abbrev pub IsFree : Bool → List ℕ → Type 0
IsFree short_equals bytes = (short_equals ≡ false) ⊎ ¬ Contains bytes equals

contains_drop : (n : ℕ) (bs : List ℕ) → Contains (drop n bs) equals → Contains bs equals
contains_drop zero bs has = has
contains_drop (suc n) [] has = has
contains_drop (suc n) (b ∷ bs) has = contains_more b bs (contains_drop n bs has)

contains_after : (n : ℕ) (b : ℕ) (bs : List ℕ) → 0 < n → Contains (drop n (b ∷ bs)) equals → Contains bs equals
contains_after zero b bs some has = absurd (omega arith)
contains_after (suc n) b bs some has = contains_drop n bs has

free_after : (short_equals : Bool) (b : ℕ) (bs : List ℕ) → IsFree short_equals bs → IsFree short_equals (after_first_piece (b ∷ bs))
free_after short_equals b bs (inl off) = inl off
free_after short_equals b bs (inr none) =
    let bounds = piece-bounds (b ∷ bs) (let some : 0 < length (b ∷ bs) = omega arith in some) in
    inr (λ has. none (contains_after (decoded (b ∷ bs)).size b bs bounds.0 has))

free_tail : (short_equals : Bool) (b : ℕ) (bs : List ℕ) → IsFree short_equals (b ∷ bs) → IsFree short_equals bs
free_tail short_equals b bs (inl off) = inl off
free_tail short_equals b bs (inr none) = inr (λ has. none (contains_more b bs has))

free_first : (short_equals : Bool) (b : ℕ) (bs : List ℕ) → IsFree short_equals (b ∷ bs) → (short_equals ≡ true) × BeginsWith equals (b ∷ bs) → ⊥
free_first short_equals b bs (inl off) h = true≢false (sym h.0 ∙ off)
free_first short_equals b bs (inr none) h = none (subst (λ (x : ℕ). Contains (x ∷ bs) equals) (sym h.1) (contains_first bs))

-- if the result cannot run out of memory, there is no other
next_answers : (u : UnreadLine) (r s : Reply) (v w : UnreadLine) → NextStep u s w → (TakesMemory s → ⊥) → Step next u r v → (r ≡ s) × (v ≡ w)
next_answers u r s v w known small (inl step) = next_same u r s v w step known
next_answers u r s v w known small (inr refused) =
    let other = refused.in_place_of in
    absurd (small (subst TakesMemory (next_same u other.0 s other.1 w other.2 known).0 other.3))

abbrev pub one_each : List Piece → List Call
one_each ps = map (λ p. next) ps

abbrev pub shorts : List Piece → List Reply
shorts ps = map (λ p. short (shown p.char)) ps

-- all pieces of the rest have been read
record IsRead (u : UnreadLine) (ps : List Piece) (replies : List Reply) (v : UnreadLine) : Type 0 where
  replies_are : replies ≡ shorts ps
  no_tail_is : v.tail ≡ no_tail
  words_are : v.words ≡ u.words

short_reads : (b : ℕ) (bs : List ℕ) (u : UnreadLine)
    → ReadsShort (b ∷ bs) u (short (shown (first_piece (b ∷ bs)).char))
    (record u { last = short_option (shown (first_piece (b ∷ bs)).char); tail = rest_of (after_first_piece (b ∷ bs)) })
short_reads b bs u = record { some = λ none. let e : b ∷ bs ≡ [] = none in cc; reply_is = refl; after_is = refl }

cluster_step : (b : ℕ) (bs : List ℕ) (u : UnreadLine) → u.tail ≡ rest_of (b ∷ bs) → ((u.short_equals ≡ true) × BeginsWith equals (b ∷ bs) → ⊥)
    → NextStep u (short (shown (first_piece (b ∷ bs)).char))
    (record u { last = short_option (shown (first_piece (b ∷ bs)).char); tail = rest_of (after_first_piece (b ∷ bs)) })
cluster_step b bs u tail other = next_in_cluster (b ∷ bs) tail other (short_reads b bs u)

rest_read : (most : ℕ) (bs : List ℕ) (u : UnreadLine) (replies : List Reply) (v : UnreadLine) → length bs ≤ most → u.tail ≡ rest_of bs → IsFree u.short_equals bs
    → Run u (one_each (pieces_up_to most bs)) replies v → IsRead u (pieces_up_to most bs) replies v
unfolding pieces_up_to
rest_read zero [] u [] v few tail free run =
    record { replies_are = refl; no_tail_is = ap (λ (l : UnreadLine). l.tail) run ∙ tail; words_are = ap (λ (l : UnreadLine). l.words) run }
rest_read zero [] u (r ∷ rs) v few tail free run = absurd run
rest_read zero (b ∷ bs) u replies v few tail free run = absurd (omega arith)
rest_read (suc most) [] u [] v few tail free run =
    record { replies_are = refl; no_tail_is = ap (λ (l : UnreadLine). l.tail) run ∙ tail; words_are = ap (λ (l : UnreadLine). l.words) run }
rest_read (suc most) [] u (r ∷ rs) v few tail free run = absurd run
rest_read (suc most) (b ∷ bs) u [] v few tail free run = absurd run
rest_read (suc most) (b ∷ bs) u (r ∷ rs) v few tail free run =
    let bounds = piece-bounds (b ∷ bs) (let some : 0 < length (b ∷ bs) = omega arith in some) in
    let left = length-drop (decoded (b ∷ bs)).size (b ∷ bs) in
    let reads = cluster_step b bs u tail (free_first u.short_equals b bs free) in
    let first = next_answers u r _ run.0 _ reads (λ h. h) run.1 in
    let more = rest_read most (after_first_piece (b ∷ bs)) run.0 rs v (omega arith) (ap (λ (l : UnreadLine). l.tail) first.1)
    (subst (λ (s : Bool). IsFree s (after_first_piece (b ∷ bs))) (sym (ap (λ (l : UnreadLine). l.short_equals) first.1))
    (free_after u.short_equals b bs (free_tail u.short_equals b bs free)))
    run.2 in
    record {
      replies_are = ap (λ x. x ∷ rs) first.0 ∙ ap (λ l. short (shown (first_piece (b ∷ bs)).char) ∷ l) more.replies_are;
      no_tail_is = more.no_tail_is;
      words_are = more.words_are ∙ ap (λ (l : UnreadLine). l.words) first.1;
    }

word_read : (u v : UnreadLine) (b : ℕ) (bs : List ℕ) (ws : List (List ℕ)) (replies : List Reply)
    → u.tail ≡ no_tail → u.ended ≡ false → u.words ≡ (dash ∷ b ∷ bs) ∷ ws → b ≢ dash → IsFree u.short_equals bs
    → Run u (next ∷ one_each (pieces (after_first_piece (b ∷ bs)))) replies v
    → (replies ≡ shorts (first_piece (b ∷ bs) ∷ pieces (after_first_piece (b ∷ bs)))) × (v.tail ≡ no_tail) × (v.words ≡ ws)
word_read u v b bs ws [] none open_line words other free run = absurd run
word_read u v b bs ws (r ∷ rs) none open_line words other free run =
    let step = next_word none open_line (reads_cluster (b ∷ bs) ws words other (short_reads b bs (record u { words = ws }))) in
    let first = next_answers u r _ run.0 _ step (λ h. h) run.1 in
    let after = after_first_piece (b ∷ bs) in
    let more = rest_read (length after) after run.0 rs v (omega arith) (ap (λ (l : UnreadLine). l.tail) first.1)
    (subst (λ (s : Bool). IsFree s after) (sym (ap (λ (l : UnreadLine). l.short_equals) first.1)) (free_after u.short_equals b bs free))
    run.2 in (
      ap (λ x. x ∷ rs) first.0 ∙ ap (λ l. short (shown (first_piece (b ∷ bs)).char) ∷ l) more.replies_are,
      more.no_tail_is,
      more.words_are ∙ ap (λ (l : UnreadLine). l.words) first.1,
    )

shorts_are : (ps : List Piece) → shorts ps ≡ map short (map (λ p. shown p.char) ps)
shorts_are [] = refl
shorts_are (p ∷ ps) = ap (λ l. short (shown p.char) ∷ l) (shorts_are ps)

-- a cluster of these bytes, read from the start of its word
pub cluster_read : (u v : UnreadLine) (b : ℕ) (bs : List ℕ) (ws : List (List ℕ)) (replies : List Reply)
    → u.tail ≡ no_tail → u.ended ≡ false → u.words ≡ (dash ∷ b ∷ bs) ∷ ws → b ≢ dash → IsFree u.short_equals bs
    → Run u (map (λ p. next) (pieces (b ∷ bs))) replies v
    → (replies ≡ map short (lossy_characters (b ∷ bs))) × (v.tail ≡ no_tail) × (v.words ≡ ws)
cluster_read u v b bs ws replies none open_line words other free run =
    let some : 0 < length (b ∷ bs) = omega arith in
    let read = word_read u v b bs ws replies none open_line words other free
    (subst (λ (ps : List Piece). Run u (one_each ps) replies v) (pieces-step (b ∷ bs) some) run) in
    (read.0 ∙ ap shorts (sym (pieces-step (b ∷ bs) some)) ∙ shorts_are (pieces (b ∷ bs)), read.1, read.2)
