-- Each call has one result, with enough memory.
use Rattle.std.proofs.Common.{◌≡◌, ◌≢◌, ◌⊎◌, ℕ, Bool, List, [], ◌∷◌, Option, Some, None, refl, sym, ap, ◌∙◌, inl, inr, ⊎_elim}
use Rattle.std.proofs.lemmas.Bool.{cases_eq}
use Rattle.lexopt_spec.specs.UnreadLine.{Tail, no_tail, joined, rest, LastOption, UnreadLine, spelling, pending, pending_in, TailFits, IsLine}
use Rattle.lexopt_spec.specs.Steps.{Reply, maybe, unexpected, OptionalStep, optional_pending, optional_none}
use Rattle.lexopt_spec.specs.Views.{available, ValuesStep, no_values, some_values, TakesWords, TakesWordIf, is_next, is_not_next, RawStep, refuses_pending, lends_words, TryRawStep, leaves_pending, try_lends_words}
use Rattle.lexopt_spec.specs.Runs.{Call, next, value, optional, values, raw, try_raw, raw_if, set_short_equals, StepWithMemory}
use Rattle.lexopt_line_spec.proofs.Exact.{Same, next_same, value_bytes, value_same}
use Rattle.lexopt_line_spec.proofs.Total.{Answer, next_answer, value_answer, spelled}

-- ---- at most one result

option_text : Option (List ℕ) → List ℕ
option_text None = []
option_text (Some text) = text

pub both_pending : (u : UnreadLine) (x : List ℕ × Bool) → pending u ≡ Some x → pending u ≡ None → ⊥
both_pending u x a b = let e : Some x ≡ None = sym a ∙ b in cc

optional_same : (u : UnreadLine) (r s : Reply) (v w : UnreadLine) → OptionalStep u r v → OptionalStep u s w → Same r v s w
optional_same u r s v w (optional_pending x i a p q) (optional_pending y j b f g) =
    (p ∙ ap (λ l. maybe (Some l)) (ap value_bytes (sym a ∙ b)) ∙ sym f, q ∙ sym g)
optional_same u r s v w (optional_pending x i a p q) (optional_none b f g) = absurd (both_pending u (x, i) a b)
optional_same u r s v w (optional_none a p q) (optional_pending y j b f g) = absurd (both_pending u (y, j) b a)
optional_same u r s v w (optional_none a p q) (optional_none b f g) = (p ∙ sym f, q ∙ sym g)

values_same : (n : ℕ) (u : UnreadLine) (r s : Reply) (v w : UnreadLine) → ValuesStep n u r v → ValuesStep n u s w → Same r v s w
values_same n u r s v w (no_values a p q) (no_values b f g) = (p ∙ sym f, q ∙ sym g)
values_same n u r s v w (no_values a p q) (some_values b f g) = absurd (b a)
values_same n u r s v w (some_values a p q) (no_values b f g) = absurd (a b)
values_same n u r s v w (some_values a p q) (some_values b f g) = (p ∙ sym f, q ∙ sym g)

words_same : (n : ℕ) (u : UnreadLine) (r s : Reply) (v w : UnreadLine) → TakesWords n u r v → TakesWords n u s w → Same r v s w
words_same n u r s v w a b = (a.reply_is ∙ sym b.reply_is, a.after_is ∙ sym b.after_is)

same_left : (words : List (List ℕ)) (word : List ℕ) (xs ys : List (List ℕ)) → words ≡ word ∷ xs → words ≡ word ∷ ys → xs ≡ ys
same_left words word xs ys a b = let e : word ∷ xs ≡ word ∷ ys = sym a ∙ b in cc

word_if_same : (word : List ℕ) (u : UnreadLine) (r s : Reply) (v w : UnreadLine) → TakesWordIf word u r v → TakesWordIf word u s w → Same r v s w
word_if_same word u r s v w (is_next xs a p q) (is_next ys b f g) =
    (p ∙ sym f, q ∙ ap (λ (l : List (List ℕ)). record u { words = l }) (same_left u.words word xs ys a b) ∙ sym g)
word_if_same word u r s v w (is_next xs a p q) (is_not_next b f g) = absurd (b xs a)
word_if_same word u r s v w (is_not_next a p q) (is_next ys b f g) = absurd (a ys b)
word_if_same word u r s v w (is_not_next a p q) (is_not_next b f g) = (p ∙ sym f, q ∙ sym g)

raw_same : (Taken : UnreadLine → Reply → UnreadLine → Type 0) (u : UnreadLine) (r s : Reply) (v w : UnreadLine)
    → (Taken u r v → Taken u s w → Same r v s w) → RawStep Taken u r v → RawStep Taken u s w → Same r v s w
unfolding option_text
raw_same Taken u r s v w same (refuses_pending x o i a c p q) (refuses_pending y t j b d f g) =
    (p ∙ ap (λ l. unexpected l x) (ap option_text (sym c ∙ d)) ∙ ap (unexpected t) (ap value_bytes (sym a ∙ b)) ∙ sym f, q ∙ sym g)
raw_same Taken u r s v w same (refuses_pending x o i a c p q) (lends_words b f) = absurd (both_pending u (x, i) a b)
raw_same Taken u r s v w same (lends_words a p) (refuses_pending y t j b d f g) = absurd (both_pending u (y, j) b a)
raw_same Taken u r s v w same (lends_words a p) (lends_words b f) = same p f

try_raw_same : (n : ℕ) (u : UnreadLine) (r s : Reply) (v w : UnreadLine) → TryRawStep n u r v → TryRawStep n u s w → Same r v s w
try_raw_same n u r s v w (leaves_pending x i a p q) (leaves_pending y j b f g) = (p ∙ sym f, q ∙ sym g)
try_raw_same n u r s v w (leaves_pending x i a p q) (try_lends_words b f) = absurd (both_pending u (x, i) a b)
try_raw_same n u r s v w (try_lends_words a p) (leaves_pending y j b f g) = absurd (both_pending u (y, j) b a)
try_raw_same n u r s v w (try_lends_words a p) (try_lends_words b f) = words_same n u r s v w p f

-- with enough memory, a call has at most one result
pub call_same : (call : Call) (u : UnreadLine) (r s : Reply) (v w : UnreadLine) → StepWithMemory call u r v → StepWithMemory call u s w → Same r v s w
call_same next u r s v w a b = next_same u r s v w a b
call_same value u r s v w a b = value_same u r s v w a b
call_same optional u r s v w a b = optional_same u r s v w a b
call_same (values n) u r s v w a b = values_same n u r s v w a b
call_same (raw n) u r s v w a b = raw_same (TakesWords n) u r s v w (λ x y. words_same n u r s v w x y) a b
call_same (try_raw n) u r s v w a b = try_raw_same n u r s v w a b
call_same (raw_if word) u r s v w a b = raw_same (TakesWordIf word) u r s v w (λ x y. word_if_same word u r s v w x y) a b
call_same (set_short_equals on) u r s v w a b = (a.reply_is ∙ sym b.reply_is, a.after_is ∙ sym b.after_is)

-- ---- at least one result

pending_spelled : (tail : Tail) (last : LastOption) (ended short_equals : Bool) (x : List ℕ × Bool) → TailFits tail last ended → pending_in short_equals tail ≡ Some x
    → (option : List ℕ) × (spelling last ≡ Some option)
pending_spelled no_tail last ended on x stands is = absurd (let e : None ≡ Some x = is in cc)
pending_spelled (joined v) last ended on x stands is = spelled last stands.0
pending_spelled (rest bytes) last ended on x stands is = spelled last stands.0

optional_at : (u : UnreadLine) (p : Option (List ℕ × Bool)) → pending u ≡ p → Answer OptionalStep u
optional_at u None p = (_, _, optional_none p refl refl)
optional_at u (Some x) p = (_, _, optional_pending x.0 x.1 p refl refl)

values_answer : (n : ℕ) (u : UnreadLine) (l : List (List ℕ)) → available u ≡ l → Answer (ValuesStep n) u
values_answer n u [] is = (_, _, no_values is refl refl)
values_answer n u (x ∷ xs) is = (_, _, some_values (λ none. let e : [] ≡ x ∷ xs = sym none ∙ is in cc) refl refl)

raw_at : (Taken : UnreadLine → Reply → UnreadLine → Type 0) (u : UnreadLine) (p : Option (List ℕ × Bool)) → IsLine u
    → pending u ≡ p → Answer Taken u → Answer (RawStep Taken) u
raw_at Taken u None is p lends = (lends.0, lends.1, lends_words p lends.2)
raw_at Taken u (Some x) is p lends =
    let option = pending_spelled u.tail u.last u.ended u.short_equals x is p in (_, _, refuses_pending x.0 option.0 x.1 p option.1 refl refl)

words_answer : (n : ℕ) (u : UnreadLine) → Answer (TakesWords n) u
words_answer n u = (_, _, record { reply_is = refl; after_is = refl })

try_raw_at : (n : ℕ) (u : UnreadLine) (p : Option (List ℕ × Bool)) → pending u ≡ p → Answer (TryRawStep n) u
try_raw_at n u None p = let a = words_answer n u in (a.0, a.1, try_lends_words p a.2)
try_raw_at n u (Some x) p = (_, _, leaves_pending x.0 x.1 p refl refl)

abbrev head_of : List ℕ → ℕ
head_of [] = 0
head_of (b ∷ bs) = b

abbrev tail_of : List ℕ → List ℕ
tail_of [] = []
tail_of (b ∷ bs) = bs

same_words : (a b : List ℕ) → (a ≡ b) ⊎ (a ≢ b)
same_words [] [] = inl refl
same_words [] (y ∷ ys) = inr (λ is. let e : [] ≡ y ∷ ys = is in cc)
same_words (x ∷ xs) [] = inr (λ is. let e : x ∷ xs ≡ [] = is in cc)
same_words (x ∷ xs) (y ∷ ys) = ⊎_elim
    (λ (first : x ≡ y). ⊎_elim
    (λ (others : xs ≡ ys). inl (ap (λ b. b ∷ xs) first ∙ ap (λ l. y ∷ l) others))
    (λ (other : xs ≢ ys). inr (λ is. other (ap tail_of is)))
    (same_words xs ys))
    (λ (other : x ≢ y). inr (λ is. other (ap head_of is)))
    (cases_eq x y)

word_if_at : (word : List ℕ) (u : UnreadLine) (words : List (List ℕ)) → u.words ≡ words → Answer (TakesWordIf word) u
word_if_at word u [] is = (_, _, is_not_next (λ ws other. let e : [] ≡ word ∷ ws = sym is ∙ other in cc) refl refl)
word_if_at word u (w ∷ ws) is = ⊎_elim
    (λ (same : w ≡ word). (_, _, is_next ws (is ∙ ap (λ l. l ∷ ws) same) refl refl))
    (λ (differs : w ≢ word). (_, _, is_not_next (λ xs other. differs (let e : w ∷ ws ≡ word ∷ xs = sym is ∙ other in cc)) refl refl))
    (same_words w word)

-- each line has a result for each call
pub call_answer : (call : Call) (u : UnreadLine) → IsLine u → Answer (StepWithMemory call) u
call_answer next u is = next_answer u is
call_answer value u is = value_answer u
call_answer optional u is = optional_at u (pending u) refl
call_answer (values n) u is = values_answer n u (available u) refl
call_answer (raw n) u is = raw_at (TakesWords n) u (pending u) is refl (words_answer n u)
call_answer (try_raw n) u is = try_raw_at n u (pending u) refl
call_answer (raw_if word) u is = raw_at (TakesWordIf word) u (pending u) is refl (word_if_at word u u.words refl)
call_answer (set_short_equals on) u is = (_, _, record { reply_is = refl; after_is = refl })
