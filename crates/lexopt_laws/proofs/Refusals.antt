-- Calls that never run out of memory.
use Rattle.std.proofs.Common.{◌≡◌, ◌≢◌, ◌⊎◌, ℕ, Bool, true, List, [], Some, None, refl, sym, subst, inl, inr}
use Rattle.lexopt_spec.specs.UnreadLine.{UnreadLine, pending}
use Rattle.lexopt_spec.specs.Steps.{Reply, long, missing, unexpected, no_memory, TakesMemory, Answers, ReadsPositional, no_word_left, word_left, ReadsWord, no_word, reads_separator, reads_long, reads_cluster, reads_positional, NextStep, joined_value, equals_value, next_in_cluster, after_separator, next_word, ValueStep, pending_value, takes_word, nothing_to_take, OptionalStep, optional_pending, optional_none, SetsShortEquals}
use Rattle.lexopt_spec.specs.Views.{available, ValuesStep, no_values, some_values, TakesWords, TakesWordIf, is_next, is_not_next, RawStep, refuses_pending, lends_words, TryRawStep, leaves_pending, try_lends_words}
use Rattle.lexopt_spec.specs.Runs.{Call, next, value, optional, values, raw, try_raw, raw_if, set_short_equals, StepWithMemory, Step}
use Rattle.lexopt_line_spec.proofs.Calls.{both_pending}

-- the reply needs no memory, and is not `no_memory`
abbrev NeedsNoMemory : Reply → Type 0
NeedsNoMemory no_memory = ⊥
NeedsNoMemory r = TakesMemory r → ⊥

none_taken : (r : Reply) → NeedsNoMemory r → TakesMemory r → ⊥
none_taken no_memory none takes = none
none_taken r none takes = none takes

never : (S : UnreadLine → Reply → UnreadLine → Type 0) (u : UnreadLine) → ((r : Reply) (v : UnreadLine) → S u r v → NeedsNoMemory r)
    → (v : UnreadLine) → Answers S u no_memory v → ⊥
never S u none v (inl step) = none no_memory v step
never S u none v (inr refused) =
    let w = refused.in_place_of in none_taken w.0 (none w.0 w.1 w.2) w.3

optional_needs_none : (u : UnreadLine) (r : Reply) (v : UnreadLine) → OptionalStep u r v → NeedsNoMemory r
optional_needs_none u r v (optional_pending x by_equals p is after) = subst NeedsNoMemory (sym is) (λ h. h)
optional_needs_none u r v (optional_none p is after) = subst NeedsNoMemory (sym is) (λ h. h)

words_needs_none : (n : ℕ) (u : UnreadLine) (r : Reply) (v : UnreadLine) → TakesWords n u r v → NeedsNoMemory r
words_needs_none n u r v took = subst NeedsNoMemory (sym took.reply_is) (λ h. h)

word_if_needs_none : (word : List ℕ) (u : UnreadLine) (r : Reply) (v : UnreadLine) → TakesWordIf word u r v → NeedsNoMemory r
word_if_needs_none word u r v (is_next ws words is after) = subst NeedsNoMemory (sym is) (λ h. h)
word_if_needs_none word u r v (is_not_next other is after) = subst NeedsNoMemory (sym is) (λ h. h)

try_raw_needs_none : (n : ℕ) (u : UnreadLine) (r : Reply) (v : UnreadLine) → TryRawStep n u r v → NeedsNoMemory r
try_raw_needs_none n u r v (leaves_pending x by_equals p is after) = subst NeedsNoMemory (sym is) (λ h. h)
try_raw_needs_none n u r v (try_lends_words p took) = words_needs_none n u r v took

raw_needs_none : (Taken : UnreadLine → Reply → UnreadLine → Type 0) (u : UnreadLine) (r : Reply) (v : UnreadLine) → pending u ≡ None
    → (Taken u r v → NeedsNoMemory r) → RawStep Taken u r v → NeedsNoMemory r
raw_needs_none Taken u r v none lends (refuses_pending x option by_equals p spelled is after) = absurd (both_pending u (x, by_equals) p none)
raw_needs_none Taken u r v none lends (lends_words p took) = lends took

values_needs_none : (n : ℕ) (u : UnreadLine) (r : Reply) (v : UnreadLine) → available u ≢ [] → ValuesStep n u r v → NeedsNoMemory r
values_needs_none n u r v some (no_values none is after) = absurd (some none)
values_needs_none n u r v some (some_values other is after) = subst NeedsNoMemory (sym is) (λ h. h)

pub optional_never : (u v : UnreadLine) → Step optional u no_memory v → ⊥
optional_never u v step = never OptionalStep u (λ r w s. optional_needs_none u r w s) v step

pub try_raw_never : (n : ℕ) (u v : UnreadLine) → Step (try_raw n) u no_memory v → ⊥
try_raw_never n u v step = never (TryRawStep n) u (λ r w s. try_raw_needs_none n u r w s) v step

pub set_short_equals_never : (on : Bool) (u v : UnreadLine) → Step (set_short_equals on) u no_memory v → ⊥
set_short_equals_never on u v step = never (SetsShortEquals on) u (λ r w s. subst NeedsNoMemory (sym s.reply_is) (λ h. h)) v step

pub raw_never : (n : ℕ) (u v : UnreadLine) → pending u ≡ None → Step (raw n) u no_memory v → ⊥
raw_never n u v none step = never (RawStep (TakesWords n)) u (λ r w s. raw_needs_none (TakesWords n) u r w none (λ t. words_needs_none n u r w t) s) v step

pub raw_if_never : (word : List ℕ) (u v : UnreadLine) → pending u ≡ None → Step (raw_if word) u no_memory v → ⊥
raw_if_never word u v none step =
    never (RawStep (TakesWordIf word)) u (λ r w s. raw_needs_none (TakesWordIf word) u r w none (λ t. word_if_needs_none word u r w t) s) v step

pub values_never : (n : ℕ) (u v : UnreadLine) → available u ≢ [] → Step (values n) u no_memory v → ⊥
values_never n u v some step = never (ValuesStep n) u (λ r w s. values_needs_none n u r w some s) v step

-- ---- while there is memory, no call runs out of it

-- the reply is not `no_memory`
abbrev IsOtherReply : Reply → Type 0
IsOtherReply no_memory = ⊥
IsOtherReply r = Unit {0}

not_no_memory : (r : Reply) → IsOtherReply r → r ≡ no_memory → ⊥
not_no_memory r other_reply is = subst IsOtherReply is other_reply

positional_is_other : (u : UnreadLine) (r : Reply) (v : UnreadLine) → ReadsPositional u r v → IsOtherReply r
positional_is_other u r v (no_word_left is reply_is after_is) = subst IsOtherReply (sym reply_is) tt
positional_is_other u r v (word_left w ws is reply_is after_is) = subst IsOtherReply (sym reply_is) tt

word_is_other : (u : UnreadLine) (r : Reply) (v : UnreadLine) → ReadsWord u r v → IsOtherReply r
word_is_other u r v (no_word is reply_is after_is) = subst IsOtherReply (sym reply_is) tt
word_is_other u r v (reads_separator ws is reads) = positional_is_other (record u { words = ws; ended = true }) r v reads
word_is_other u r v (reads_long text name tail ws is some option reply_is after_is) = subst IsOtherReply (sym reply_is) tt
word_is_other u r v (reads_cluster bytes ws is other reads) = subst IsOtherReply (sym reads.reply_is) tt
word_is_other u r v (reads_positional w ws is plain reply_is after_is) = subst IsOtherReply (sym reply_is) tt

next_is_other : (u : UnreadLine) (r : Reply) (v : UnreadLine) → NextStep u r v → IsOtherReply r
next_is_other u r v (joined_value x option is spelled reply_is after_is) = subst IsOtherReply (sym reply_is) tt
next_is_other u r v (equals_value x option is on spelled reply_is after_is) = subst IsOtherReply (sym reply_is) tt
next_is_other u r v (next_in_cluster bytes is other reads) = subst IsOtherReply (sym reads.reply_is) tt
next_is_other u r v (after_separator is ended reads) = positional_is_other u r v reads
next_is_other u r v (next_word is ended reads) = word_is_other u r v reads

value_is_other : (u : UnreadLine) (r : Reply) (v : UnreadLine) → ValueStep u r v → IsOtherReply r
value_is_other u r v (pending_value x by_equals p is after) = subst IsOtherReply (sym is) tt
value_is_other u r v (takes_word w ws p words is after) = subst IsOtherReply (sym is) tt
value_is_other u r v (nothing_to_take p words is after) = subst IsOtherReply (sym is) tt

is_other : (r : Reply) → NeedsNoMemory r → IsOtherReply r
is_other no_memory none = none
is_other r none = tt

values_is_other : (n : ℕ) (u : UnreadLine) (r : Reply) (v : UnreadLine) → ValuesStep n u r v → IsOtherReply r
values_is_other n u r v (no_values none is after) = subst IsOtherReply (sym is) tt
values_is_other n u r v (some_values some is after) = subst IsOtherReply (sym is) tt

raw_is_other : (Taken : UnreadLine → Reply → UnreadLine → Type 0) (u : UnreadLine) (r : Reply) (v : UnreadLine)
    → (Taken u r v → IsOtherReply r) → RawStep Taken u r v → IsOtherReply r
raw_is_other Taken u r v lends (refuses_pending x option by_equals p spelled is after) = subst IsOtherReply (sym is) tt
raw_is_other Taken u r v lends (lends_words p took) = lends took

other_reply : (call : Call) (u : UnreadLine) (r : Reply) (v : UnreadLine) → StepWithMemory call u r v → IsOtherReply r
other_reply next u r v step = next_is_other u r v step
other_reply value u r v step = value_is_other u r v step
other_reply optional u r v step = is_other r (optional_needs_none u r v step)
other_reply (values n) u r v step = values_is_other n u r v step
other_reply (raw n) u r v step = raw_is_other (TakesWords n) u r v (λ t. is_other r (words_needs_none n u r v t)) step
other_reply (try_raw n) u r v step = is_other r (try_raw_needs_none n u r v step)
other_reply (raw_if word) u r v step = raw_is_other (TakesWordIf word) u r v (λ t. is_other r (word_if_needs_none word u r v t)) step
other_reply (set_short_equals on) u r v step = subst IsOtherReply (sym step.reply_is) tt

pub other_with_memory : (call : Call) (u : UnreadLine) (r : Reply) (v : UnreadLine) → StepWithMemory call u r v → r ≢ no_memory
other_with_memory call u r v step = not_no_memory r (other_reply call u r v step)

-- ---- where memory runs out

-- the reply is a long option, or an error that names an option
abbrev pub HoldsText : Reply → Type 0
HoldsText r = ((name : List ℕ) × (r ≡ long name)) ⊎ (((option : List ℕ) × (r ≡ missing (Some option))) ⊎ ((option : List ℕ) × (value : List ℕ) × (r ≡ unexpected option value)))

holds_text : (r : Reply) → TakesMemory r → HoldsText r
holds_text (long name) takes = inl (name, refl)
holds_text (missing None) takes = absurd takes
holds_text (missing (Some option)) takes = inr (inl (option, refl))
holds_text (unexpected option word) takes = inr (inr (option, word, refl))
holds_text r takes = absurd takes

pub refused_only : (call : Call) (u v : UnreadLine) → Step call u no_memory v → (v ≡ u) × ((r : Reply) × (w : UnreadLine) × StepWithMemory call u r w × HoldsText r)
refused_only call u v (inl step) = absurd (other_with_memory call u no_memory v step refl)
refused_only call u v (inr refused) =
    let wanted = refused.in_place_of in
    (refused.after_is, (wanted.0, wanted.1, wanted.2, holds_text wanted.0 wanted.3))
