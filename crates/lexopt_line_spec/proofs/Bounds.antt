-- The bound of a line limits the replies that it can give.
use Rattle.std.proofs.Common.{◌≡◌, ◌≢◌, ◌⊎◌, ℕ, suc, ◌+◌, ◌<◌, ◌≤◌, Bool, true, List, [], ◌∷◌, ◌++◌, length, Some, None, refl, sym, ap, subst, ◌∙◌, inl, inr, ⊎_elim, arith, length-drop}
use Rattle.std.proofs.lemmas.List.Sums.{sum_by-cons, sum_by-append}
use Rattle.std.specs.List.{sum_by, IsAmong}
use Rattle.bstr.specs.Utf8.{decoded}
use Rattle.bstr.proofs.lemmas.PieceLemmas.{piece-bounds}
use Rattle.lexopt_spec.specs.Pieces.{after_first_piece}
use Rattle.lexopt_spec.specs.UnreadLine.{dash, Tail, no_tail, joined, rest, rest_of, UnreadLine, pending_in}
use Rattle.lexopt_spec.specs.Steps as steps
use Rattle.lexopt_spec.specs.Steps.{Reply, end, no_memory, Next, IsLongOption, ReadsPositional, no_word_left, word_left, ReadsWord, no_word, reads_separator, reads_long, reads_cluster, reads_positional, NextStep, joined_value, equals_value, next_in_cluster, after_separator, next_word}
use Rattle.lexopt_spec.specs.Views.{TakesWords, TakesWordIf}
use Rattle.lexopt_spec.specs.Account.{handed_items}
use Rattle.lexopt_line_spec.specs.Bound.{word_bound, tail_bound, bound, reply_count, replies_count, next_replies}
use Rattle.lexopt_spec.specs.Runs.{Call, next, value, optional, values, raw, try_raw, raw_if, set_short_equals, StepWithMemory, Step, Run}
use Rattle.lexopt_line_spec.specs.Table.{Name, short, long, Kind}
use Rattle.lexopt_line_spec.specs.Table as spec
use Rattle.lexopt_line_spec.specs.Readings.{option_reply}
use Rattle.lexopt_line_spec.specs.Values.{Values, at_most_one, all, ReadsValues}
use Rattle.lexopt_line_spec.proofs.HandedItems.{HandedItems, hands_nothing, hands_words, hands_pending, value_hands, optional_hands, values_hands, raw_hands, words_hands, word_if_hands, try_raw_hands}
use Rattle.lexopt_line_spec.proofs.NoOption.{NoOption, no_option_count, value_no_option, optional_no_option, values_no_option, words_no_option, word_if_no_option, raw_no_option, try_raw_no_option}

-- the count of the reply, and the bound of the line after it, are together at most the bound of `u`
abbrev Within : UnreadLine → ℕ → UnreadLine → Type 0
Within u count v = count + bound v ≤ bound u

-- ---- words

at_least : (words : List (List ℕ)) → length words ≤ sum_by word_bound words
at_least [] = omega arith
at_least (w ∷ ws) = let more = at_least ws in let cut = sum_by-cons word_bound w ws in omega arith

words_bound : (words front left : List (List ℕ)) → words ≡ front ++ left → length front + sum_by word_bound left ≤ sum_by word_bound words
words_bound words front left is =
    let all : sum_by word_bound words ≡ sum_by word_bound front + sum_by word_bound left = ap (sum_by word_bound) is ∙ sum_by-append word_bound front left in
    let few = at_least front in omega arith

-- ---- every call but `next`

rest_some : (on : Bool) (tail : Tail) (x : List ℕ × Bool) → pending_in on tail ≡ Some x → 1 ≤ tail_bound tail
rest_some on no_tail x is = absurd (let e : None ≡ Some x = is in cc)
rest_some on (joined v) x is = omega arith
rest_some on (rest []) x is = absurd (let e : None ≡ Some x = is in cc)
rest_some on (rest (b ∷ bs)) x is = omega arith

hands_bound : (u : UnreadLine) (l : List (List ℕ)) (v : UnreadLine) → HandedItems u l v → Within u (length l) v
hands_bound u l v (hands_nothing none after) = rw (none, after) (omega arith)
hands_bound u l v (hands_words left p words after) = let few = words_bound u.words l left words in rw after (omega arith)
hands_bound u l v (hands_pending x by_equals front left p is words after) =
    let few = words_bound u.words front left words in
    let one = rest_some u.short_equals u.tail (x, by_equals) p in
    let count : length l ≡ suc (length front) = ap length is in
    rw after (omega arith)

items_bound : (u : UnreadLine) (r : Reply) (v : UnreadLine) → NoOption r → HandedItems u (handed_items r) v → Within u (reply_count r) v
items_bound u r v other hands = rw (no_option_count r other) (hands_bound u (handed_items r) v hands)

-- ---- `next`

tail_of_rest : (bs : List ℕ) → tail_bound (rest_of bs) ≡ length bs
tail_of_rest [] = refl
tail_of_rest (b ∷ bs) = refl

shorter : (bytes : List ℕ) → bytes ≢ [] → 1 + tail_bound (rest_of (after_first_piece bytes)) ≤ length bytes
shorter [] some = absurd (some refl)
shorter (b ∷ bs) some =
    let bounds = piece-bounds (b ∷ bs) (omega arith) in
    let left = length-drop (decoded (b ∷ bs)).size (b ∷ bs) in
    let tail = tail_of_rest (after_first_piece (b ∷ bs)) in omega arith

positional_bound : (u : UnreadLine) (r : Reply) (v : UnreadLine) → ReadsPositional u r v → Within u (reply_count r) v
positional_bound u r v (no_word_left is reply_is after_is) = rw (reply_is, after_is) (omega arith)
positional_bound u r v (word_left w ws is reply_is after_is) = let few = words_bound u.words (w ∷ []) ws is in rw (reply_is, after_is) (omega arith)

long_bound : (text name : List ℕ) (tail : Tail) → text ≢ [] → IsLongOption text name tail → 1 + tail_bound tail ≤ word_bound (dash ∷ dash ∷ text)
long_bound [] name tail some option = absurd (some refl)
long_bound (t ∷ ts) name no_tail some option = omega arith
long_bound (t ∷ ts) name (joined v) some option = omega arith
long_bound (t ∷ ts) name (rest bytes) some option = elim option [ ]

word_step : (u : UnreadLine) (w : List ℕ) (ws : List (List ℕ)) → u.words ≡ w ∷ ws → sum_by word_bound u.words ≡ word_bound w + sum_by word_bound ws
word_step u w ws is = ap (sum_by word_bound) is ∙ sum_by-cons word_bound w ws

word_bounded : (u : UnreadLine) (r : Reply) (v : UnreadLine) → ReadsWord u r v → Within u (reply_count r) v
word_bounded u r v (no_word is reply_is after_is) = rw (reply_is, after_is) (omega arith)
word_bounded u r v (reads_separator ws is reads) =
    let more = positional_bound (record u { words = ws; ended = true }) r v reads in
    let step = word_step u (dash ∷ dash ∷ []) ws is in omega arith
word_bounded u r v (reads_long text name tail ws is some option reply_is after_is) =
    let few = long_bound text name tail some option in
    let step = word_step u (dash ∷ dash ∷ text) ws is in
    rw (reply_is, after_is) (omega arith)
word_bounded u r v (reads_cluster bytes ws is other reads) =
    let few = shorter bytes reads.some in
    let step = word_step u (dash ∷ bytes) ws is in
    rw (reads.reply_is, reads.after_is) (omega arith)
word_bounded u r v (reads_positional w ws is plain reply_is after_is) = let few = words_bound u.words (w ∷ []) ws is in rw (reply_is, after_is) (omega arith)

next_bound : (u : UnreadLine) (r : Reply) (v : UnreadLine) → NextStep u r v → Within u (reply_count r) v
next_bound u r v (joined_value x option is spelled reply_is after_is) =
    let tail : tail_bound u.tail ≡ 1 = ap tail_bound is in rw (reply_is, after_is) (omega arith)
next_bound u r v (equals_value x option is on spelled reply_is after_is) =
    let tail : tail_bound u.tail ≡ suc (length x) = ap tail_bound is in rw (reply_is, after_is) (omega arith)
next_bound u r v (next_in_cluster bytes is other reads) =
    let tail : tail_bound u.tail ≡ length bytes = ap tail_bound is in
    let few = shorter bytes reads.some in
    rw (reads.reply_is, reads.after_is) (omega arith)
next_bound u r v (after_separator is ended reads) = positional_bound u r v reads
next_bound u r v (next_word is ended reads) = word_bounded u r v reads

-- ---- lists of calls

bound_with_memory : (call : Call) (u : UnreadLine) (r : Reply) (v : UnreadLine) → StepWithMemory call u r v → Within u (reply_count r) v
bound_with_memory next u r v step = next_bound u r v step
bound_with_memory value u r v step = items_bound u r v (value_no_option u r v step) (value_hands u r v step)
bound_with_memory optional u r v step = items_bound u r v (optional_no_option u r v step) (optional_hands u r v step)
bound_with_memory (values n) u r v step = items_bound u r v (values_no_option n u r v step) (values_hands n u r v step)
bound_with_memory (raw n) u r v step =
    items_bound u r v (raw_no_option (TakesWords n) u r v (λ t. words_no_option n u r v t) step) (raw_hands (TakesWords n) u r v (λ p t. words_hands n u r v p t) step)
bound_with_memory (try_raw n) u r v step = items_bound u r v (try_raw_no_option n u r v step) (try_raw_hands n u r v step)
bound_with_memory (raw_if word) u r v step =
    items_bound u r v (raw_no_option (TakesWordIf word) u r v (λ t. word_if_no_option word u r v t) step)
    (raw_hands (TakesWordIf word) u r v (λ p t. word_if_hands word u r v p t) step)
bound_with_memory (set_short_equals on) u r v step = rw (step.reply_is, step.after_is) (omega arith)

pub step_bound : (call : Call) (u : UnreadLine) (r : Reply) (v : UnreadLine) → Step call u r v → reply_count r + bound v ≤ bound u
step_bound call u r v (inl step) = bound_with_memory call u r v step
step_bound call u r v (inr refused) = rw (refused.reply_is, refused.after_is) (omega arith)

pub run_bound : (u : UnreadLine) (calls : List Call) (replies : List Reply) (v : UnreadLine) → Run u calls replies v → replies_count replies + bound v ≤ bound u
run_bound u [] [] v run = rw run (omega arith)
run_bound u [] (r ∷ rs) v run = absurd run
run_bound u (c ∷ cs) [] v run = absurd run
run_bound u (c ∷ cs) (r ∷ rs) v run =
    let first = step_bound c u r run.0 run.1 in
    let more = run_bound run.0 cs rs v run.2 in
    let cut = sum_by-cons reply_count r rs in omega arith

-- ---- `next` reaches the end

-- the reply has count 1, or is the end
positional_counts : (u : UnreadLine) (r : Reply) (v : UnreadLine) → ReadsPositional u r v → (r ≡ end) ⊎ (reply_count r ≡ 1)
positional_counts u r v (no_word_left is reply_is after_is) = inl reply_is
positional_counts u r v (word_left w ws is reply_is after_is) = inr (ap reply_count reply_is)

word_counts : (u : UnreadLine) (r : Reply) (v : UnreadLine) → ReadsWord u r v → (r ≡ end) ⊎ (reply_count r ≡ 1)
word_counts u r v (no_word is reply_is after_is) = inl reply_is
word_counts u r v (reads_separator ws is reads) = positional_counts (record u { words = ws; ended = true }) r v reads
word_counts u r v (reads_long text name tail ws is some option reply_is after_is) = inr (ap reply_count reply_is)
word_counts u r v (reads_cluster bytes ws is other reads) = inr (ap reply_count reads.reply_is)
word_counts u r v (reads_positional w ws is plain reply_is after_is) = inr (ap reply_count reply_is)

next_counts : (u : UnreadLine) (r : Reply) (v : UnreadLine) → NextStep u r v → (r ≡ end) ⊎ (reply_count r ≡ 1)
next_counts u r v (joined_value x option is spelled reply_is after_is) = inr (ap reply_count reply_is)
next_counts u r v (equals_value x option is on spelled reply_is after_is) = inr (ap reply_count reply_is)
next_counts u r v (next_in_cluster bytes is other reads) = inr (ap reply_count reads.reply_is)
next_counts u r v (after_separator is ended reads) = positional_counts u r v reads
next_counts u r v (next_word is ended reads) = word_counts u r v reads

pub among_more : (r s : Reply) (rs : List Reply) → IsAmong rs s → IsAmong (r ∷ rs) s
among_more r s rs is = (suc is.0, (let below = is.1.0 in omega arith, is.1.1))

pub among_first : (r s : Reply) (rs : List Reply) → r ≡ s → IsAmong (r ∷ rs) s
among_first r s rs is = (0, (omega arith, sym is))

-- one of the replies to `next` is the end, or there are at most as many as the count of all replies
abbrev Ends : List Call → List Reply → Type 0
Ends calls replies = IsAmong (next_replies calls replies) end ⊎ (length (next_replies calls replies) ≤ replies_count replies)

-- a reply that is not one to `next`
passed_over : (r : Reply) (rs ns : List Reply) → IsAmong ns end ⊎ (length ns ≤ replies_count rs) → IsAmong ns end ⊎ (length ns ≤ replies_count (r ∷ rs))
passed_over r rs ns (inl found) = inl found
passed_over r rs ns (inr few) = let cut = sum_by-cons reply_count r rs in inr (omega arith)

-- a reply to `next`
counted : (r : Reply) (rs ns : List Reply) → (r ≡ end) ⊎ (reply_count r ≡ 1) → IsAmong ns end ⊎ (length ns ≤ replies_count rs)
    → IsAmong (r ∷ ns) end ⊎ (length (r ∷ ns) ≤ replies_count (r ∷ rs))
counted r rs ns (inl is) more = inl (among_first r end ns is)
counted r rs ns (inr one) (inl found) = inl (among_more r end ns found)
counted r rs ns (inr one) (inr few) = let cut = sum_by-cons reply_count r rs in inr (omega arith)

next_ends : (r : Reply) (cs : List Call) (rs : List Reply) → (r ≡ no_memory) ⊎ ((r ≡ end) ⊎ (reply_count r ≡ 1)) → Ends cs rs → Ends (next ∷ cs) (r ∷ rs)
next_ends no_memory cs rs is more = passed_over no_memory rs (next_replies cs rs) more
next_ends r cs rs (inl is) more = subst (λ (x : Reply). Ends (next ∷ cs) (x ∷ rs)) (sym is) (passed_over no_memory rs (next_replies cs rs) more)
next_ends r cs rs (inr is) more = counted r rs (next_replies cs rs) is more

next_found : (u : UnreadLine) (r : Reply) (v : UnreadLine) → Step next u r v → (r ≡ no_memory) ⊎ ((r ≡ end) ⊎ (reply_count r ≡ 1))
next_found u r v (inl step) = inr (next_counts u r v step)
next_found u r v (inr refused) = inl refused.reply_is

call_ends : (c : Call) (u : UnreadLine) (r : Reply) (v : UnreadLine) (cs : List Call) (rs : List Reply) → Step c u r v → Ends cs rs → Ends (c ∷ cs) (r ∷ rs)
call_ends next u r v cs rs step more = next_ends r cs rs (next_found u r v step) more
call_ends c u r v cs rs step more = passed_over r rs (next_replies cs rs) more

run_counts : (u : UnreadLine) (calls : List Call) (replies : List Reply) (v : UnreadLine) → Run u calls replies v → Ends calls replies
run_counts u [] [] v run = inr (omega arith)
run_counts u [] (r ∷ rs) v run = absurd run
run_counts u (c ∷ cs) [] v run = absurd run
run_counts u (c ∷ cs) (r ∷ rs) v run = call_ends c u r run.0 cs rs run.1 (run_counts run.0 cs rs v run.2)

pub run_ends : (u v : UnreadLine) (calls : List Call) (replies : List Reply) → Run u calls replies v → bound u < length (next_replies calls replies)
    → IsAmong (next_replies calls replies) end
run_ends u v calls replies run many = ⊎_elim
    (λ found. found)
    (λ few. let most = run_bound u calls replies v run in absurd (omega arith))
    (run_counts u calls replies v run)

-- ---- a step that gives an option, a positional or a value lowers the bound

pub given_falls : (u v : UnreadLine) (r : Reply) → r ≢ end → r ≢ no_memory → Next u r v → bound v < bound u
given_falls u v r some found (inl step) = ⊎_elim
    (λ (is : r ≡ end). absurd (some is))
    (λ (one : reply_count r ≡ 1). let most = step_bound next u r v (inl step) in omega arith)
    (next_counts u r v step)
given_falls u v r some found (inr refused) = absurd (found refused.reply_is)

pub positional_falls : (u v : UnreadLine) (word : List ℕ) → Next u (steps.positional word) v → bound v < bound u
positional_falls u v word step = given_falls u v (steps.positional word) (λ is. let e : steps.positional word ≡ end = is in cc) (λ is. let e : steps.positional word ≡ no_memory = is in cc) step

option_falls : (u v : UnreadLine) (name : Name) → Next u (option_reply name) v → bound v < bound u
option_falls u v (short c) step = given_falls u v (steps.short c) (λ is. let e : steps.short c ≡ end = is in cc) (λ is. let e : steps.short c ≡ no_memory = is in cc) step
option_falls u v (long n) step = given_falls u v (steps.long n) (λ is. let e : steps.long n ≡ end = is in cc) (λ is. let e : steps.long n ≡ no_memory = is in cc) step

-- no call after an option raises the bound of the line, so an option and its values lower it
falls_on : (u v w : UnreadLine) (name : Name) (call : Call) (reply : Reply) → Next u (option_reply name) v → Step call v reply w → bound w < bound u
falls_on u v w name call reply step takes =
    let first = option_falls u v name step in
    let then = step_bound call v reply w takes in
    omega arith

pub values_fall : (u v w : UnreadLine) (name : Name) (k : Kind) (given : Values) → Next u (option_reply name) v → ReadsValues k v given w → bound w < bound u
values_fall u v w name spec.flag (at_most_one None) step reads = subst (λ (x : UnreadLine). bound x < bound u) (sym reads) (option_falls u v name step)
values_fall u v w name spec.one (at_most_one (Some word)) step reads = falls_on u v w name value (steps.taken word) step reads
values_fall u v w name spec.optional (at_most_one given) step reads = falls_on u v w name optional (steps.maybe given) step reads
values_fall u v w name spec.several (all given) step reads = falls_on u v w name (values reads.0) (steps.items given) step reads.2
values_fall u v w name k given step reads = absurd reads
