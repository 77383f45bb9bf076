-- The segments of a step depend only on the line: two derivations give the same.
use Rattle.std.proofs.Common.{◌≡◌, ℕ, true, List, [], ◌∷◌, ◌++◌, map, refl, sym, ap, subst, ◌∙◌, true≢false}
use Rattle.lexopt_spec.specs.Pieces.{first_piece, pieces}
use Rattle.lexopt_spec.specs.UnreadLine.{dash, equals, no_tail, joined, rest, UnreadLine, BeginsWith}
use Rattle.lexopt_spec.specs.Steps.{Reply, IsLongOption, ReadsPositional, no_word_left, word_left, ReadsWord, no_word, reads_separator, reads_long, reads_cluster, reads_positional, NextStep, joined_value, equals_value, next_in_cluster, after_separator, next_word}
use Rattle.lexopt_spec.specs.Account.{given, mark, piece_segment, name_end, handing, handed_items, positional_account, word_account, next_account}
use Rattle.lexopt_spec.specs.Runs.{Call, next, value, optional, values, raw, try_raw, raw_if, set_short_equals, StepWithMemory, account_with_memory}
use Rattle.lexopt_line_spec.proofs.Exact.{others_of, no_option_plain, head_same, tail_same, no_head, separator_long, two_dashes_cluster, two_dashes, in_tail, rest_bytes, joined_bytes, same_option}
use Rattle.lexopt_line_spec.proofs.Calls.{call_same}

positional_accounts : (u : UnreadLine) (r s : Reply) (v w : UnreadLine) (one : ReadsPositional u r v) (other : ReadsPositional u s w)
    → positional_account u r v one ≡ positional_account u s w other
positional_accounts u r s v w (no_word_left a p q) (no_word_left b f g) = refl
positional_accounts u r s v w (no_word_left a p q) (word_left x xs b f g) = absurd (let e : [] ≡ x ∷ xs = sym a ∙ b in cc)
positional_accounts u r s v w (word_left x xs a p q) (no_word_left b f g) = absurd (let e : [] ≡ x ∷ xs = sym b ∙ a in cc)
positional_accounts u r s v w (word_left x xs a p q) (word_left y ys b f g) = ap (λ k. given k ∷ []) (head_same u.words _ _ xs ys a b)

separator_accounts : (u : UnreadLine) (ws vs : List (List ℕ)) → ws ≡ vs → (r s : Reply) (v w : UnreadLine)
    → (one : ReadsPositional (record u { words = ws; ended = true }) r v) (other : ReadsPositional (record u { words = vs; ended = true }) s w)
    → positional_account (record u { words = ws; ended = true }) r v one ≡ positional_account (record u { words = vs; ended = true }) s w other
separator_accounts u ws vs same r s v w (no_word_left a p q) (no_word_left b f g) = refl
separator_accounts u ws vs same r s v w (no_word_left a p q) (word_left y ys b f g) = absurd (no_head ws y ys a (same ∙ b))
separator_accounts u ws vs same r s v w (word_left x xs a p q) (no_word_left b f g) = absurd (no_head ws x xs (same ∙ b) a)
separator_accounts u ws vs same r s v w (word_left x xs a p q) (word_left y ys b f g) = ap (λ k. given k ∷ []) (head_same ws x y xs ys a (same ∙ b))

word_accounts : (u : UnreadLine) (r s : Reply) (v w : UnreadLine) (one : ReadsWord u r v) (other : ReadsWord u s w)
    → word_account u r v one ≡ word_account u s w other
word_accounts u r s v w (no_word a p q) (no_word b f g) = refl
word_accounts u r s v w (no_word a p q) (reads_separator xs b f) = absurd (no_head u.words _ xs a b)
word_accounts u r s v w (no_word a p q) (reads_long text n t xs b some is f g) = absurd (no_head u.words _ xs a b)
word_accounts u r s v w (no_word a p q) (reads_cluster bytes xs b other f) = absurd (no_head u.words _ xs a b)
word_accounts u r s v w (no_word a p q) (reads_positional x xs b plain f g) = absurd (no_head u.words _ xs a b)
word_accounts u r s v w (reads_separator xs a p) (no_word b f g) = absurd (no_head u.words _ xs b a)
word_accounts u r s v w (reads_separator xs a p) (reads_separator ys b f) =
    let same = tail_same u.words _ _ xs ys a b in
    ap (λ l. mark (dash ∷ dash ∷ []) ∷ l) (separator_accounts u xs ys same r s v w p f)
word_accounts u r s v w (reads_separator xs a p) (reads_long text n t ys b some is f g) = absurd (separator_long text some (head_same u.words _ _ xs ys a b))
word_accounts u r s v w (reads_separator xs a p) (reads_cluster bytes ys b other f) = absurd (two_dashes_cluster [] bytes other (head_same u.words _ _ xs ys a b))
word_accounts u r s v w (reads_separator xs a p) (reads_positional x ys b plain f g) =
    absurd (no_option_plain x (two_dashes x [] (sym (head_same u.words _ _ xs ys a b))) plain)
word_accounts u r s v w (reads_long text m t xs a some is p q) (no_word b f g) = absurd (no_head u.words _ xs b a)
word_accounts u r s v w (reads_long text m t xs a some is p q) (reads_separator ys b f) = absurd (separator_long text some (head_same u.words _ _ ys xs b a))
word_accounts u r s v w (reads_long text m t xs a some is p q) (reads_long other n o ys b more reads f g) =
    let text_is = ap (λ l. others_of (others_of l)) (head_same u.words _ _ xs ys a b) in
    let same = same_option other m n t o (subst (λ (l : List ℕ). IsLongOption l m t) text_is is) reads in
    ap (λ l. mark (dash ∷ dash ∷ []) ∷ (map piece_segment (pieces l) ++ name_end t)) same.0
    ∙ ap (λ l. mark (dash ∷ dash ∷ []) ∷ (map piece_segment (pieces n) ++ name_end l)) same.1
word_accounts u r s v w (reads_long text m t xs a some is p q) (reads_cluster bytes ys b other f) = absurd (two_dashes_cluster text bytes other (head_same u.words _ _ xs ys a b))
word_accounts u r s v w (reads_long text m t xs a some is p q) (reads_positional x ys b plain f g) =
    absurd (no_option_plain x (two_dashes x text (sym (head_same u.words _ _ xs ys a b))) plain)
word_accounts u r s v w (reads_cluster bytes xs a other p) (no_word b f g) = absurd (no_head u.words _ xs b a)
word_accounts u r s v w (reads_cluster bytes xs a other p) (reads_separator ys b f) = absurd (two_dashes_cluster [] bytes other (head_same u.words _ _ ys xs b a))
word_accounts u r s v w (reads_cluster bytes xs a other p) (reads_long text n t ys b some is f g) = absurd (two_dashes_cluster text bytes other (head_same u.words _ _ ys xs b a))
word_accounts u r s v w (reads_cluster bytes xs a other p) (reads_cluster more ys b none f) =
    ap (λ l. mark (dash ∷ []) ∷ piece_segment (first_piece l) ∷ []) (ap others_of (head_same u.words _ _ xs ys a b))
word_accounts u r s v w (reads_cluster bytes xs a other p) (reads_positional x ys b plain f g) =
    absurd (no_option_plain x (bytes, sym (head_same u.words _ _ xs ys a b), p.some) plain)
word_accounts u r s v w (reads_positional x xs a plain p q) (no_word b f g) = absurd (no_head u.words _ xs b a)
word_accounts u r s v w (reads_positional x xs a plain p q) (reads_separator ys b f) =
    absurd (no_option_plain x (two_dashes x [] (head_same u.words _ _ xs ys a b)) plain)
word_accounts u r s v w (reads_positional x xs a plain p q) (reads_long text n t ys b some is f g) =
    absurd (no_option_plain x (two_dashes x text (head_same u.words _ _ xs ys a b)) plain)
word_accounts u r s v w (reads_positional x xs a plain p q) (reads_cluster bytes ys b other f) =
    absurd (no_option_plain x (bytes, head_same u.words _ _ xs ys a b, f.some) plain)
word_accounts u r s v w (reads_positional x xs a plain p q) (reads_positional y ys b also f g) = ap (λ l. given l ∷ []) (head_same u.words _ _ xs ys a b)

next_accounts : (u : UnreadLine) (r s : Reply) (v w : UnreadLine) (one : NextStep u r v) (other : NextStep u s w)
    → next_account u r v one ≡ next_account u s w other
next_accounts u r s v w (joined_value x o a b p q) (joined_value y n c d f g) = ap (λ l. given l ∷ []) (ap joined_bytes (in_tail u _ _ a c))
next_accounts u r s v w (joined_value x o a b p q) (equals_value y n c e d f g) = absurd (let t : joined x ≡ rest (equals ∷ y) = in_tail u _ _ a c in cc)
next_accounts u r s v w (joined_value x o a b p q) (next_in_cluster bytes c other f) = absurd (let t : joined x ≡ rest bytes = in_tail u _ _ a c in cc)
next_accounts u r s v w (joined_value x o a b p q) (after_separator c e f) = absurd (let t : joined x ≡ no_tail = in_tail u _ _ a c in cc)
next_accounts u r s v w (joined_value x o a b p q) (next_word c e f) = absurd (let t : joined x ≡ no_tail = in_tail u _ _ a c in cc)
next_accounts u r s v w (equals_value x o a on b p q) (joined_value y n c d f g) = absurd (let t : rest (equals ∷ x) ≡ joined y = in_tail u _ _ a c in cc)
next_accounts u r s v w (equals_value x o a on b p q) (equals_value y n c e d f g) = ap (λ l. mark (equals ∷ []) ∷ given l ∷ []) (ap (λ t. others_of (rest_bytes t)) (in_tail u _ _ a c))
next_accounts u r s v w (equals_value x o a on b p q) (next_in_cluster bytes c other f) =
    absurd (other (on, subst (BeginsWith equals) (ap rest_bytes (in_tail u _ _ a c)) refl))
next_accounts u r s v w (equals_value x o a on b p q) (after_separator c e f) = absurd (let t : rest (equals ∷ x) ≡ no_tail = in_tail u _ _ a c in cc)
next_accounts u r s v w (equals_value x o a on b p q) (next_word c e f) = absurd (let t : rest (equals ∷ x) ≡ no_tail = in_tail u _ _ a c in cc)
next_accounts u r s v w (next_in_cluster bytes a other p) (joined_value y n c d f g) = absurd (let t : rest bytes ≡ joined y = in_tail u _ _ a c in cc)
next_accounts u r s v w (next_in_cluster bytes a other p) (equals_value y n c on d f g) =
    absurd (other (on, subst (BeginsWith equals) (ap rest_bytes (in_tail u _ _ c a)) refl))
next_accounts u r s v w (next_in_cluster bytes a other p) (next_in_cluster more c none f) = ap (λ l. piece_segment (first_piece l) ∷ []) (ap rest_bytes (in_tail u _ _ a c))
next_accounts u r s v w (next_in_cluster bytes a other p) (after_separator c e f) = absurd (let t : rest bytes ≡ no_tail = in_tail u _ _ a c in cc)
next_accounts u r s v w (next_in_cluster bytes a other p) (next_word c e f) = absurd (let t : rest bytes ≡ no_tail = in_tail u _ _ a c in cc)
next_accounts u r s v w (after_separator a e p) (joined_value y n c d f g) = absurd (let t : no_tail ≡ joined y = in_tail u _ _ a c in cc)
next_accounts u r s v w (after_separator a e p) (equals_value y n c on d f g) = absurd (let t : no_tail ≡ rest (equals ∷ y) = in_tail u _ _ a c in cc)
next_accounts u r s v w (after_separator a e p) (next_in_cluster bytes c other f) = absurd (let t : no_tail ≡ rest bytes = in_tail u _ _ a c in cc)
next_accounts u r s v w (after_separator a e p) (after_separator c d f) = positional_accounts u r s v w p f
next_accounts u r s v w (after_separator a e p) (next_word c d f) = absurd (true≢false (sym e ∙ d))
next_accounts u r s v w (next_word a e p) (joined_value y n c d f g) = absurd (let t : no_tail ≡ joined y = in_tail u _ _ a c in cc)
next_accounts u r s v w (next_word a e p) (equals_value y n c on d f g) = absurd (let t : no_tail ≡ rest (equals ∷ y) = in_tail u _ _ a c in cc)
next_accounts u r s v w (next_word a e p) (next_in_cluster bytes c other f) = absurd (let t : no_tail ≡ rest bytes = in_tail u _ _ a c in cc)
next_accounts u r s v w (next_word a e p) (after_separator c d f) = absurd (true≢false (sym d ∙ e))
next_accounts u r s v w (next_word a e p) (next_word c d f) = word_accounts u r s v w p f

pub call_accounts : (call : Call) (u : UnreadLine) (r s : Reply) (v w : UnreadLine) (one : StepWithMemory call u r v) (other : StepWithMemory call u s w)
    → account_with_memory call u r v one ≡ account_with_memory call u s w other
call_accounts next u r s v w one other = next_accounts u r s v w one other
call_accounts value u r s v w one other = ap (λ x. handing u (handed_items x)) (call_same value u r s v w one other).0
call_accounts optional u r s v w one other = ap (λ x. handing u (handed_items x)) (call_same optional u r s v w one other).0
call_accounts (values n) u r s v w one other = ap (λ x. handing u (handed_items x)) (call_same (values n) u r s v w one other).0
call_accounts (raw n) u r s v w one other = ap (λ x. handing u (handed_items x)) (call_same (raw n) u r s v w one other).0
call_accounts (try_raw n) u r s v w one other = ap (λ x. handing u (handed_items x)) (call_same (try_raw n) u r s v w one other).0
call_accounts (raw_if word) u r s v w one other = ap (λ x. handing u (handed_items x)) (call_same (raw_if word) u r s v w one other).0
call_accounts (set_short_equals on) u r s v w one other = refl
