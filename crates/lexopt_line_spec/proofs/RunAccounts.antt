-- The account of bytes of each call, and of lists of calls.
use Rattle.std.proofs.Common.{◌≡◌, ℕ, Bool, Option, Some, None, List, [], ◌∷◌, ◌++◌, flat_map, refl, sym, ap, subst, ◌∙◌, inl, inr, append_assoc}
use Rattle.std.proofs.lemmas.Grind.{flat_map-append}
use Rattle.lexopt_spec.specs.UnreadLine.{UnreadLine, IsLine}
use Rattle.lexopt_spec.specs.Steps.{Reply}
use Rattle.lexopt_spec.specs.Views.{TakesWords, TakesWordIf, Stage, ValueItem, gives_pending, gives_word, stops, stopped, WordItem, TakesIf}
use Rattle.lexopt_spec.specs.Account.{bytes_of, flat, handing, handed_items, bytes_handed_out, segment_bytes, segment_shown, shown_of}
use Rattle.lexopt_spec.specs.Runs.{Call, next, value, optional, values, raw, try_raw, raw_if, set_short_equals, StepWithMemory, Step, Run, account_with_memory, account, segments}
use Rattle.lexopt_line_spec.proofs.Accounts.{next_keeps, next_shown, next_suffix, IsSuffix, words_after}
use Rattle.lexopt_line_spec.proofs.HandedItems.{value_hands, optional_hands, values_hands, raw_hands, words_hands, word_if_hands, try_raw_hands, hands_keep, hands_suffix, hands_line, handing_shown}
use Rattle.lexopt_line_spec.proofs.NoOption.{NoOption, no_option_handed, value_no_option, optional_no_option, values_no_option, words_no_option, word_if_no_option, raw_no_option, try_raw_no_option}
use Rattle.lexopt_line_spec.proofs.Lines.{next_line}

-- ---- no byte is lost

keeps_with_memory : (call : Call) (u : UnreadLine) (r : Reply) (v : UnreadLine) (step : StepWithMemory call u r v)
    → flat u ≡ bytes_of (account_with_memory call u r v step) ++ flat v
keeps_with_memory next u r v step = next_keeps u r v step
keeps_with_memory value u r v step = hands_keep u (handed_items r) v (value_hands u r v step)
keeps_with_memory optional u r v step = hands_keep u (handed_items r) v (optional_hands u r v step)
keeps_with_memory (values n) u r v step = hands_keep u (handed_items r) v (values_hands n u r v step)
keeps_with_memory (raw n) u r v step = hands_keep u (handed_items r) v (raw_hands (TakesWords n) u r v (λ p t. words_hands n u r v p t) step)
keeps_with_memory (try_raw n) u r v step = hands_keep u (handed_items r) v (try_raw_hands n u r v step)
keeps_with_memory (raw_if word) u r v step = hands_keep u (handed_items r) v (raw_hands (TakesWordIf word) u r v (λ p t. word_if_hands word u r v p t) step)
keeps_with_memory (set_short_equals on) u r v step = ap flat (sym step.after_is)

step_keeps : (call : Call) (u : UnreadLine) (r : Reply) (v : UnreadLine) (step : Step call u r v)
    → flat u ≡ bytes_of (account call u r v step) ++ flat v
step_keeps call u r v (inl step) = keeps_with_memory call u r v step
step_keeps call u r v (inr refused) = ap flat (sym refused.after_is)

pub run_keeps : (u : UnreadLine) (calls : List Call) (replies : List Reply) (v : UnreadLine) (run : Run u calls replies v)
    → flat u ≡ bytes_of (segments u calls replies v run) ++ flat v
run_keeps u [] [] v run = ap flat (sym run)
run_keeps u [] (r ∷ rs) v run = absurd run
run_keeps u (c ∷ cs) [] v run = absurd run
run_keeps u (c ∷ cs) (r ∷ rs) v run =
    let first = account c u r run.0 run.1 in
    let others = segments run.0 cs rs v run.2 in
    step_keeps c u r run.0 run.1
    ∙ ap (λ l. bytes_of first ++ l) (run_keeps run.0 cs rs v run.2)
    ∙ sym (append_assoc (bytes_of first) (bytes_of others) (flat v))
    ∙ ap (λ l. l ++ flat v) (sym (flat_map-append segment_bytes first others))

-- ---- the bytes of the replies

-- the bytes that replies have of items
items_shown : (u : UnreadLine) (r : Reply) → NoOption r → bytes_handed_out r ≡ shown_of (handing u (handed_items r))
items_shown u r other = no_option_handed r other ∙ sym (handing_shown u (handed_items r))

shown_with_memory : (call : Call) (u : UnreadLine) (r : Reply) (v : UnreadLine) (step : StepWithMemory call u r v)
    → bytes_handed_out r ≡ shown_of (account_with_memory call u r v step)
shown_with_memory next u r v step = next_shown u r v step
shown_with_memory value u r v step = items_shown u r (value_no_option u r v step)
shown_with_memory optional u r v step = items_shown u r (optional_no_option u r v step)
shown_with_memory (values n) u r v step = items_shown u r (values_no_option n u r v step)
shown_with_memory (raw n) u r v step = items_shown u r (raw_no_option (TakesWords n) u r v (λ t. words_no_option n u r v t) step)
shown_with_memory (try_raw n) u r v step = items_shown u r (try_raw_no_option n u r v step)
shown_with_memory (raw_if word) u r v step = items_shown u r (raw_no_option (TakesWordIf word) u r v (λ t. word_if_no_option word u r v t) step)
shown_with_memory (set_short_equals on) u r v step = ap bytes_handed_out step.reply_is

pub step_shown : (call : Call) (u : UnreadLine) (r : Reply) (v : UnreadLine) (step : Step call u r v)
    → bytes_handed_out r ≡ shown_of (account call u r v step)
step_shown call u r v (inl step) = shown_with_memory call u r v step
step_shown call u r v (inr refused) = ap bytes_handed_out refused.reply_is

pub run_shown : (u : UnreadLine) (calls : List Call) (replies : List Reply) (v : UnreadLine) (run : Run u calls replies v)
    → flat_map bytes_handed_out replies ≡ shown_of (segments u calls replies v run)
run_shown u [] [] v run = refl
run_shown u [] (r ∷ rs) v run = absurd run
run_shown u (c ∷ cs) [] v run = absurd run
run_shown u (c ∷ cs) (r ∷ rs) v run =
    ap (λ l. l ++ flat_map bytes_handed_out rs) (step_shown c u r run.0 run.1)
    ∙ ap (λ l. shown_of (account c u r run.0 run.1) ++ l) (run_shown run.0 cs rs v run.2)
    ∙ sym (flat_map-append segment_shown (account c u r run.0 run.1) (segments run.0 cs rs v run.2))

-- ---- the words left are a suffix

suffix_with_memory : (call : Call) (u : UnreadLine) (r : Reply) (v : UnreadLine) → StepWithMemory call u r v → IsSuffix u v
suffix_with_memory next u r v step = next_suffix u r v step
suffix_with_memory value u r v step = hands_suffix u (handed_items r) v (value_hands u r v step)
suffix_with_memory optional u r v step = hands_suffix u (handed_items r) v (optional_hands u r v step)
suffix_with_memory (values n) u r v step = hands_suffix u (handed_items r) v (values_hands n u r v step)
suffix_with_memory (raw n) u r v step = hands_suffix u (handed_items r) v (raw_hands (TakesWords n) u r v (λ p t. words_hands n u r v p t) step)
suffix_with_memory (try_raw n) u r v step = hands_suffix u (handed_items r) v (try_raw_hands n u r v step)
suffix_with_memory (raw_if word) u r v step = hands_suffix u (handed_items r) v (raw_hands (TakesWordIf word) u r v (λ p t. word_if_hands word u r v p t) step)
suffix_with_memory (set_short_equals on) u r v step = ([], words_after v _ step.after_is)

pub step_suffix : (call : Call) (u : UnreadLine) (r : Reply) (v : UnreadLine) → Step call u r v → IsSuffix u v
step_suffix call u r v (inl step) = suffix_with_memory call u r v step
step_suffix call u r v (inr refused) = ([], words_after v _ refused.after_is)

pub run_suffix : (u : UnreadLine) (calls : List Call) (replies : List Reply) (v : UnreadLine) → Run u calls replies v → IsSuffix u v
run_suffix u [] [] v run = ([], words_after v _ run)
run_suffix u [] (r ∷ rs) v run = absurd run
run_suffix u (c ∷ cs) [] v run = absurd run
run_suffix u (c ∷ cs) (r ∷ rs) v run =
    let first = step_suffix c u r run.0 run.1 in
    let more = run_suffix run.0 cs rs v run.2 in
    (first.0 ++ more.0, first.1 ∙ ap (λ l. first.0 ++ l) more.1 ∙ sym (append_assoc first.0 more.0 v.words))

-- ---- the line after is one that a parser can have

line_with_memory : (call : Call) (u : UnreadLine) (r : Reply) (v : UnreadLine) → IsLine u → StepWithMemory call u r v → IsLine v
line_with_memory next u r v is step = next_line u v r is step
line_with_memory value u r v is step = hands_line u (handed_items r) v is (value_hands u r v step)
line_with_memory optional u r v is step = hands_line u (handed_items r) v is (optional_hands u r v step)
line_with_memory (values n) u r v is step = hands_line u (handed_items r) v is (values_hands n u r v step)
line_with_memory (raw n) u r v is step = hands_line u (handed_items r) v is (raw_hands (TakesWords n) u r v (λ p t. words_hands n u r v p t) step)
line_with_memory (try_raw n) u r v is step = hands_line u (handed_items r) v is (try_raw_hands n u r v step)
line_with_memory (raw_if word) u r v is step = hands_line u (handed_items r) v is (raw_hands (TakesWordIf word) u r v (λ p t. word_if_hands word u r v p t) step)
line_with_memory (set_short_equals on) u r v is step = subst IsLine (sym step.after_is) is

pub step_line : (call : Call) (u : UnreadLine) (r : Reply) (v : UnreadLine) → IsLine u → Step call u r v → IsLine v
step_line call u r v is (inl step) = line_with_memory call u r v is step
step_line call u r v is (inr refused) = subst IsLine (sym refused.after_is) is

-- the same after one item of a view, or one word of `next_if`
pub value_item_line : (stage now : Stage) (u v : UnreadLine) (item : Option (List ℕ)) → IsLine u → ValueItem stage u item v now → IsLine v
value_item_line stage now u v item is (gives_pending x by_equals a p b after c) = subst IsLine (sym after) tt
value_item_line stage now u v item is (gives_word w ws a p b plain c after d) = subst IsLine (sym after) is
value_item_line stage now u v item is (stops a p b c after d) = subst IsLine (sym after) is
value_item_line stage now u v item is (stopped a b after c) = subst IsLine (sym after) is

pub word_item_line : (u v : UnreadLine) (item : Option (List ℕ)) → IsLine u → WordItem u item v → IsLine v
word_item_line u v None is h = subst IsLine (sym h.1) is
word_item_line u v (Some word) is h = subst IsLine (sym h.1) is

pub word_if_line : (Means : List ℕ → Bool → Type 0) (u v : UnreadLine) (item : Option (List ℕ)) → IsLine u → TakesIf Means u item v → IsLine v
word_if_line Means u v None is h = subst IsLine (sym h.0) is
word_if_line Means u v (Some word) is h = word_item_line u v (Some word) is h.0

pub run_line : (u : UnreadLine) (calls : List Call) (replies : List Reply) (v : UnreadLine) → IsLine u → Run u calls replies v → IsLine v
run_line u [] [] v is run = subst IsLine (sym run) is
run_line u [] (r ∷ rs) v is run = absurd run
run_line u (c ∷ cs) [] v is run = absurd run
run_line u (c ∷ cs) (r ∷ rs) v is run = run_line run.0 cs rs v (step_line c u r run.0 is run.1) run.2
