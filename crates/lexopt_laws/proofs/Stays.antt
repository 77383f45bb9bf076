-- What no rule names stays as it was.
use Rattle.std.proofs.Common.{◌≡◌, ◌≢◌, ℕ, Bool, true, List, refl, sym, ap, subst, ◌∙◌, inl, inr}
use Rattle.lexopt_spec.specs.UnreadLine.{no_tail, UnreadLine}
use Rattle.lexopt_spec.specs.Steps.{Reply, short, long, TakesMemory, ReadsShort, ReadsPositional, no_word_left, word_left, ReadsWord, no_word, reads_separator, reads_long, reads_cluster, reads_positional, NextStep, joined_value, equals_value, next_in_cluster, after_separator, next_word}
use Rattle.lexopt_spec.specs.Views.{TakesWords, TakesWordIf}
use Rattle.lexopt_spec.specs.Account.{NamesOption, handed_items}
use Rattle.lexopt_spec.specs.Runs.{Call, next, value, optional, values, raw, try_raw, raw_if, set_short_equals, StepWithMemory, Step}
use Rattle.lexopt_spec.specs.Runs.{short_equals_after}
use Rattle.lexopt_line_spec.proofs.HandedItems.{HandedItems, hands_nothing, hands_words, hands_pending, value_hands, optional_hands, values_hands, raw_hands, words_hands, word_if_hands, try_raw_hands}

pub record Stays (on : Bool) (u : UnreadLine) (r : Reply) (v : UnreadLine) : Type 0 where
  pub bin_name : v.bin_name ≡ u.bin_name
  pub short_equals : v.short_equals ≡ on
  pub last : ¬ NamesOption r → v.last ≡ u.last
  pub ended : u.ended ≡ true → v.ended ≡ true

-- the line after the step is this one
stays_at : (on : Bool) (u w v : UnreadLine) (r : Reply) → v ≡ w → w.bin_name ≡ u.bin_name → w.short_equals ≡ on → (¬ NamesOption r → w.last ≡ u.last) → (u.ended ≡ true → w.ended ≡ true)
    → Stays on u r v
stays_at on u w v r is b s l e = subst (Stays on u r) (sym is) (record { bin_name = b; short_equals = s; last = l; ended = e })

-- only the tail and the words differ
same_parts : (u w v : UnreadLine) (r : Reply) → v ≡ w → w.bin_name ≡ u.bin_name → w.short_equals ≡ u.short_equals → w.last ≡ u.last → w.ended ≡ u.ended → Stays u.short_equals u r v
same_parts u w v r is b s l e = stays_at u.short_equals u w v r is b s (λ none. l) (λ ended. e ∙ ended)

-- ---- every call but `next` and `set_short_equals`

hands_stay : (u : UnreadLine) (r : Reply) (v : UnreadLine) → HandedItems u (handed_items r) v → Stays u.short_equals u r v
hands_stay u r v (hands_nothing none after) = same_parts u u v r after refl refl refl refl
hands_stay u r v (hands_words left p words after) = same_parts u (record u { words = left }) v r after refl refl refl refl
hands_stay u r v (hands_pending x by_equals front left p is words after) = same_parts u (record u { tail = no_tail; words = left }) v r after refl refl refl refl

hands_open : (u : UnreadLine) (l : List (List ℕ)) (v : UnreadLine) → HandedItems u l v → v.ended ≡ u.ended
hands_open u l v (hands_nothing none after) = ap (λ (k : UnreadLine). k.ended) after
hands_open u l v (hands_words left p words after) = ap (λ (k : UnreadLine). k.ended) after
hands_open u l v (hands_pending x by_equals front left p is words after) = ap (λ (k : UnreadLine). k.ended) after

-- ---- `next`

named : (c : ℕ) (r : Reply) → r ≡ short c → ¬ NamesOption r → ⊥
named c r is none = none (subst NamesOption (sym is) tt)

named_long : (name : List ℕ) (r : Reply) → r ≡ long name → ¬ NamesOption r → ⊥
named_long name r is none = none (subst NamesOption (sym is) tt)

short_stays : (bytes : List ℕ) (u w : UnreadLine) (r : Reply) (v : UnreadLine) → ReadsShort bytes w r v → w.bin_name ≡ u.bin_name → w.short_equals ≡ u.short_equals → w.ended ≡ u.ended
    → Stays u.short_equals u r v
short_stays bytes u w r v reads b s e =
    stays_at u.short_equals u _ v r reads.after_is b s (λ none. absurd (named _ r reads.reply_is none)) (λ ended. e ∙ ended)

positional_stays : (u w : UnreadLine) (r : Reply) (v : UnreadLine) → ReadsPositional w r v → w.bin_name ≡ u.bin_name → w.short_equals ≡ u.short_equals → w.last ≡ u.last
    → (u.ended ≡ true → w.ended ≡ true) → Stays u.short_equals u r v
positional_stays u w r v (no_word_left is p after) b s l e = stays_at u.short_equals u w v r after b s (λ none. l) e
positional_stays u w r v (word_left x xs is p after) b s l e = stays_at u.short_equals u (record w { words = xs }) v r after b s (λ none. l) e

word_stays : (u : UnreadLine) (r : Reply) (v : UnreadLine) → ReadsWord u r v → Stays u.short_equals u r v
word_stays u r v (no_word is p after) = same_parts u u v r after refl refl refl refl
word_stays u r v (reads_separator ws is reads) = positional_stays u (record u { words = ws; ended = true }) r v reads refl refl refl (λ ended. refl)
word_stays u r v (reads_long text name tail ws is found option p after) =
    stays_at u.short_equals u _ v r after refl refl (λ none. absurd (named_long _ r p none)) (λ ended. ended)
word_stays u r v (reads_cluster bytes ws is other reads) = short_stays bytes u (record u { words = ws }) r v reads refl refl refl
word_stays u r v (reads_positional w ws is plain p after) = same_parts u (record u { words = ws }) v r after refl refl refl refl

next_stays : (u : UnreadLine) (r : Reply) (v : UnreadLine) → NextStep u r v → Stays u.short_equals u r v
next_stays u r v (joined_value x o is spelled p after) = same_parts u (record u { tail = no_tail }) v r after refl refl refl refl
next_stays u r v (equals_value x o is on spelled p after) = same_parts u (record u { tail = no_tail }) v r after refl refl refl refl
next_stays u r v (next_in_cluster bytes is other reads) = short_stays bytes u u r v reads refl refl refl
next_stays u r v (after_separator is ended reads) = positional_stays u u r v reads refl refl refl (λ e. e)
next_stays u r v (next_word is ended reads) = word_stays u r v reads

-- ---- each call

pub stays : (call : Call) (u : UnreadLine) (r : Reply) (v : UnreadLine) → StepWithMemory call u r v → Stays (short_equals_after u.short_equals call) u r v
stays next u r v step = next_stays u r v step
stays value u r v step = hands_stay u r v (value_hands u r v step)
stays optional u r v step = hands_stay u r v (optional_hands u r v step)
stays (values n) u r v step = hands_stay u r v (values_hands n u r v step)
stays (raw n) u r v step = hands_stay u r v (raw_hands (TakesWords n) u r v (λ p t. words_hands n u r v p t) step)
stays (try_raw n) u r v step = hands_stay u r v (try_raw_hands n u r v step)
stays (raw_if word) u r v step = hands_stay u r v (raw_hands (TakesWordIf word) u r v (λ p t. word_if_hands word u r v p t) step)
stays (set_short_equals on) u r v step = stays_at on u (record u { short_equals = on }) v r step.after_is refl refl (λ none. refl) (λ e. e)

-- a call that runs out of memory changes nothing, and the call that sets `short_equals` never does
nothing_set : (on : Bool) (u : UnreadLine) (wanted : Reply) (v : UnreadLine) → StepWithMemory (set_short_equals on) u wanted v → TakesMemory wanted → ⊥
nothing_set on u wanted v step takes = subst TakesMemory step.reply_is takes

pub step_stays : (call : Call) (u : UnreadLine) (r : Reply) (v : UnreadLine) → Step call u r v → Stays (short_equals_after u.short_equals call) u r v
step_stays call u r v (inl step) = stays call u r v step
step_stays (set_short_equals on) u r v (inr refused) = absurd (nothing_set on u refused.in_place_of.0 refused.in_place_of.1 refused.in_place_of.2 refused.in_place_of.3)
step_stays next u r v (inr refused) = same_parts u u v r refused.after_is refl refl refl refl
step_stays value u r v (inr refused) = same_parts u u v r refused.after_is refl refl refl refl
step_stays optional u r v (inr refused) = same_parts u u v r refused.after_is refl refl refl refl
step_stays (values n) u r v (inr refused) = same_parts u u v r refused.after_is refl refl refl refl
step_stays (raw n) u r v (inr refused) = same_parts u u v r refused.after_is refl refl refl refl
step_stays (try_raw n) u r v (inr refused) = same_parts u u v r refused.after_is refl refl refl refl
step_stays (raw_if word) u r v (inr refused) = same_parts u u v r refused.after_is refl refl refl refl

-- only `next` reads the separator
open_with_memory : (call : Call) (u : UnreadLine) (r : Reply) (v : UnreadLine) → StepWithMemory call u r v → call ≢ next → v.ended ≡ u.ended
open_with_memory next u r v step other = absurd (other refl)
open_with_memory value u r v step other = hands_open u (handed_items r) v (value_hands u r v step)
open_with_memory optional u r v step other = hands_open u (handed_items r) v (optional_hands u r v step)
open_with_memory (values n) u r v step other = hands_open u (handed_items r) v (values_hands n u r v step)
open_with_memory (raw n) u r v step other = hands_open u (handed_items r) v (raw_hands (TakesWords n) u r v (λ p t. words_hands n u r v p t) step)
open_with_memory (try_raw n) u r v step other = hands_open u (handed_items r) v (try_raw_hands n u r v step)
open_with_memory (raw_if word) u r v step other = hands_open u (handed_items r) v (raw_hands (TakesWordIf word) u r v (λ p t. word_if_hands word u r v p t) step)
open_with_memory (set_short_equals on) u r v step other = ap (λ (k : UnreadLine). k.ended) step.after_is

pub stays_open : (call : Call) (u : UnreadLine) (r : Reply) (v : UnreadLine) → Step call u r v → call ≢ next → v.ended ≡ u.ended
stays_open call u r v (inl step) other = open_with_memory call u r v step other
stays_open call u r v (inr refused) other = ap (λ (k : UnreadLine). k.ended) refused.after_is
