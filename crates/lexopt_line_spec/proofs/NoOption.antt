-- The replies that name no option, as those of all calls except `next`.
use Rattle.std.proofs.Common.{◌≡◌, ℕ, List, length, refl, sym, subst}
use Rattle.std.specs.List.{concat}
use Rattle.lexopt_spec.specs.UnreadLine.{UnreadLine}
use Rattle.lexopt_spec.specs.Steps.{Reply, short, long, ValueStep, pending_value, takes_word, nothing_to_take, OptionalStep, optional_pending, optional_none}
use Rattle.lexopt_spec.specs.Views.{ValuesStep, no_values, some_values, TakesWords, TakesWordIf, is_next, is_not_next, RawStep, refuses_pending, lends_words, TryRawStep, leaves_pending, try_lends_words}
use Rattle.lexopt_spec.specs.Account.{handed_items, bytes_handed_out}
use Rattle.lexopt_line_spec.specs.Bound.{reply_count}

-- the reply names no option
abbrev pub NoOption : Reply → Type 0
NoOption (short c) = ⊥
NoOption (long name) = ⊥
NoOption reply = Unit {0}

pub no_option_handed : (r : Reply) → NoOption r → bytes_handed_out r ≡ concat (handed_items r)
no_option_handed (short c) other = absurd other
no_option_handed (long name) other = absurd other
no_option_handed r other = refl

pub no_option_count : (r : Reply) → NoOption r → reply_count r ≡ length (handed_items r)
no_option_count (short c) other = absurd other
no_option_count (long name) other = absurd other
no_option_count r other = refl

pub value_no_option : (u : UnreadLine) (r : Reply) (v : UnreadLine) → ValueStep u r v → NoOption r
value_no_option u r v (pending_value x by_equals p is after) = subst NoOption (sym is) tt
value_no_option u r v (takes_word w ws p words is after) = subst NoOption (sym is) tt
value_no_option u r v (nothing_to_take p words is after) = subst NoOption (sym is) tt

pub optional_no_option : (u : UnreadLine) (r : Reply) (v : UnreadLine) → OptionalStep u r v → NoOption r
optional_no_option u r v (optional_pending x by_equals p is after) = subst NoOption (sym is) tt
optional_no_option u r v (optional_none p is after) = subst NoOption (sym is) tt

pub values_no_option : (n : ℕ) (u : UnreadLine) (r : Reply) (v : UnreadLine) → ValuesStep n u r v → NoOption r
values_no_option n u r v (no_values none is after) = subst NoOption (sym is) tt
values_no_option n u r v (some_values some is after) = subst NoOption (sym is) tt

pub words_no_option : (n : ℕ) (u : UnreadLine) (r : Reply) (v : UnreadLine) → TakesWords n u r v → NoOption r
words_no_option n u r v took = subst NoOption (sym took.reply_is) tt

pub word_if_no_option : (word : List ℕ) (u : UnreadLine) (r : Reply) (v : UnreadLine) → TakesWordIf word u r v → NoOption r
word_if_no_option word u r v (is_next ws words is after) = subst NoOption (sym is) tt
word_if_no_option word u r v (is_not_next other is after) = subst NoOption (sym is) tt

pub raw_no_option : (Taken : UnreadLine → Reply → UnreadLine → Type 0) (u : UnreadLine) (r : Reply) (v : UnreadLine)
    → (Taken u r v → NoOption r) → RawStep Taken u r v → NoOption r
raw_no_option Taken u r v lends (refuses_pending x option by_equals p spelled is after) = subst NoOption (sym is) tt
raw_no_option Taken u r v lends (lends_words p took) = lends took

pub try_raw_no_option : (n : ℕ) (u : UnreadLine) (r : Reply) (v : UnreadLine) → TryRawStep n u r v → NoOption r
try_raw_no_option n u r v (leaves_pending x by_equals p is after) = subst NoOption (sym is) tt
try_raw_no_option n u r v (try_lends_words p took) = words_no_option n u r v took
