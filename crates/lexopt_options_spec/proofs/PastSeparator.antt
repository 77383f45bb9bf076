-- Once the separator was read, only positionals are read.
use Rattle.lexopt_options_spec.proofs.Common.{◌≡◌, ◌≢◌, ℕ, true, false, List, [], ◌∷◌, refl, sym, ap, subst, ◌∙◌, true≢false, IsLine, Tail, TailFits, UnreadLine, ValuesStep, ReadsFirst, ReadsItems}
use Rattle.lexopt_options_spec.proofs.Common.{first_positional, first_flag, first_one, first_optional, first_several, option_reply, option_given}
use Rattle.lexopt_spec.specs.Steps as steps
use Rattle.lexopt_spec.specs.Steps.{Next, NextStep, OptionalStep, Reply, ReadsPositional, ValueStep, no_word_left, word_left, joined_value, equals_value, next_in_cluster, after_separator, next_word, pending_value, takes_word, nothing_to_take, optional_pending, optional_none}
use Rattle.lexopt_line_spec.specs.Table.{Item, Name, Table, long, positional, short}
use Rattle.lexopt_options_spec.proofs.Cuts.{enough}
use Rattle.lexopt_options_spec.proofs.Growing.{grows_first, option_before_separator, hands_ended}
use Rattle.lexopt_line_spec.proofs.HandedItems.{optional_hands, value_hands, values_hands}

no_reply : (u v : UnreadLine) (r : Reply) → ReadsPositional u r v → ((word : List ℕ) → r ≢ steps.positional word) → r ≢ steps.end → ⊥
no_reply u v r (no_word_left none is after) other nor = nor is
no_reply u v r (word_left w ws some is after) other nor = other w is

-- what is neither a positional nor the end is read before the separator
pub open_before : (u v : UnreadLine) (r : Reply) → IsLine u → NextStep u r v → ((word : List ℕ) → r ≢ steps.positional word) → r ≢ steps.end → u.ended ≡ false
open_before u v r line (joined_value value o is spelled r_is after) other nor = (subst (λ (t : Tail). TailFits t u.last u.ended) is line).1
open_before u v r line (equals_value value o is on spelled r_is after) other nor = (subst (λ (t : Tail). TailFits t u.last u.ended) is line).1
open_before u v r line (next_in_cluster bytes is not reads) other nor = (subst (λ (t : Tail). TailFits t u.last u.ended) is line).1
open_before u v r line (after_separator none ended reads) other nor = absurd (no_reply u v r reads other nor)
open_before u v r line (next_word none not reads) other nor = not

-- after it each word is a positional
pub ended_stays : (u v : UnreadLine) (word : List ℕ) → NextStep u (steps.positional word) v → u.ended ≡ true → v.ended ≡ true
ended_stays u v word (joined_value value o is spelled r_is after) ended = absurd (let e : steps.positional word ≡ steps.unexpected o value = r_is in cc)
ended_stays u v word (equals_value value o is on spelled r_is after) ended = absurd (let e : steps.positional word ≡ steps.unexpected o value = r_is in cc)
ended_stays u v word (next_in_cluster bytes is not reads) ended = absurd (let e : steps.positional word ≡ steps.short _ = reads.reply_is in cc)
ended_stays u v word (after_separator none is (no_word_left empty r_is after)) ended = absurd (let e : steps.positional word ≡ steps.end = r_is in cc)
ended_stays u v word (after_separator none is (word_left w ws some r_is after)) ended = ap (λ (x : UnreadLine). x.ended) after ∙ ended
ended_stays u v word (next_word none not reads) ended = absurd (true≢false (sym ended ∙ not))

-- an option and its values are read before the separator
pub option_open : (t : Table) (u w : UnreadLine) (item : Item) → IsLine u → ReadsFirst t u item w → ((word : List ℕ) → item ≢ positional word) → w.ended ≡ false
option_open t u w item line (first_positional word v step) other = absurd (other word refl)
option_open t u w item line (first_flag name v k step) other = option_before_separator u w name line step
option_open t u w item line (first_one name word v x k step takes) other =
    hands_ended v w (word ∷ []) (value_hands v (steps.taken word) w (enough ValueStep v (steps.taken word) w takes (λ none. cc))) ∙ option_before_separator u v name line step
option_open t u w item line (first_optional name word v x k step takes) other =
    hands_ended v w _ (optional_hands v (steps.maybe word) w (enough OptionalStep v (steps.maybe word) w takes (λ none. cc))) ∙ option_before_separator u v name line step
option_open t u w item line (first_several name n values v x k step few takes) other =
    hands_ended v w values (values_hands n v (steps.items values) w (enough (ValuesStep n) v (steps.items values) w takes (λ none. cc))) ∙ option_before_separator u v name line step

pub items_line : (t : Table) (u w : UnreadLine) (items : List Item) → IsLine u → ReadsItems t u items w → IsLine w
items_line t u w [] line is = subst IsLine (sym is) line
items_line t u w (x ∷ items) line (v, first, others) = items_line t v w items (grows_first t u v x line first).2 others

-- the name of an option is read before it
pub named_open : (u v : UnreadLine) (name : Name) → IsLine u → Next u (option_reply name) v → u.ended ≡ false
named_open u v (short c) line step = open_before u v (steps.short c) line (option_given u v (short c) step) (λ word is. cc) (λ is. cc)
named_open u v (long text) line step = open_before u v (steps.long text) line (option_given u v (long text) step) (λ word is. cc) (λ is. cc)

pub first_stays : (t : Table) (u w : UnreadLine) (item : Item) → IsLine u → ReadsFirst t u item w → u.ended ≡ true → w.ended ≡ true
first_stays t u w item line (first_positional word v step) ended = ended_stays u w word (enough NextStep u (steps.positional word) w step (λ none. cc)) ended
first_stays t u w item line (first_flag name v k step) ended = absurd (true≢false (sym ended ∙ named_open u w name line step))
first_stays t u w item line (first_one name word v x k step takes) ended = absurd (true≢false (sym ended ∙ named_open u v name line step))
first_stays t u w item line (first_optional name word v x k step takes) ended = absurd (true≢false (sym ended ∙ named_open u v name line step))
first_stays t u w item line (first_several name n values v x k step few takes) ended = absurd (true≢false (sym ended ∙ named_open u v name line step))

pub items_stay : (t : Table) (u w : UnreadLine) (items : List Item) → IsLine u → ReadsItems t u items w → u.ended ≡ true → w.ended ≡ true
items_stay t u w [] line is ended = ap (λ (x : UnreadLine). x.ended) is ∙ ended
items_stay t u w (x ∷ items) line (v, first, others) ended = items_stay t v w items (grows_first t u v x line first).2 others (first_stays t u v x line first ended)
