-- A line is read in the same way if unread words at its end are left out.
use Rattle.lexopt_options_spec.proofs.Common.{◌≡◌, ◌≢◌, ◌<◌, ℕ, suc, Bool, true, false, List, [], ◌∷◌, ◌++◌, length, take, Some, None, refl, sym, ap, subst, ◌∙◌, arith, inl, inr, append_assoc}
use Rattle.lexopt_options_spec.proofs.Common.{take_all, dash, no_tail, UnreadLine, pending, IsPlainFront, IsNormalIn, plain_front, available, available_with, without, ValuesStep, some_values, Item}
use Rattle.lexopt_options_spec.proofs.Common.{Table, ReadsFirst, ReadsItems, first_positional, first_flag, first_one, first_optional, first_several, option_reply, FullStep, joined_one, attached_first}
use Rattle.lexopt_options_spec.proofs.Common.{words_alone, nothing_given, full_step, option_given}
use Rattle.lexopt_spec.specs.Steps as steps
use Rattle.lexopt_spec.specs.Steps.{Reply, NextStep, ValueStep, OptionalStep, ReadsShort, ReadsPositional, no_word_left, word_left, ReadsWord, no_word, reads_separator, reads_long, reads_cluster, reads_positional, joined_value, equals_value, next_in_cluster, after_separator, next_word, pending_value, takes_word, nothing_to_take, optional_pending, optional_none}
use Rattle.lexopt_spec.proofs.PlainFronts.{front_only, left_after_front}
use Rattle.lexopt_options_spec.proofs.Lists.{both_empty}

-- the line with these words instead of its own
abbrev pub with_words : List (List ℕ) → UnreadLine → UnreadLine
with_words ws u = record u { words = ws }

-- the words before these, and what holds for the line without these
pub record Cut (u : UnreadLine) (tail : List (List ℕ)) (P : UnreadLine → Type 0) : Type 0 where
  pub before : List (List ℕ)
  pub words_are : u.words ≡ before ++ tail
  pub holds : P (with_words before u)

same_words : {u v : UnreadLine} → u ≡ v → u.words ≡ v.words
same_words is = ap (λ (x : UnreadLine). x.words) is

-- no word was read
none_read : {u : UnreadLine} {tail words : List (List ℕ)} {P : UnreadLine → Type 0} (left : List (List ℕ)) → words ≡ u.words → words ≡ left ++ tail → P (with_words left u) → Cut u tail P
none_read left same is holds = record { before = left; words_are = sym same ∙ is; holds = holds }

-- this word was read
one_read : {u : UnreadLine} {tail words : List (List ℕ)} {P : UnreadLine → Type 0} (left ws : List (List ℕ)) (w : List ℕ) → u.words ≡ w ∷ ws → words ≡ ws → words ≡ left ++ tail → P (with_words (w ∷ left) u)
    → Cut u tail P
one_read left ws w some same is holds = record { before = w ∷ left; words_are = some ∙ ap (λ l. w ∷ l) (sym same ∙ is); holds = holds }

-- the same words, and something else that holds
also : {u : UnreadLine} {tail : List (List ℕ)} {P Q : UnreadLine → Type 0} (cut : Cut u tail P) → Q (with_words cut.before u) → Cut u tail Q
also cut holds = record { before = cut.before; words_are = cut.words_are; holds = holds }

-- ---- steps

-- if no word is left, the line ends
pub ends_here : (u : UnreadLine) (ended : Bool) → u.ended ≡ ended → u.tail ≡ no_tail → u.words ≡ [] → NextStep u steps.end u
ends_here u true is none empty = after_separator none is (no_word_left empty refl refl)
ends_here u false is none empty = next_word none is (no_word empty refl refl)

short_cut : (bytes : List ℕ) (u v : UnreadLine) (r : Reply) (left tail : List (List ℕ)) → v.words ≡ left ++ tail → ReadsShort bytes u r v → Cut u tail (λ x. ReadsShort bytes x r (with_words left v))
short_cut bytes u v r left tail is reads =
    none_read left (same_words reads.after_is) is (record { some = reads.some; reply_is = reads.reply_is; after_is = ap (with_words left) reads.after_is })

positional_cut : (u v : UnreadLine) (r : Reply) (left tail : List (List ℕ)) → v.words ≡ left ++ tail → ReadsPositional u r v → Cut u tail (λ x. ReadsPositional x r (with_words left v))
positional_cut u v r left tail is (no_word_left none r_is after) =
    none_read left (same_words after) is (no_word_left (both_empty left tail (sym is ∙ same_words after ∙ none)).0 r_is (ap (with_words left) after))
positional_cut u v r left tail is (word_left w ws some r_is after) =
    one_read left ws w some (same_words after) is (word_left w left refl r_is (ap (with_words left) after))

word_cut : (u v : UnreadLine) (r : Reply) (left tail : List (List ℕ)) → v.words ≡ left ++ tail → ReadsWord u r v → Cut u tail (λ x. ReadsWord x r (with_words left v))
word_cut u v r left tail is (no_word none r_is after) =
    none_read left (same_words after) is (no_word (both_empty left tail (sym is ∙ same_words after ∙ none)).0 r_is (ap (with_words left) after))
word_cut u v r left tail is (reads_separator ws some reads) =
    let cut = positional_cut (record u { words = ws; ended = true }) v r left tail is reads in
    one_read cut.before ws (dash ∷ dash ∷ []) some refl cut.words_are (reads_separator cut.before refl cut.holds)
word_cut u v r left tail is (reads_long text name after ws some other long r_is after_is) =
    one_read left ws (dash ∷ dash ∷ text) some (same_words after_is) is (reads_long text name after left refl other long r_is (ap (with_words left) after_is))
word_cut u v r left tail is (reads_cluster bytes ws some other reads) =
    let cut = short_cut bytes (record u { words = ws }) v r left tail is reads in
    one_read cut.before ws (dash ∷ bytes) some refl cut.words_are (reads_cluster bytes cut.before refl other cut.holds)
word_cut u v r left tail is (reads_positional w ws some plain r_is after) =
    one_read left ws w some (same_words after) is (reads_positional w left refl plain r_is (ap (with_words left) after))

pub step_cut : (u v : UnreadLine) (r : Reply) (left tail : List (List ℕ)) → v.words ≡ left ++ tail → NextStep u r v → Cut u tail (λ x. NextStep x r (with_words left v))
step_cut u v r left tail is (joined_value value o joins spelled r_is after) =
    none_read left (same_words after) is (joined_value value o joins spelled r_is (ap (with_words left) after))
step_cut u v r left tail is (equals_value value o joins on spelled r_is after) =
    none_read left (same_words after) is (equals_value value o joins on spelled r_is (ap (with_words left) after))
step_cut u v r left tail is (next_in_cluster bytes continues not reads) =
    let cut = short_cut bytes u v r left tail is reads in also cut (next_in_cluster bytes continues not cut.holds)
step_cut u v r left tail is (after_separator none ended reads) =
    let cut = positional_cut u v r left tail is reads in also cut (after_separator none ended cut.holds)
step_cut u v r left tail is (next_word none not reads) =
    let cut = word_cut u v r left tail is reads in also cut (next_word none not cut.holds)

value_cut : (u v : UnreadLine) (r : Reply) (left tail : List (List ℕ)) → v.words ≡ left ++ tail → ValueStep u r v → Cut u tail (λ x. ValueStep x r (with_words left v))
value_cut u v r left tail is (pending_value value by_equals has r_is after) =
    none_read left (same_words after) is (pending_value value by_equals has r_is (ap (with_words left) after))
value_cut u v r left tail is (takes_word w ws none some r_is after) =
    one_read left ws w some (same_words after) is (takes_word w left none refl r_is (ap (with_words left) after))
value_cut u v r left tail is (nothing_to_take none empty r_is after) =
    none_read left (same_words after) is (nothing_to_take none (both_empty left tail (sym is ∙ same_words after ∙ empty)).0 r_is (ap (with_words left) after))

optional_cut : (u v : UnreadLine) (r : Reply) (left tail : List (List ℕ)) → v.words ≡ left ++ tail → OptionalStep u r v → Cut u tail (λ x. OptionalStep x r (with_words left v))
optional_cut u v r left tail is (optional_pending value by_equals has r_is after) =
    none_read left (same_words after) is (optional_pending value by_equals has r_is (ap (with_words left) after))
optional_cut u v r left tail is (optional_none none r_is after) =
    none_read left (same_words after) is (optional_none none r_is (ap (with_words left) after))

-- ---- several values

front_cut : (ended : _) (words front left tail : List (List ℕ)) → IsPlainFront ended words front (left ++ tail) → IsPlainFront ended (front ++ left) front left
front_cut ended words front left tail is = record { words_are = refl; plain = is.plain; longest = longest left is.longest }
  where
    longest : (left : List (List ℕ)) → ¬ IsNormalIn ended (left ++ tail) → ¬ IsNormalIn ended left
    longest [] none = λ h. h
    longest (w ∷ ws) none = none

-- all values that there are, if one more is asked for
pub record AllGiven (u : UnreadLine) (came : List (List ℕ)) (v : UnreadLine) : Type 0 where
  pub asked : ℕ
  pub few : length came < asked
  pub step : ValuesStep asked u (steps.items came) v

given : (u v : UnreadLine) (came : List (List ℕ)) → came ≢ [] → available u ≡ came → v ≡ without (pending u) (length came) u → AllGiven u came v
given u v came some is after = record {
  asked = suc (length came);
  few = omega arith;
  step = some_values (λ none. some (sym is ∙ none)) (ap steps.items (sym all)) (after ∙ ap (λ (l : List (List ℕ)). without (pending u) (length l) u) (sym all));
}
  where
    all : take (suc (length came)) (available u) ≡ came
    all = ap (take (suc (length came))) is ∙ take_all (suc (length came)) came (omega arith)

pub joined_given : (u v : UnreadLine) (value : List ℕ) → pending u ≡ Some (value, true) → v ≡ record u { tail = no_tail } → AllGiven u (value ∷ []) v
joined_given u v value has after =
    given u v (value ∷ []) (λ none. cc) (ap (λ p. available_with p (plain_front u.ended u.words)) has) (after ∙ ap (λ p. without p 1 u) (sym has))

pub attached_given : (u v : UnreadLine) (value : List ℕ) (front left : List (List ℕ)) → pending u ≡ Some (value, false) → IsPlainFront u.ended u.words front left → v ≡ record u { tail = no_tail; words = left }
    → AllGiven u (value ∷ front) v
attached_given u v value front left has is after =
    given u v (value ∷ front) (λ none. cc) (ap (λ p. available_with p (plain_front u.ended u.words)) has ∙ ap (λ l. value ∷ l) (front_only u.ended u.words front left is))
    (after ∙ ap (λ (l : List (List ℕ)). record u { tail = no_tail; words = l }) (sym (left_after_front u.ended u.words front left is)) ∙ ap (λ p. without p (suc (length front)) u) (sym has))

pub words_given : (u v : UnreadLine) (front left : List (List ℕ)) → pending u ≡ None → IsPlainFront u.ended u.words front left → front ≢ [] → v ≡ record u { words = left } → AllGiven u front v
words_given u v [] left has is some after = absurd (some refl)
words_given u v (w ∷ front) left has is some after =
    given u v (w ∷ front) some (ap (λ p. available_with p (plain_front u.ended u.words)) has ∙ front_only u.ended u.words (w ∷ front) left is)
    (after ∙ ap (λ (l : List (List ℕ)). record u { words = l }) (sym (left_after_front u.ended u.words (w ∷ front) left is)) ∙ ap (λ p. without p (suc (length front)) u) (sym has))

pub came_is : (came other : List (List ℕ)) → steps.items came ≡ steps.items other → other ≡ came
came_is came other is = cc

-- these words were read
front_read : (u v : UnreadLine) (came front others left tail : List (List ℕ)) → IsPlainFront u.ended u.words front others → others ≡ left ++ tail
    → (IsPlainFront u.ended (front ++ left) front left → AllGiven (with_words (front ++ left) u) came (with_words left v)) → Cut u tail (λ x. AllGiven x came (with_words left v))
front_read u v came front others left tail plain left_is given =
    let cut = subst (IsPlainFront u.ended u.words front) left_is plain in
    record { before = front ++ left; words_are = cut.words_are ∙ sym (append_assoc front left tail); holds = given (front_cut u.ended u.words front left tail cut) }

full_cut : (u v : UnreadLine) (came left tail : List (List ℕ)) → v.words ≡ left ++ tail → FullStep u (steps.items came) v → Cut u tail (λ x. AllGiven x came (with_words left v))
full_cut u v came left tail is (joined_one value has r_is after) =
    none_read left (same_words after) is (subst (λ l. AllGiven (with_words left u) l (with_words left v)) (came_is came (value ∷ []) r_is) (joined_given (with_words left u) (with_words left v) value has (ap (with_words left) after)))
full_cut u v came left tail is (attached_first value front others has plain r_is after) =
    front_read u v came front others left tail plain (sym (same_words after) ∙ is)
    (λ cut. subst (λ l. AllGiven (with_words (front ++ left) u) l (with_words left v)) (came_is came (value ∷ front) r_is)
    (attached_given (with_words (front ++ left) u) (with_words left v) value front left has cut (ap (with_words left) after)))
full_cut u v came left tail is (words_alone front others has plain some r_is after) =
    front_read u v came front others left tail plain (sym (same_words after) ∙ is)
    (λ cut. subst (λ l. AllGiven (with_words (front ++ left) u) l (with_words left v)) (came_is came front r_is)
    (words_given (with_words (front ++ left) u) (with_words left v) front left has cut some (ap (with_words left) after)))
full_cut u v came left tail is (nothing_given has none r_is after) = absurd (let e : steps.items came ≡ steps.missing _ = r_is in cc)

-- ---- items

-- memory did not run out
pub enough : (P : UnreadLine → Reply → UnreadLine → Type 0) (u : UnreadLine) (r : Reply) (v : UnreadLine) → steps.Answers P u r v → r ≢ steps.no_memory → P u r v
enough P u r v (inl step) other = step
enough P u r v (inr refused) other = absurd (other refused.reply_is)

first_cut : (t : Table) (u w : UnreadLine) (item : Item) (left tail : List (List ℕ)) → w.words ≡ left ++ tail → ReadsFirst t u item w → Cut u tail (λ x. ReadsFirst t x item (with_words left w))
first_cut t u w item left tail is (first_positional word v step) =
    let cut = step_cut u w (steps.positional word) left tail is (enough NextStep u (steps.positional word) w step (λ none. cc)) in
    also cut (first_positional word (with_words left w) (inl cut.holds))
first_cut t u w item left tail is (first_flag name v none step) =
    let cut = step_cut u w (option_reply name) left tail is (option_given u w name step) in also cut (first_flag name (with_words left w) none (inl cut.holds))
first_cut t u w item left tail is (first_one name word v x k step takes) =
    let value = value_cut v w (steps.taken word) left tail is (enough ValueStep v (steps.taken word) w takes (λ none. cc)) in
    let cut = step_cut u v (option_reply name) value.before tail value.words_are (option_given u v name step) in
    also cut (first_one name word (with_words value.before v) (with_words left w) k (inl cut.holds) (inl value.holds))
first_cut t u w item left tail is (first_optional name word v x k step takes) =
    let value = optional_cut v w (steps.maybe word) left tail is (enough OptionalStep v (steps.maybe word) w takes (λ none. cc)) in
    let cut = step_cut u v (option_reply name) value.before tail value.words_are (option_given u v name step) in
    also cut (first_optional name word (with_words value.before v) (with_words left w) k (inl cut.holds) (inl value.holds))
first_cut t u w item left tail is (first_several name n words v x k step few takes) =
    let all = full_step n v w (steps.items words) few (enough (ValuesStep n) v (steps.items words) w takes (λ none. cc)) in
    let value = full_cut v w words left tail is all in
    let cut = step_cut u v (option_reply name) value.before tail value.words_are (option_given u v name step) in
    also cut (first_several name value.holds.asked words (with_words value.before v) (with_words left w) k (inl cut.holds) value.holds.few (inl value.holds.step))

pub items_cut : (t : Table) (u w : UnreadLine) (items : List Item) (left tail : List (List ℕ)) → w.words ≡ left ++ tail → ReadsItems t u items w → Cut u tail (λ x. ReadsItems t x items (with_words left w))
items_cut t u w [] left tail is reads =
    none_read left (same_words reads) is (ap (with_words left) reads)
items_cut t u w (item ∷ items) left tail is (v, first, others) =
    let later = items_cut t v w items left tail is others in
    let cut = first_cut t u v item later.before tail later.words_are first in also cut ((with_words later.before v, cut.holds, later.holds))
