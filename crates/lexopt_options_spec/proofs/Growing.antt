-- A line is read in the same way if more words come at its end.
use Rattle.lexopt_options_spec.proofs.Common.{◌≡◌, ◌≢◌, ◌<◌, ℕ, Bool, true, false, not, List, [], ◌∷◌, ◌++◌, length, take, drop, Option, Some, None, refl, sym, ap, subst, ◌∙◌, inl, append_assoc}
use Rattle.lexopt_options_spec.proofs.Common.{true≢false, append-nil, All-nil, All-cons, All-append, dash, no_tail, UnreadLine, IsLine, spelling, pending, IsPlain, IsNormalIn, IsPlainFront}
use Rattle.lexopt_options_spec.proofs.Common.{plain_front, available, available_with, without, ValuesStep, no_values, some_values, Step, Item, Name, short, long, flag, one, optional, several, kind}
use Rattle.lexopt_options_spec.proofs.Common.{Table, many, ReadsFirst, ReadsItems, first_positional, first_flag, first_one, first_optional, first_several, option_reply, next_same, FullStep}
use Rattle.lexopt_options_spec.proofs.Common.{joined_one, attached_first, words_alone, nothing_given, full_step, option_given, step_line, HandedItems, hands_nothing, hands_pending, hands_words}
use Rattle.lexopt_options_spec.proofs.Common.{values_hands, none_tail}
use Rattle.lexopt_spec.specs.Steps as steps
use Rattle.lexopt_spec.specs.Steps.{Reply, Next, Value, NextStep, ValueStep, OptionalStep, ReadsShort, ReadsPositional, no_word_left, word_left, ReadsWord, no_word, reads_separator, reads_long, reads_cluster, reads_positional, joined_value, equals_value, next_in_cluster, after_separator, next_word, pending_value, takes_word, nothing_to_take, optional_pending, optional_none}
use Rattle.lexopt_spec.specs.Runs as calls
use Rattle.lexopt_spec.proofs.PlainFronts.{front-more, front-none}
use Rattle.lexopt_line_spec.specs.Table as spec
use Rattle.lexopt_line_spec.proofs.Lines.{next_line}
use Rattle.lexopt_line_spec.proofs.ReplyKinds.{next_open}
use Rattle.lexopt_options_spec.proofs.Cuts.{AllGiven, joined_given, attached_given, words_given, came_is, ends_here, enough}
use Rattle.lexopt_options_spec.proofs.Lists.{not_empty}
use Rattle.std.proofs.lemmas.Bool.{true_from_ne_false}

-- the line with more words at its end
abbrev pub longer : List (List ℕ) → UnreadLine → UnreadLine
longer tail u = record u { words = u.words ++ tail }

-- at the end of a line these words are no further values
abbrev pub Calm : UnreadLine → List (List ℕ) → Type 0
Calm u tail = u.words ≡ [] → u.tail ≡ no_tail → ¬ IsNormalIn false tail

-- an option of several values is read, and at the end of the line one more plain word is one more
-- value of it
pub record Opened (t : Table) (u : UnreadLine) (item : Item) (w : UnreadLine) : Type 0 where
  pub name : Name
  pub values : List (List ℕ)
  pub is : item ≡ many name values
  pub before_separator : w.ended ≡ false
  pub more : w.words ≡ [] → (p : List ℕ) → IsPlain false p → ReadsFirst t (longer (p ∷ []) u) (many name (values ++ p ∷ [])) w

-- this item is read first; `opens` tells whether one more plain word at the end of the line is one
-- more value of it
pub record Grows (t : Table) (u : UnreadLine) (item : Item) (opens : Bool) (w : UnreadLine) : Type 0 where
  pub reads : ReadsFirst t u item w
  pub calm : (tail : List (List ℕ)) → Calm w tail → ReadsFirst t (longer tail u) item (longer tail w)
  pub closed : opens ≡ false → (tail : List (List ℕ)) → ReadsFirst t (longer tail u) item (longer tail w)
  pub opened : opens ≡ true → Opened t u item w

-- ---- steps

short_more : (tail : List (List ℕ)) (bytes : List ℕ) (u v : UnreadLine) (r : Reply) → ReadsShort bytes u r v → ReadsShort bytes (longer tail u) r (longer tail v)
short_more tail bytes u v r reads = record { some = reads.some; reply_is = reads.reply_is; after_is = ap (longer tail) reads.after_is }

positional_more : (tail : List (List ℕ)) (u v : UnreadLine) (r : Reply) → r ≢ steps.end → ReadsPositional u r v → ReadsPositional (longer tail u) r (longer tail v)
positional_more tail u v r more (no_word_left none r_is after) = absurd (more r_is)
positional_more tail u v r more (word_left w ws some r_is after) = word_left w (ws ++ tail) (ap (λ l. l ++ tail) some) r_is (ap (longer tail) after)

word_more : (tail : List (List ℕ)) (u v : UnreadLine) (r : Reply) → r ≢ steps.end → ReadsWord u r v → ReadsWord (longer tail u) r (longer tail v)
word_more tail u v r more (no_word none r_is after) = absurd (more r_is)
word_more tail u v r more (reads_separator ws some reads) =
    reads_separator (ws ++ tail) (ap (λ l. l ++ tail) some) (positional_more tail (record u { words = ws; ended = true }) v r more reads)
word_more tail u v r more (reads_long text name left ws some other is_long r_is after) = reads_long text name left (ws ++ tail) (ap (λ l. l ++ tail) some) other is_long r_is (ap (longer tail) after)
word_more tail u v r more (reads_cluster bytes ws some other reads) = reads_cluster bytes (ws ++ tail) (ap (λ l. l ++ tail) some) other (short_more tail bytes (record u { words = ws }) v r reads)
word_more tail u v r more (reads_positional w ws some plain r_is after) = reads_positional w (ws ++ tail) (ap (λ l. l ++ tail) some) plain r_is (ap (longer tail) after)

pub step_more : (u v : UnreadLine) (r : Reply) (tail : List (List ℕ)) → r ≢ steps.end → NextStep u r v → NextStep (longer tail u) r (longer tail v)
step_more u v r tail more (joined_value value o joins spelled r_is after) = joined_value value o joins spelled r_is (ap (longer tail) after)
step_more u v r tail more (equals_value value o joins on spelled r_is after) = equals_value value o joins on spelled r_is (ap (longer tail) after)
step_more u v r tail more (next_in_cluster bytes continues not reads) = next_in_cluster bytes continues not (short_more tail bytes u v r reads)
step_more u v r tail more (after_separator none ended reads) = after_separator none ended (positional_more tail u v r more reads)
step_more u v r tail more (next_word none not reads) = next_word none not (word_more tail u v r more reads)

pub next_more : (u v : UnreadLine) (r : Reply) (tail : List (List ℕ)) → r ≢ steps.end → r ≢ steps.no_memory → Next u r v → Next (longer tail u) r (longer tail v)
next_more u v r tail other found step = inl (step_more u v r tail other (enough NextStep u r v step found))

not_at_end : (name : Name) → option_reply name ≢ steps.end
not_at_end (short c) = λ is. cc
not_at_end (long name) = λ is. cc

pub option_more : (u v : UnreadLine) (name : Name) (tail : List (List ℕ)) → Next u (option_reply name) v → Next (longer tail u) (option_reply name) (longer tail v)
option_more u v name tail step = inl (step_more u v (option_reply name) tail (not_at_end name) (option_given u v name step))

value_more : (u v : UnreadLine) (word : List ℕ) (tail : List (List ℕ)) → Value u (steps.taken word) v → Value (longer tail u) (steps.taken word) (longer tail v)
value_more u v word tail step = inl (more (enough ValueStep u (steps.taken word) v step (λ none. cc)))
  where
    more : ValueStep u (steps.taken word) v → ValueStep (longer tail u) (steps.taken word) (longer tail v)
    more (pending_value value by_equals has r_is after) = pending_value value by_equals has r_is (ap (longer tail) after)
    more (takes_word w ws none some r_is after) = takes_word w (ws ++ tail) none (ap (λ l. l ++ tail) some) r_is (ap (longer tail) after)
    more (nothing_to_take none empty r_is after) = absurd (let e : steps.taken word ≡ steps.missing _ = r_is in cc)

optional_more : (u v : UnreadLine) (word : Option (List ℕ)) (tail : List (List ℕ)) → Step calls.optional u (steps.maybe word) v → Step calls.optional (longer tail u) (steps.maybe word) (longer tail v)
optional_more u v word tail step = inl (more (enough OptionalStep u (steps.maybe word) v step (λ none. cc)))
  where
    more : OptionalStep u (steps.maybe word) v → OptionalStep (longer tail u) (steps.maybe word) (longer tail v)
    more (optional_pending value by_equals has r_is after) = optional_pending value by_equals has r_is (ap (longer tail) after)
    more (optional_none none r_is after) = optional_none none r_is (ap (longer tail) after)

-- ---- at the end of a line nothing is read

pub only_end : (u v : UnreadLine) (r : Reply) → u.words ≡ [] → u.tail ≡ no_tail → NextStep u r v → r ≡ steps.end
only_end u v r none alone step = (next_same u r steps.end v u step (ends_here u u.ended refl alone none)).0

pub no_option : (u v : UnreadLine) (name : Name) → u.words ≡ [] → u.tail ≡ no_tail → Next u (option_reply name) v → ⊥
no_option u v name none alone step = not_at_end name (only_end u v (option_reply name) none alone (option_given u v name step))

pub reads_something : (t : Table) (u w : UnreadLine) (item : Item) → u.words ≡ [] → u.tail ≡ no_tail → ReadsFirst t u item w → ⊥
reads_something t u w item none alone (first_positional word v step) =
    let e : steps.positional word ≡ steps.end = only_end u v (steps.positional word) none alone (enough NextStep u (steps.positional word) v step (λ is. cc)) in cc
reads_something t u w item none alone (first_flag name v k step) = no_option u v name none alone step
reads_something t u w item none alone (first_one name word v x k step takes) = no_option u v name none alone step
reads_something t u w item none alone (first_optional name word v x k step takes) = no_option u v name none alone step
reads_something t u w item none alone (first_several name n words v x k step few takes) = no_option u v name none alone step

-- ---- items after which any words can come

grows_closed : (t : Table) (u w : UnreadLine) (item : Item) → ReadsFirst t u item w → ((tail : List (List ℕ)) → ReadsFirst t (longer tail u) item (longer tail w)) → Grows t u item false w
grows_closed t u w item reads more = record {
  reads = reads;
  calm = λ tail calm. more tail;
  closed = λ is tail. more tail;
  opened = λ is. absurd (true≢false (sym is));
}

pub grows_positional : (t : Table) (u v : UnreadLine) (word : List ℕ) → Next u (steps.positional word) v → Grows t u (spec.positional word) false v
grows_positional t u v word step =
    grows_closed t u v (spec.positional word) (first_positional word v step)
    (λ tail. first_positional word (longer tail v) (next_more u v (steps.positional word) tail (λ is. cc) (λ is. cc) step))

pub grows_flag : (t : Table) (u v : UnreadLine) (name : Name) → kind t name ≡ flag → Next u (option_reply name) v → Grows t u (spec.option name None) false v
grows_flag t u v name k step =
    grows_closed t u v (spec.option name None) (first_flag name v k step)
    (λ tail. first_flag name (longer tail v) k (option_more u v name tail step))

pub grows_one : (t : Table) (u v w : UnreadLine) (name : Name) (word : List ℕ) → kind t name ≡ one → Next u (option_reply name) v → Value v (steps.taken word) w
    → Grows t u (spec.option name (Some word)) false w
grows_one t u v w name word k step takes =
    grows_closed t u w (spec.option name (Some word)) (first_one name word v w k step takes)
    (λ tail. first_one name word (longer tail v) (longer tail w) k (option_more u v name tail step) (value_more v w word tail takes))

pub grows_optional : (t : Table) (u v w : UnreadLine) (name : Name) (word : Option (List ℕ)) → kind t name ≡ optional → Next u (option_reply name) v → Step calls.optional v (steps.maybe word) w
    → Grows t u (spec.option name word) false w
grows_optional t u v w name word k step takes =
    grows_closed t u w (spec.option name word) (first_optional name word v w k step takes)
    (λ tail. first_optional name word (longer tail v) (longer tail w) k (option_more u v name tail step) (optional_more v w word tail takes))

-- ---- several values

pub option_before_separator : (u v : UnreadLine) (name : Name) → IsLine u → Next u (option_reply name) v → v.ended ≡ false
option_before_separator u v (short c) line step = next_open u v (steps.short c) line (option_given u v (short c) step) tt
option_before_separator u v (long text) line step = next_open u v (steps.long text) line (option_given u v (long text) step) tt

-- values are taken on one side of the separator
pub hands_ended : (v w : UnreadLine) (l : List (List ℕ)) → HandedItems v l w → w.ended ≡ v.ended
hands_ended v w l (hands_nothing none after) = ap (λ (x : UnreadLine). x.ended) after
hands_ended v w l (hands_words left none are after) = ap (λ (x : UnreadLine). x.ended) after
hands_ended v w l (hands_pending value by_equals front left has is are after) = ap (λ (x : UnreadLine). x.ended) after

full_no_tail : (v w : UnreadLine) (r : Reply) → IsLine v → FullStep v r w → w.tail ≡ no_tail
full_no_tail v w r line (joined_one value has r_is after) = ap (λ (x : UnreadLine). x.tail) after
full_no_tail v w r line (attached_first value front left has plain r_is after) = ap (λ (x : UnreadLine). x.tail) after
full_no_tail v w r line (words_alone front left has plain some r_is after) = ap (λ (x : UnreadLine). x.tail) after ∙ none_tail v.short_equals v.tail v.last v.ended line has
full_no_tail v w r line (nothing_given has none r_is after) = ap (λ (x : UnreadLine). x.tail) after ∙ none_tail v.short_equals v.tail v.last v.ended line has

pub not_normal_more : (ended : Bool) (left tail : List (List ℕ)) → (left ≡ [] → ¬ IsNormalIn ended tail) → ¬ IsNormalIn ended left → ¬ IsNormalIn ended (left ++ tail)
not_normal_more ended [] tail calm none = calm refl
not_normal_more ended (w ∷ left) tail calm none = none

-- the front of plain words is still the longest
pub front_more : (ended : Bool) (words front left tail : List (List ℕ)) → (left ≡ [] → ¬ IsNormalIn ended tail) → IsPlainFront ended words front left → IsPlainFront ended (words ++ tail) front (left ++ tail)
front_more ended words front left tail calm is = record {
  words_are = ap (λ l. l ++ tail) is.words_are ∙ append_assoc front left tail;
  plain = is.plain;
  longest = not_normal_more ended left tail calm is.longest;
}

-- if no word is left, one more plain word is one more of the front
front_adds : (ended : Bool) (words front left : List (List ℕ)) (p : List ℕ) → left ≡ [] → IsPlain ended p → IsPlainFront ended words front left → IsPlainFront ended (words ++ p ∷ []) (front ++ p ∷ []) []
front_adds ended words front left p none plain is = record {
  words_are = ap (λ l. l ++ p ∷ []) (is.words_are ∙ ap (λ l. front ++ l) none ∙ append-nil front) ∙ sym (append-nil (front ++ p ∷ []));
  plain = All-append (IsPlain ended) front (p ∷ []) is.plain (All-cons (IsPlain ended) p [] plain (All-nil (IsPlain ended)));
  longest = λ h. h;
}

-- there is a pending value, and it is joined to its option by `=`
abbrev is_joined : Option (List ℕ × Bool) → Bool
is_joined None = false
is_joined (Some found) = found.1

joined_more : (v w : UnreadLine) (came tail : List (List ℕ)) (value : List ℕ) → pending v ≡ Some (value, true) → FullStep v (steps.items came) w → AllGiven (longer tail v) came (longer tail w)
joined_more v w came tail value is (joined_one one_value has r_is after) =
    subst (λ l. AllGiven (longer tail v) l (longer tail w)) (came_is came (one_value ∷ []) r_is) (joined_given (longer tail v) (longer tail w) one_value has (ap (longer tail) after))
joined_more v w came tail value is (attached_first other front left has plain r_is after) = absurd (true≢false (ap is_joined (sym is ∙ has)))
joined_more v w came tail value is (words_alone front left has plain some r_is after) = absurd (let e : Some (value, true) ≡ None = sym is ∙ has in cc)
joined_more v w came tail value is (nothing_given has none r_is after) = absurd (let e : Some (value, true) ≡ None = sym is ∙ has in cc)

values_more : (v w : UnreadLine) (came tail : List (List ℕ)) → (w.words ≡ [] → ¬ IsNormalIn v.ended tail) → FullStep v (steps.items came) w → AllGiven (longer tail v) came (longer tail w)
values_more v w came tail calm (joined_one value has r_is after) = joined_more v w came tail value has (joined_one value has r_is after)
values_more v w came tail calm (attached_first value front left has plain r_is after) =
    let left_is : w.words ≡ left = ap (λ (x : UnreadLine). x.words) after in
    subst (λ l. AllGiven (longer tail v) l (longer tail w)) (came_is came (value ∷ front) r_is)
    (attached_given (longer tail v) (longer tail w) value front (left ++ tail) has
    (front_more v.ended v.words front left tail (λ none. calm (left_is ∙ none)) plain) (ap (longer tail) after))
values_more v w came tail calm (words_alone front left has plain some r_is after) =
    let left_is : w.words ≡ left = ap (λ (x : UnreadLine). x.words) after in
    subst (λ l. AllGiven (longer tail v) l (longer tail w)) (came_is came front r_is)
    (words_given (longer tail v) (longer tail w) front (left ++ tail) has
    (front_more v.ended v.words front left tail (λ none. calm (left_is ∙ none)) plain) some (ap (longer tail) after))
values_more v w came tail calm (nothing_given has none r_is after) = absurd (let e : steps.items came ≡ steps.missing _ = r_is in cc)

-- at the end of the line, one more plain word is one more value
one_value_more : (v w : UnreadLine) (came : List (List ℕ)) (p : List ℕ) → v.ended ≡ false → ((value : List ℕ) → pending v ≡ Some (value, true) → ⊥) → w.words ≡ [] → IsPlain false p → FullStep v (steps.items came) w
    → AllGiven (longer (p ∷ []) v) (came ++ p ∷ []) w
one_value_more v w came p before apart none normal (joined_one value has r_is after) = absurd (apart value has)
one_value_more v w came p before apart none normal (attached_first value front left has plain r_is after) =
    let empty : left ≡ [] = sym (ap (λ (x : UnreadLine). x.words) after) ∙ none in
    subst (λ (l : List (List ℕ)). AllGiven (longer (p ∷ []) v) (l ++ p ∷ []) w) (came_is came (value ∷ front) r_is)
    (attached_given (longer (p ∷ []) v) w value (front ++ p ∷ []) [] has
    (front_adds v.ended v.words front left p empty (subst (λ e. IsPlain e p) (sym before) normal) plain)
    (after ∙ ap (λ (l : List (List ℕ)). record v { tail = no_tail; words = l }) empty))
one_value_more v w came p before apart none normal (words_alone front left has plain some r_is after) =
    let empty : left ≡ [] = sym (ap (λ (x : UnreadLine). x.words) after) ∙ none in
    subst (λ (l : List (List ℕ)). AllGiven (longer (p ∷ []) v) (l ++ p ∷ []) w) (came_is came front r_is)
    (words_given (longer (p ∷ []) v) w (front ++ p ∷ []) [] has
    (front_adds v.ended v.words front left p empty (subst (λ e. IsPlain e p) (sym before) normal) plain) (not_empty front [] p)
    (after ∙ ap (λ (l : List (List ℕ)). record v { words = l }) empty))
one_value_more v w came p before apart none normal (nothing_given has nothing r_is after) = absurd (let e : steps.items came ≡ steps.missing _ = r_is in cc)

several_read : (t : Table) (u v w : UnreadLine) (name : Name) (values : List (List ℕ)) → kind t name ≡ several → Next u (option_reply name) v → AllGiven v values w → ReadsFirst t u (many name values) w
several_read t u v w name values k step all = first_several name all.asked values v w k step all.few (inl all.step)

pub grows_several : (t : Table) (u v w : UnreadLine) (name : Name) (n : ℕ) (values : List (List ℕ)) (joined : Bool) → IsLine u → kind t name ≡ several → Next u (option_reply name) v
    → length values < n → Step (calls.values n) v (steps.items values) w → ((value : List ℕ) → pending v ≡ Some (value, true) → joined ≡ true)
    → (joined ≡ true → (value : List ℕ) × (pending v ≡ Some (value, true))) → Grows t u (many name values) (not joined) w
grows_several t u v w name n values joined line k step few takes if_pending if_joined =
    let before = option_before_separator u v name line step in
    let given = enough (ValuesStep n) v (steps.items values) w takes (λ none. cc) in
    let full = full_step n v w (steps.items values) few given in
    let nothing_left = full_no_tail v w (steps.items values) (next_line u v (option_reply name) line (option_given u v name step)) full in
    record {
      reads = first_several name n values v w k step few takes;
      calm = λ tail calm. several_read t (longer tail u) (longer tail v) (longer tail w) name values k (option_more u v name tail step)
          (values_more v w values tail (λ none. subst (λ e. ¬ IsNormalIn e tail) (sym before) (calm none nothing_left)) full);
      closed = λ is tail.
          let value = if_joined (true_from_ne_false joined (λ off. true≢false (sym (ap not off) ∙ is))) in
          several_read t (longer tail u) (longer tail v) (longer tail w) name values k (option_more u v name tail step) (joined_more v w values tail value.0 value.1 full);
      opened = λ is. record {
        name = name;
        values = values;
        is = refl;
        before_separator = hands_ended v w values (values_hands n v (steps.items values) w given) ∙ before;
        more = λ none p plain. several_read t (longer (p ∷ []) u) (longer (p ∷ []) v) w name (values ++ p ∷ []) k (option_more u v name (p ∷ []) step)
            (one_value_more v w values p before (λ value has. true≢false (sym is ∙ ap not (if_pending value has))) none plain full);
      };
    }

-- ---- items, one by one

pub grows_first : (t : Table) (u w : UnreadLine) (x : Item) → IsLine u → ReadsFirst t u x w → (opens : Bool) × Grows t u x opens w × IsLine w
grows_first t u w x line (first_positional word v step) = (false, grows_positional t u w word step, step_line calls.next u (steps.positional word) w line step)
grows_first t u w x line (first_flag name v k step) = (false, grows_flag t u w name k step, step_line calls.next u (option_reply name) w line step)
grows_first t u w x line (first_one name word v z k step takes) =
    (false, grows_one t u v w name word k step takes, step_line calls.value v (steps.taken word) w (step_line calls.next u (option_reply name) v line step) takes)
grows_first t u w x line (first_optional name word v z k step takes) =
    (false, grows_optional t u v w name word k step takes, step_line calls.optional v (steps.maybe word) w (step_line calls.next u (option_reply name) v line step) takes)
grows_first t u w x line (first_several name n values v z k step few takes) = (
  not (is_joined (pending v)),
  grows_several t u v w name n values (is_joined (pending v)) line k step few takes (λ value has. ap is_joined has) (joined_value_in (pending v)),
  step_line (calls.values n) v (steps.items values) w (step_line calls.next u (option_reply name) v line step) takes,
)
  where
    joined_value_in : (found : Option (List ℕ × Bool)) → is_joined found ≡ true → (value : List ℕ) × (found ≡ Some (value, true))
    joined_value_in None is = absurd (true≢false (sym is))
    joined_value_in (Some (value, by_equals)) is = (value, ap (λ b. Some (value, b)) is)

-- where something is read, a line that ends there is not at its end
pub calm_before : (t : Table) (u w : UnreadLine) (x : Item) → ReadsFirst t u x w → (tail : List (List ℕ)) → Calm u tail
calm_before t u w x next tail none no_left = absurd (reads_something t u w x none no_left next)

pub items_calm : (t : Table) (tail : List (List ℕ)) (u w : UnreadLine) (items : List Item) → IsLine u → Calm w tail → ReadsItems t u items w → ReadsItems t (longer tail u) items (longer tail w)
items_calm t tail u w [] line calm reads = ap (longer tail) reads
items_calm t tail u w (x ∷ items) line calm (v, first, others) =
    let grows = grows_first t u v x line first in
    (longer tail v, grows.1.calm tail (before items others), items_calm t tail v w items grows.2 calm others)
  where
    before : (items : List Item) → ReadsItems t v items w → Calm v tail
    before [] is = subst (λ z. Calm z tail) is calm
    before (y ∷ ys) (z, next, more) = calm_before t v z y next tail

-- ---- the end of a line

-- the line u ends, and v is left: after the separator, before it, or with it
pub data EndsSo (u v : UnreadLine) : Type 0 where
  ended_before : u.tail ≡ no_tail → u.ended ≡ true → u.words ≡ [] → v ≡ u → EndsSo u v
  open_there : u.tail ≡ no_tail → u.ended ≡ false → u.words ≡ [] → v ≡ u → EndsSo u v
  separator_last : u.tail ≡ no_tail → u.ended ≡ false → u.words ≡ (dash ∷ dash ∷ []) ∷ [] → v ≡ record u { words = []; ended = true } → EndsSo u v

pub ends_so : (u v : UnreadLine) → NextStep u steps.end v → EndsSo u v
ends_so u v (joined_value value option joins spelled r_is after) = absurd (let e : steps.end ≡ steps.unexpected option value = r_is in cc)
ends_so u v (equals_value value option joins on spelled r_is after) = absurd (let e : steps.end ≡ steps.unexpected option value = r_is in cc)
ends_so u v (next_in_cluster bytes continues other reads) = absurd (let e : steps.end ≡ steps.short _ = reads.reply_is in cc)
ends_so u v (after_separator none ended (no_word_left empty r_is after)) = ended_before none ended empty after
ends_so u v (after_separator none ended (word_left w ws some r_is after)) = absurd (let e : steps.end ≡ steps.positional w = r_is in cc)
ends_so u v (next_word none before (no_word empty r_is after)) = open_there none before empty after
ends_so u v (next_word none before (reads_separator ws some (no_word_left empty r_is after))) =
    separator_last none before (some ∙ ap (λ l. (dash ∷ dash ∷ []) ∷ l) empty) (after ∙ ap (λ (l : List (List ℕ)). record u { words = l; ended = true }) empty)
ends_so u v (next_word none before (reads_separator ws some (word_left w more some_more r_is after))) = absurd (let e : steps.end ≡ steps.positional w = r_is in cc)
ends_so u v (next_word none before (reads_long text name tail ws some other long_so r_is after)) = absurd (let e : steps.end ≡ steps.long _ = r_is in cc)
ends_so u v (next_word none before (reads_cluster bytes ws some other reads)) = absurd (let e : steps.end ≡ steps.short _ = reads.reply_is in cc)
ends_so u v (next_word none before (reads_positional w ws some plain r_is after)) = absurd (let e : steps.end ≡ steps.positional w = r_is in cc)

-- one more word there is a positional, if it is plain or the separator was read
pub adds_word : (u v : UnreadLine) (p : List ℕ) → EndsSo u v → (v.ended ≡ false → IsPlain false p) → NextStep (longer (p ∷ []) u) (steps.positional p) v
adds_word u v p (ended_before none ended empty after) plain =
    after_separator none ended (word_left p [] (ap (λ l. l ++ p ∷ []) empty) refl (after ∙ ap (λ (l : List (List ℕ)). record u { words = l }) empty))
adds_word u v p (open_there none before empty after) plain =
    next_word none before
    (reads_positional p [] (ap (λ l. l ++ p ∷ []) empty) (plain (ap (λ (x : UnreadLine). x.ended) after ∙ before)) refl (after ∙ ap (λ (l : List (List ℕ)). record u { words = l }) empty))
adds_word u v p (separator_last none before last_is after) plain =
    next_word none before (reads_separator (p ∷ []) (ap (λ l. l ++ p ∷ []) last_is) (word_left p [] refl refl after))

-- ---- values that lack

pub takes_next : (v : UnreadLine) (word : List ℕ) → pending v ≡ None → v.words ≡ [] → Value (longer (word ∷ []) v) (steps.taken word) v
takes_next v word has none = inl (takes_word word [] has (ap (λ l. l ++ word ∷ []) none) refl (ap (λ (l : List (List ℕ)). record v { words = l }) none))

pub first_taken : (v : UnreadLine) (word : List ℕ) → pending v ≡ None → v.words ≡ [] → v.ended ≡ false → IsPlain false word → Step (calls.values 2) (longer (word ∷ []) v) (steps.items (word ∷ [])) v
first_taken v word has none before plain =
    inl (some_values (λ empty. let e : word ∷ [] ≡ [] = sym one_word ∙ empty in cc) (ap (λ (l : List (List ℕ)). steps.items (take 2 l)) (sym one_word))
    (ap (λ (l : List (List ℕ)). record v { words = l }) none
    ∙ ap (λ (l : List (List ℕ)). record v { words = drop 1 (l ++ word ∷ []) }) (sym none)
    ∙ ap (λ p. without p 1 (longer (word ∷ []) v)) (sym has)
    ∙ ap (λ (l : List (List ℕ)). without (pending v) (length (take 2 l)) (longer (word ∷ []) v)) (sym one_word)))
  where
    one_word : available (longer (word ∷ []) v) ≡ word ∷ []
    one_word = rw (has, none) (front-more v.ended word [] (subst (λ e. IsPlain e word) (sym before) plain))

pub values_lack : (n : ℕ) (v w : UnreadLine) (o : Option (List ℕ)) → ValuesStep n v (steps.missing o) w → (pending v ≡ None) × (¬ IsNormalIn v.ended v.words)
values_lack n v w o step = lacks (full_step n v w (steps.missing o) tt step)
  where
    lacks : FullStep v (steps.missing o) w → (pending v ≡ None) × (¬ IsNormalIn v.ended v.words)
    lacks (joined_one value has r_is after) = absurd (let e : steps.missing o ≡ steps.items (value ∷ []) = r_is in cc)
    lacks (attached_first value front left has plain r_is after) = absurd (let e : steps.missing o ≡ steps.items (value ∷ front) = r_is in cc)
    lacks (words_alone front left has plain some r_is after) = absurd (let e : steps.missing o ≡ steps.items front = r_is in cc)
    lacks (nothing_given has none r_is after) = (has, none)

pub lack_more : (v : UnreadLine) (n : ℕ) (tail : List (List ℕ)) → pending v ≡ None → ¬ IsNormalIn v.ended (v.words ++ tail) → ValuesStep n (longer tail v) (steps.missing (spelling v.last)) (longer tail v)
lack_more v n tail has none = no_values (ap (λ p. available_with p (plain_front v.ended (v.words ++ tail))) has ∙ front-none v.ended (v.words ++ tail) none) refl refl
