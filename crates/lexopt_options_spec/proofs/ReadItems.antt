-- The items of a reading that reaches the end are read one by one.
use Rattle.lexopt_options_spec.proofs.Common.{◌≡◌, ◌≤◌, ℕ, zero, suc, List, ◌∷◌, length, take, Option, Some, None, refl, sym, subst, inl, arith, UnreadLine, spelling, ValuesStep, available, no_values}
use Rattle.lexopt_options_spec.proofs.Common.{some_values, Call, Run, StepWithMemory, AskedAfter, last, more, IsReading, ReadsFirst, ReadsItems, first_positional, first_flag, first_one}
use Rattle.lexopt_options_spec.proofs.Common.{first_optional, first_several, items_of_replies, item_after, option_reply, GoesOn, IsFull, with_memory}
use Rattle.lexopt_spec.specs.Steps as steps
use Rattle.lexopt_spec.specs.Steps.{Reply, Next, NextStep, ValueStep, OptionalStep, pending_value, takes_word, nothing_to_take, optional_pending, optional_none}
use Rattle.lexopt_spec.specs.Runs as calls
use Rattle.lexopt_line_spec.specs.Table.{Item, Kind, Name, Table, short, long, kind, flag, one, optional, several, option, many, positional}
use Rattle.lexopt_line_spec.proofs.ReplyKinds.{next_reply, value_reply, optional_reply}
use Rattle.lexopt_line_spec.proofs.Readings.{flag_item}

-- these items are read one by one, and then the line ends
pub record ReadsAll (t : Table) (u : UnreadLine) (items : List Item) (after : UnreadLine) : Type 0 where
  pub there : UnreadLine
  pub reads : ReadsItems t u items there
  pub ends : NextStep there steps.end after

-- what a call for values returns, unless there are none
value_came : (v w : UnreadLine) (r : Reply) → ((o : _) → r ≡ steps.missing o → ⊥) → ValueStep v r w → (word : List ℕ) × (r ≡ steps.taken word)
value_came v w r some (pending_value value by_equals has is after) = (value, is)
value_came v w r some (takes_word word ws none left is after) = (word, is)
value_came v w r some (nothing_to_take none empty is after) = absurd (some (spelling v.last) is)

maybe_came : (v w : UnreadLine) (r : Reply) → OptionalStep v r w → (value : Option (List ℕ)) × (r ≡ steps.maybe value)
maybe_came v w r (optional_pending value by_equals has is after) = (Some value, is)
maybe_came v w r (optional_none none is after) = (None, is)

values_came : (n : ℕ) (v w : UnreadLine) (r : Reply) → ((o : _) → r ≡ steps.missing o → ⊥) → ValuesStep n v r w → (values : List (List ℕ)) × (r ≡ steps.items values)
values_came n v w r some (no_values none is after) = absurd (some (spelling v.last) is)
values_came n v w r some (some_values left is after) = (take n (available v), is)

-- what holds for a shorter list of calls
abbrev Shorter : Table → UnreadLine → ℕ → Type 0
Shorter t after n = (w : UnreadLine) (cs : List Call) (rs : List Reply) → length cs ≤ n → AskedAfter t steps.end flag cs rs → Run w cs rs after → ReadsAll t w (items_of_replies rs) after

-- an item, and those of the calls after it
item_first : (t : Table) (u w after : UnreadLine) (n : ℕ) (item : Item) (l : Kind) (cs : List Call) (rs : List Reply) → ReadsFirst t u item w → l ≡ flag → length cs ≤ n
    → AskedAfter t steps.end l cs rs → Run w cs rs after → Shorter t after n → ReadsAll t u (item ∷ items_of_replies rs) after
item_first t u w after n item l cs rs first is small asked run later =
    let all = later w cs rs small (subst (λ k. AskedAfter t steps.end k cs rs) is asked) run in
    record { there = all.there; reads = (w, first, all.reads); ends = all.ends }

-- an option, and its values
option_parsed : (t : Table) (name : Name) (k : Kind) (u v after : UnreadLine) (n : ℕ) (cs : List Call) (rs : List Reply) → kind t name ≡ k → Next u (option_reply name) v → length cs ≤ n
    → AskedAfter t steps.end k cs rs → Run v cs rs after → Shorter t after n → ReadsAll t u (item_after name rs ∷ items_of_replies rs) after
option_parsed t name flag u v after n cs rs is next small asked run later =
    subst (λ item. ReadsAll t u (item ∷ items_of_replies rs) after) (sym (flag_item t steps.end name v after cs rs flag refl asked run))
    (item_first t u v after n (option name None) flag cs rs (first_flag name v is next) refl small asked run later)
option_parsed t name one u v after n cs rs is next small (last k call due stops) run later =
    absurd (value_reply v run.0 steps.end (subst (λ c. StepWithMemory c v steps.end run.0) due (with_memory call v run.0 steps.end (λ none. cc) run.1)))
option_parsed t name one u v after n cs rs is next small (more k l call reply ds ss due full goes asked) run later =
    let step = subst (λ c. StepWithMemory c v reply run.0) due (with_memory call v run.0 reply (λ none. subst (λ x. GoesOn t x l) none goes) run.1) in
    let came = value_came v run.0 reply (λ o none. subst (λ x. GoesOn t x l) none goes) step in
    let first = first_one name came.0 v run.0 is next (inl (subst (λ r. ValueStep v r run.0) came.1 step)) in
    subst (λ r. ReadsAll t u (item_after name (r ∷ ss) ∷ items_of_replies (r ∷ ss)) after) (sym came.1)
    (item_first t u run.0 after n (option name (Some came.0)) l ds ss first (subst (λ r. GoesOn t r l) came.1 goes) (omega (arith, small)) asked run.2 later)
option_parsed t name optional u v after n cs rs is next small (last k call due stops) run later =
    absurd (optional_reply v run.0 steps.end (subst (λ c. StepWithMemory c v steps.end run.0) due (with_memory call v run.0 steps.end (λ none. cc) run.1)))
option_parsed t name optional u v after n cs rs is next small (more k l call reply ds ss due full goes asked) run later =
    let step = subst (λ c. StepWithMemory c v reply run.0) due (with_memory call v run.0 reply (λ none. subst (λ x. GoesOn t x l) none goes) run.1) in
    let came = maybe_came v run.0 reply step in
    let first = first_optional name came.0 v run.0 is next (inl (subst (λ r. OptionalStep v r run.0) came.1 step)) in
    subst (λ r. ReadsAll t u (item_after name (r ∷ ss) ∷ items_of_replies (r ∷ ss)) after) (sym came.1)
    (item_first t u run.0 after n (option name came.0) l ds ss first (subst (λ r. GoesOn t r l) came.1 goes) (omega (arith, small)) asked run.2 later)
option_parsed t name several u v after n cs rs is next small (last k call due stops) run later =
    let came = values_came due.0 v run.0 steps.end (λ o none. cc) (subst (λ c. StepWithMemory c v steps.end run.0) due.1 (with_memory call v run.0 steps.end (λ none. cc) run.1)) in
    absurd (let e : steps.end ≡ steps.items came.0 = came.1 in cc)
option_parsed t name several u v after n cs rs is next small (more k l call reply ds ss due full goes asked) run later =
    let step = subst (λ c. StepWithMemory c v reply run.0) due.1 (with_memory call v run.0 reply (λ none. subst (λ x. GoesOn t x l) none goes) run.1) in
    let came = values_came due.0 v run.0 reply (λ o none. subst (λ x. GoesOn t x l) none goes) step in
    let few = subst (λ r. IsFull (calls.values due.0) r) came.1 (subst (λ c. IsFull c reply) due.1 full) in
    let first = first_several name due.0 came.0 v run.0 is next few (inl (subst (λ r. ValuesStep due.0 v r run.0) came.1 step)) in
    subst (λ r. ReadsAll t u (item_after name (r ∷ ss) ∷ items_of_replies (r ∷ ss)) after) (sym came.1)
    (item_first t u run.0 after n (many name came.0) l ds ss first (subst (λ r. GoesOn t r l) came.1 goes) (omega (arith, small)) asked run.2 later)

reply_parsed : (t : Table) (u v after : UnreadLine) (n : ℕ) (reply : Reply) (l : Kind) (cs : List Call) (rs : List Reply) → NextStep u reply v → GoesOn t reply l → length cs ≤ n
    → AskedAfter t steps.end l cs rs → Run v cs rs after → Shorter t after n → ReadsAll t u (items_of_replies (reply ∷ rs)) after
reply_parsed t u v after n (steps.short c) l cs rs step goes small asked run later = option_parsed t (short c) l u v after n cs rs (sym goes) (inl step) small asked run later
reply_parsed t u v after n (steps.long name) l cs rs step goes small asked run later = option_parsed t (long name) l u v after n cs rs (sym goes) (inl step) small asked run later
reply_parsed t u v after n (steps.positional word) l cs rs step goes small asked run later =
    item_first t u v after n (positional word) l cs rs (first_positional word v (inl step)) goes small asked run later
reply_parsed t u v after n (steps.taken word) l cs rs step goes small asked run later = absurd (next_reply u v (steps.taken word) step)
reply_parsed t u v after n (steps.maybe word) l cs rs step goes small asked run later = absurd (next_reply u v (steps.maybe word) step)
reply_parsed t u v after n (steps.items words) l cs rs step goes small asked run later = absurd (next_reply u v (steps.items words) step)
reply_parsed t u v after n r l cs rs step goes small asked run later = absurd goes

line_parsed : (t : Table) (u after : UnreadLine) (n : ℕ) (cs : List Call) (rs : List Reply) → length cs ≤ suc n → AskedAfter t steps.end flag cs rs → Run u cs rs after → Shorter t after n → ReadsAll t u (items_of_replies rs) after
line_parsed t u after n cs rs small (last k call due stops) run later = record {
  there = u;
  reads = refl;
  ends = subst (λ w. NextStep u steps.end w) (sym run.2) (subst (λ c. StepWithMemory c u steps.end run.0) due (with_memory call u run.0 steps.end (λ none. cc) run.1));
}
line_parsed t u after n cs rs small (more k l call reply ds ss due full goes asked) run later =
    reply_parsed t u run.0 after n reply l ds ss (subst (λ c. StepWithMemory c u reply run.0) due (with_memory call u run.0 reply (λ none. subst (λ x. GoesOn t x l) none goes) run.1)) goes (omega (arith, small)) asked run.2 later

all_within : (n : ℕ) (t : Table) (u after : UnreadLine) (cs : List Call) (rs : List Reply) → length cs ≤ n → AskedAfter t steps.end flag cs rs → Run u cs rs after → ReadsAll t u (items_of_replies rs) after
all_within zero t u after cs rs small (last k call due stops) run = absurd (omega (arith, small))
all_within zero t u after cs rs small (more k l call reply ds ss due full goes asked) run = absurd (omega (arith, small))
all_within (suc n) t u after cs rs small asked run = line_parsed t u after n cs rs small asked run (λ w ds ss less again later. all_within n t w after ds ss less again later)

pub all_read : (t : Table) (u : UnreadLine) (items : List Item) (reading : IsReading t u steps.end items) → ReadsAll t u items reading.after
all_read t u items reading =
    subst (λ l. ReadsAll t u l reading.after) (sym reading.items_are) (all_within (length reading.calls) t u reading.after reading.calls reading.replies (omega arith) reading.asked reading.run)
