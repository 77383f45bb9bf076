-- Each line that a parser can have has a reading, and every other reading of it gives the same
-- items.
use Rattle.std.proofs.Common.{◌≡◌, ◌≢◌, ◌<◌, ◌≤◌, ℕ, zero, suc, List, [], ◌∷◌, length, take, refl, sym, ap, subst, ◌∙◌, arith, inl, inr}
use Rattle.lexopt_spec.specs.UnreadLine.{UnreadLine, IsLine, pending}
use Rattle.lexopt_spec.specs.Steps as steps
use Rattle.lexopt_spec.specs.Steps.{Reply, Next, NextStep}
use Rattle.lexopt_spec.specs.Views.{available, without, ValuesStep, no_values, some_values}
use Rattle.lexopt_spec.specs.Runs as calls
use Rattle.lexopt_spec.specs.Runs.{Call, next, value, Step, StepWithMemory, Run}
use Rattle.lexopt_line_spec.specs.Bound.{bound}
use Rattle.lexopt_line_spec.specs.Table.{Name, short, long, Item, Kind, flag, one, optional, several, kind, Table}
use Rattle.lexopt_line_spec.specs.Readings.{IsDue, IsLast, IsFull, GoesOn, AskedAfter, last, more, item_after, items_of_replies, option_reply, IsReading}
use Rattle.lexopt_line_spec.proofs.Bounds.{step_bound, given_falls}
use Rattle.lexopt_line_spec.proofs.Calls.{call_answer, call_same}
use Rattle.lexopt_line_spec.proofs.FullValues.{all_came, full_answer, full_step}
use Rattle.lexopt_line_spec.proofs.Lines.{next_line}
use Rattle.lexopt_line_spec.proofs.ReplyKinds.{IsNextReply, next_reply, IsValueReply, value_reply, optional_reply, values_reply}
use Rattle.lexopt_line_spec.proofs.RunAccounts.{step_line}
use Rattle.lexopt_line_spec.proofs.StepsAfterOptions.{last_full}
use Rattle.lexopt_line_spec.proofs.Total.{next_answer}

-- ---- a reading

-- after an option of this kind, a reading of the line reaches a last reply
record IsRead (t : Table) (k : Kind) (u : UnreadLine) : Type 0 where
  pub final : Reply
  pub calls : List Call
  pub replies : List Reply
  pub after : UnreadLine
  pub run : Run u calls replies after
  pub asked : AskedAfter t final k calls replies

-- each line whose bound is no greater has a reading
abbrev Later : Table → UnreadLine → Type 0
Later t v = (w : UnreadLine) → IsLine w → bound w ≤ bound v → IsRead t flag w

continues : (t : Table) (k : Kind) (v w : UnreadLine) (call : Call) (r : Reply) → IsDue k call → IsFull call r → GoesOn t r flag → IsLine v → StepWithMemory call v r w → Later t v → IsRead t k v
continues t k v w call r due full goes line step later =
    let falls = step_bound call v r w (inl step) in
    let rest = later w (step_line call v r w line (inl step)) (omega arith) in
    record {
      final = rest.final;
      calls = call ∷ rest.calls;
      replies = r ∷ rest.replies;
      after = rest.after;
      run = (w, inl step, rest.run);
      asked = more k flag call r rest.calls rest.replies due full goes rest.asked;
    }

ends : (t : Table) (k : Kind) (v w : UnreadLine) (call : Call) (r : Reply) → IsDue k call → IsLast r → StepWithMemory call v r w → IsRead t k v
ends t k v w call r due is step = record {
  final = r;
  calls = call ∷ [];
  replies = r ∷ [];
  after = w;
  run = (w, inl step, refl);
  asked = last k call due is;
}

-- the reading of an option's values
due_read : (t : Table) (k : Kind) (v w : UnreadLine) (call : Call) (r : Reply) → IsDue k call → IsFull call r → IsValueReply r → IsLine v → StepWithMemory call v r w → Later t v → IsRead t k v
due_read t k v w call (steps.taken word) due full is line step later = continues t k v w call _ due full refl line step later
due_read t k v w call (steps.maybe given) due full is line step later = continues t k v w call _ due full refl line step later
due_read t k v w call (steps.items given) due full is line step later = continues t k v w call _ due full refl line step later
due_read t k v w call (steps.missing o) due full is line step later = ends t k v w call _ due tt step
due_read t k v w call r due full is line step later = absurd is

option_read : (t : Table) (k : Kind) (v : UnreadLine) → IsLine v → Later t v → IsRead t k v
option_read t flag v line later = later v line (omega arith)
option_read t one v line later =
    let a = call_answer value v line in
    due_read t one v a.1 value a.0 refl tt (value_reply v a.1 a.0 a.2) line a.2 later
option_read t optional v line later =
    let a = call_answer calls.optional v line in
    due_read t optional v a.1 calls.optional a.0 refl tt (optional_reply v a.1 a.0 a.2) line a.2 later
option_read t several v line later =
    let a = full_answer v in
    due_read t several v a.after (calls.values a.asked) a.reply (a.asked, refl) a.full
    (values_reply v a.after a.reply (full_step a.asked v a.after a.reply a.full a.step)) line a.step later

line_read : (t : Table) (u v : UnreadLine) (r : Reply) → IsLine u → NextStep u r v → IsNextReply r → ((w : UnreadLine) → IsLine w → bound w < bound u → IsRead t flag w) → IsRead t flag u
line_read t u v (steps.short c) line step is later =
    let falls = given_falls u v (steps.short c) (λ same. let e : steps.short c ≡ steps.end = same in cc) (λ same. let e : steps.short c ≡ steps.no_memory = same in cc) (inl step) in
    let rest = option_read t (kind t (short c)) v (next_line u v _ line step) (λ w at no_more. later w at (omega arith)) in
    record {
      final = rest.final;
      calls = next ∷ rest.calls;
      replies = steps.short c ∷ rest.replies;
      after = rest.after;
      run = (v, inl step, rest.run);
      asked = more flag (kind t (short c)) next (steps.short c) rest.calls rest.replies refl tt refl rest.asked;
    }
line_read t u v (steps.long n) line step is later =
    let falls = given_falls u v (steps.long n) (λ same. let e : steps.long n ≡ steps.end = same in cc) (λ same. let e : steps.long n ≡ steps.no_memory = same in cc) (inl step) in
    let rest = option_read t (kind t (long n)) v (next_line u v _ line step) (λ w at no_more. later w at (omega arith)) in
    record {
      final = rest.final;
      calls = next ∷ rest.calls;
      replies = steps.long n ∷ rest.replies;
      after = rest.after;
      run = (v, inl step, rest.run);
      asked = more flag (kind t (long n)) next (steps.long n) rest.calls rest.replies refl tt refl rest.asked;
    }
line_read t u v (steps.positional word) line step is later =
    let falls = given_falls u v (steps.positional word) (λ same. let e : steps.positional word ≡ steps.end = same in cc) (λ same. let e : steps.positional word ≡ steps.no_memory = same in cc) (inl step) in
    let rest = later v (next_line u v _ line step) falls in
    record {
      final = rest.final;
      calls = next ∷ rest.calls;
      replies = steps.positional word ∷ rest.replies;
      after = rest.after;
      run = (v, inl step, rest.run);
      asked = more flag flag next (steps.positional word) rest.calls rest.replies refl tt refl rest.asked;
    }
line_read t u v steps.end line step is later = ends t flag u v next _ refl tt step
line_read t u v (steps.unexpected o word) line step is later = ends t flag u v next _ refl tt step
line_read t u v r line step is later = absurd is

read_within : (n : ℕ) (t : Table) (u : UnreadLine) → IsLine u → bound u < n → IsRead t flag u
read_within zero t u line small = absurd (let none : bound u < 0 = small in omega arith)
read_within (suc n) t u line small =
    let a = next_answer u line in
    line_read t u a.1 a.0 line a.2 (next_reply u a.1 a.0 a.2) (λ w at less. read_within n t w at (omega arith))

pub some_reading : (t : Table) (u : UnreadLine) → IsLine u → (final : Reply) × (l : List Item) × IsReading t u final l
some_reading t u line =
    let a = read_within (suc (bound u)) t u line (omega arith) in
    (a.final, items_of_replies a.replies, record { calls = a.calls; replies = a.replies; after = a.after; run = a.run; asked = a.asked; items_are = refl })

-- the same after an option: a reading of its values, and then of the line after them
pub option_reading : (t : Table) (u v : UnreadLine) (name : Name) → IsLine v → Next u (option_reply name) v
    → (final : Reply) × (replies : List Reply) × IsReading t u final (item_after name replies ∷ items_of_replies replies)
option_reading t u v (short c) line step =
    let rest = option_read t (kind t (short c)) v line (λ w at no_more. read_within (suc (bound w)) t w at (omega arith)) in (
      rest.final,
      rest.replies,
      record {
        calls = next ∷ rest.calls;
        replies = steps.short c ∷ rest.replies;
        after = rest.after;
        run = (v, step, rest.run);
        asked = more flag (kind t (short c)) next (steps.short c) rest.calls rest.replies refl tt refl rest.asked;
        items_are = refl;
      },
    )
option_reading t u v (long n) line step =
    let rest = option_read t (kind t (long n)) v line (λ w at no_more. read_within (suc (bound w)) t w at (omega arith)) in (
      rest.final,
      rest.replies,
      record {
        calls = next ∷ rest.calls;
        replies = steps.long n ∷ rest.replies;
        after = rest.after;
        run = (v, step, rest.run);
        asked = more flag (kind t (long n)) next (steps.long n) rest.calls rest.replies refl tt refl rest.asked;
        items_are = refl;
      },
    )

-- ---- no other reading

full_same : (n m : ℕ) (u v w : UnreadLine) (r s : Reply) → IsFull (calls.values n) r → IsFull (calls.values m) s → ValuesStep n u r v → ValuesStep m u s w → (r ≡ s) × (v ≡ w)
full_same n m u v w r s full other (no_values none r_is v_is) (no_values too s_is w_is) = (r_is ∙ sym s_is, v_is ∙ sym w_is)
full_same n m u v w r s full other (no_values none r_is v_is) (some_values some s_is w_is) = absurd (some none)
full_same n m u v w r s full other (some_values some r_is v_is) (no_values none s_is w_is) = absurd (some none)
full_same n m u v w r s full other (some_values some r_is v_is) (some_values too s_is w_is) =
    let all : take n (available u) ≡ take m (available u) =
    all_came n (available u) (subst (IsFull (calls.values n)) r_is full) ∙ sym (all_came m (available u) (subst (IsFull (calls.values m)) s_is other)) in
    (r_is ∙ ap steps.items all ∙ sym s_is, v_is ∙ ap (λ l. without (pending u) (length l) u) all ∙ sym w_is)

pub due_same : (k : Kind) (call other : Call) (u v w : UnreadLine) (r s : Reply) → IsDue k call → IsDue k other → IsFull call r → IsFull other s
    → StepWithMemory call u r v → StepWithMemory other u s w → (r ≡ s) × (v ≡ w)
due_same flag call other u v w r s due too full all step again =
    call_same next u r s v w (subst (λ c. StepWithMemory c u r v) due step) (subst (λ c. StepWithMemory c u s w) too again)
due_same one call other u v w r s due too full all step again =
    call_same value u r s v w (subst (λ c. StepWithMemory c u r v) due step) (subst (λ c. StepWithMemory c u s w) too again)
due_same optional call other u v w r s due too full all step again =
    call_same calls.optional u r s v w (subst (λ c. StepWithMemory c u r v) due step) (subst (λ c. StepWithMemory c u s w) too again)
due_same several call other u v w r s due too full all step again =
    full_same due.0 too.0 u v w r s (subst (λ c. IsFull c r) due.1 full) (subst (λ c. IsFull c s) too.1 all)
    (subst (λ c. StepWithMemory c u r v) due.1 step) (subst (λ c. StepWithMemory c u s w) too.1 again)

pub with_memory : (call : Call) (u v : UnreadLine) (r : Reply) → r ≢ steps.no_memory → Step call u r v → StepWithMemory call u r v
with_memory call u v r some (inl step) = step
with_memory call u v r some (inr refused) = absurd (some refused.reply_is)

last_stops : (t : Table) (r : Reply) (k : Kind) → IsLast r → GoesOn t r k → ⊥
last_stops t steps.end k is goes = goes
last_stops t (steps.missing o) k is goes = goes
last_stops t (steps.unexpected o word) k is goes = goes
last_stops t r k is goes = absurd is

kind_same : (t : Table) (r : Reply) (k l : Kind) → GoesOn t r k → GoesOn t r l → k ≡ l
kind_same t (steps.short c) k l x y = x ∙ sym y
kind_same t (steps.long name) k l x y = x ∙ sym y
kind_same t (steps.positional word) k l x y = x ∙ sym y
kind_same t (steps.taken word) k l x y = x ∙ sym y
kind_same t (steps.maybe word) k l x y = x ∙ sym y
kind_same t (steps.items words) k l x y = x ∙ sym y
kind_same t r k l x y = absurd x

-- two readings of the same line have the same replies
pub same_replies : (t : Table) (final other : Reply) (k l : Kind) (u v w : UnreadLine) (calls again : List Call) (replies others : List Reply) → k ≡ l
    → AskedAfter t final k calls replies → AskedAfter t other l again others → Run u calls replies v → Run u again others w → (final ≡ other) × (replies ≡ others)
same_replies t final other k l u v w calls again replies others same (last k1 call due is) (last k2 call2 due2 is2) run run2 =
    let r = due_same k2 call call2 u run.0 run2.0 final other (subst (λ x. IsDue x call) same due) due2 (last_full call final is) (last_full call2 other is2)
    (with_memory call u run.0 final (λ none. subst IsLast none is) run.1) (with_memory call2 u run2.0 other (λ none. subst IsLast none is2) run2.1) in
    (r.0, ap (λ x. x ∷ []) r.0)
same_replies t final other k l u v w calls again replies others same (last k1 call due is) (more k2 m call2 reply2 calls2 replies2 due2 full2 goes2 asked2) run run2 =
    let r = due_same k2 call call2 u run.0 run2.0 final reply2 (subst (λ x. IsDue x call) same due) due2 (last_full call final is) full2
    (with_memory call u run.0 final (λ none. subst IsLast none is) run.1) (with_memory call2 u run2.0 reply2 (λ none. subst (λ x. GoesOn t x m) none goes2) run2.1) in
    absurd (last_stops t reply2 m (subst IsLast r.0 is) goes2)
same_replies t final other k l u v w calls again replies others same (more k1 m call reply calls1 replies1 due full goes asked) (last k2 call2 due2 is2) run run2 =
    let r = due_same k2 call call2 u run.0 run2.0 reply other (subst (λ x. IsDue x call) same due) due2 full (last_full call2 other is2)
    (with_memory call u run.0 reply (λ none. subst (λ x. GoesOn t x m) none goes) run.1) (with_memory call2 u run2.0 other (λ none. subst IsLast none is2) run2.1) in
    absurd (last_stops t other m is2 (subst (λ x. GoesOn t x m) r.0 goes))
same_replies t final other k l u v w calls again replies others same (more k1 m call reply calls1 replies1 due full goes asked) (more k2 n call2 reply2 calls2 replies2 due2 full2 goes2 asked2) run run2 =
    let r = due_same k2 call call2 u run.0 run2.0 reply reply2 (subst (λ x. IsDue x call) same due) due2 full full2
    (with_memory call u run.0 reply (λ none. subst (λ x. GoesOn t x m) none goes) run.1) (with_memory call2 u run2.0 reply2 (λ none. subst (λ x. GoesOn t x n) none goes2) run2.1) in
    let others = same_replies t final other m n run.0 v w calls1 calls2 replies1 replies2 (kind_same t reply2 m n (subst (λ x. GoesOn t x m) r.0 goes) goes2) asked asked2
    run.2 (subst (λ x. Run x calls2 replies2 w) (sym r.1) run2.2) in
    (others.0, ap (λ x. x ∷ replies1) r.0 ∙ ap (λ x. reply2 ∷ x) others.1)

pub no_other_reading : (t : Table) (u : UnreadLine) (final other : Reply) (l m : List Item) → IsReading t u final l → IsReading t u other m → (final ≡ other) × (l ≡ m)
no_other_reading t u final other l m read again =
    let same = same_replies t final other flag flag u read.after again.after read.calls again.calls read.replies again.replies refl read.asked again.asked read.run again.run in
    (same.0, read.items_are ∙ ap items_of_replies same.1 ∙ sym again.items_are)
