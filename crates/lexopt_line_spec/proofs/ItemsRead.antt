-- Items read from a line, one by one: a reading of the line that is left goes on from them, and
-- only one line is left.
use Rattle.std.proofs.Common.{◌≡◌, ◌≢◌, List, [], ◌∷◌, ◌++◌, refl, sym, ap, subst, ◌∙◌}
use Rattle.lexopt_spec.specs.UnreadLine.{UnreadLine}
use Rattle.lexopt_spec.specs.Steps as steps
use Rattle.lexopt_spec.specs.Steps.{Reply, Next, NextStep}
use Rattle.lexopt_spec.specs.Runs as calls
use Rattle.lexopt_spec.specs.Runs.{Call, StepWithMemory, next, value}
use Rattle.lexopt_line_spec.specs.Table.{Name, short, long, Item, Kind, flag, one, optional, several, kind, Table}
use Rattle.lexopt_line_spec.specs.Readings.{IsDue, IsFull, IsReading, ReadsFirst, first_positional, first_flag, first_one, first_optional, first_several, ReadsItems, MeansUpTo, option_reply}
use Rattle.lexopt_line_spec.proofs.Calls.{call_same}
use Rattle.lexopt_line_spec.proofs.OneReading.{due_same, with_memory}
use Rattle.lexopt_line_spec.proofs.ReadingSteps.{says_positional, says_flag, says_value, says_optional, says_several}

-- ---- readings

says_first : (t : Table) (u w : UnreadLine) (item : Item) → ReadsFirst t u item w → MeansUpTo t u (item ∷ []) w
says_first t u w item (first_positional word after step) = says_positional t u after word step
says_first t u w item (first_flag name after k step) = says_flag t u after name k step
says_first t u w item (first_one name word v after k step takes) = says_value t u v after name word k step takes
says_first t u w item (first_optional name word v after k step takes) = says_optional t u v after name word k step takes
says_first t u w item (first_several name n words v after k step few takes) = says_several t u v after name n words k few step takes

-- the items read, and then a reading of the line that is left, are a reading
pub says_items : (t : Table) (u w : UnreadLine) (items : List Item) → ReadsItems t u items w → MeansUpTo t u items w
says_items t u w [] is = λ final m reading. subst (λ x. IsReading t x final m) is reading
says_items t u w (item ∷ items) reads = λ final m reading.
    says_first t u reads.0 item reads.1 final (items ++ m) (says_items t reads.0 w items reads.2 final m reading)

-- one more item
pub one_more_item : (t : Table) (u v w : UnreadLine) (items : List Item) (item : Item) → ReadsItems t u items v → ReadsFirst t v item w → ReadsItems t u (items ++ item ∷ []) w
one_more_item t u v w [] item is first = (w, subst (λ x. ReadsFirst t x item w) is first, refl)
one_more_item t u v w (x ∷ items) item reads first = (reads.0, reads.1, one_more_item t reads.0 v w items item reads.2 first)

-- ---- one line is left

-- the first item, with enough memory
data First (t : Table) (u w : UnreadLine) : Type 0 where
  word_alone : (word : List _) → NextStep u (steps.positional word) w → First t u w
  flag_alone : (name : Name) → kind t name ≡ flag → NextStep u (option_reply name) w → First t u w
  with_values : (name : Name) (k : Kind) (call : Call) (reply : Reply) (v : UnreadLine) → kind t name ≡ k → k ≢ flag → NextStep u (option_reply name) v → IsDue k call → IsFull call reply
      → StepWithMemory call v reply w → First t u w

pub option_given : (u v : UnreadLine) (name : Name) → Next u (option_reply name) v → NextStep u (option_reply name) v
option_given u v (short c) step = with_memory next u v (steps.short c) (λ is. cc) step
option_given u v (long name) step = with_memory next u v (steps.long name) (λ is. cc) step

first_of : (t : Table) (u w : UnreadLine) (item : Item) → ReadsFirst t u item w → First t u w
first_of t u w item (first_positional word after step) = word_alone word (with_memory next u after (steps.positional word) (λ is. cc) step)
first_of t u w item (first_flag name after k step) = flag_alone name k (option_given u after name step)
first_of t u w item (first_one name word v after k step takes) =
    with_values name one value (steps.taken word) v k (λ is. cc) (option_given u v name step) refl tt (with_memory value v after (steps.taken word) (λ is. cc) takes)
first_of t u w item (first_optional name word v after k step takes) =
    with_values name optional calls.optional (steps.maybe word) v k (λ is. cc) (option_given u v name step) refl tt (with_memory calls.optional v after (steps.maybe word) (λ is. cc) takes)
first_of t u w item (first_several name n words v after k step few takes) =
    with_values name several (calls.values n) (steps.items words) v k (λ is. cc) (option_given u v name step) (n, refl) few (with_memory (calls.values n) v after (steps.items words) (λ is. cc) takes)

no_word : (name : Name) (word : List _) → steps.positional word ≡ option_reply name → ⊥
no_word (short c) word is = cc
no_word (long name) word is = cc

same_option : (name other : Name) → option_reply name ≡ option_reply other → name ≡ other
same_option (short c) (short d) is = cc
same_option (short c) (long n) is = absurd (cc)
same_option (long m) (short d) is = absurd (cc)
same_option (long m) (long n) is = cc

first_same : (t : Table) (u v w : UnreadLine) → First t u v → First t u w → v ≡ w
first_same t u v w (word_alone x step) (word_alone y again) = (call_same next u (steps.positional x) (steps.positional y) v w step again).1
first_same t u v w (word_alone x step) (flag_alone name k again) = absurd (no_word name x (call_same next u (steps.positional x) (option_reply name) v w step again).0)
first_same t u v w (word_alone x step) (with_values name k call reply v2 is other again due full takes) =
    absurd (no_word name x (call_same next u (steps.positional x) (option_reply name) v v2 step again).0)
first_same t u v w (flag_alone name k step) (word_alone y again) = absurd (no_word name y (sym (call_same next u (option_reply name) (steps.positional y) v w step again).0))
first_same t u v w (flag_alone name k step) (flag_alone name2 k2 again) = (call_same next u (option_reply name) (option_reply name2) v w step again).1
first_same t u v w (flag_alone name k step) (with_values name2 k2 call2 reply2 v2 is2 other2 again due2 full2 takes2) =
    let names = same_option name name2 (call_same next u (option_reply name) (option_reply name2) v v2 step again).0 in
    absurd (other2 (sym is2 ∙ ap (kind t) (sym names) ∙ k))
first_same t u v w (with_values name k call reply v1 is other step due full takes) (word_alone y again) =
    absurd (no_word name y (sym (call_same next u (option_reply name) (steps.positional y) v1 w step again).0))
first_same t u v w (with_values name k call reply v1 is other step due full takes) (flag_alone name2 k2 again) =
    let names = same_option name name2 (call_same next u (option_reply name) (option_reply name2) v1 w step again).0 in
    absurd (other (sym is ∙ ap (kind t) names ∙ k2))
first_same t u v w (with_values name k call reply v1 is other step due full takes) (with_values name2 k2 call2 reply2 v2 is2 other2 again due2 full2 takes2) =
    let both = call_same next u (option_reply name) (option_reply name2) v1 v2 step again in
    let kinds : k ≡ k2 = sym is ∙ ap (kind t) (same_option name name2 both.0) ∙ is2 in
    (due_same k2 call call2 v2 v w reply reply2 (subst (λ x. IsDue x call) kinds due) due2 full full2 (subst (λ x. StepWithMemory call x reply v) both.1 takes) takes2).1

-- the same items leave the same line
pub one_line_left : (t : Table) (u v w : UnreadLine) (items : List Item) → ReadsItems t u items v → ReadsItems t u items w → v ≡ w
one_line_left t u v w [] is too = is ∙ sym too
one_line_left t u v w (item ∷ items) reads again =
    let same = first_same t u reads.0 again.0 (first_of t u reads.0 item reads.1) (first_of t u again.0 item again.1) in
    one_line_left t again.0 v w items (subst (λ x. ReadsItems t x items v) same reads.2) again.2
