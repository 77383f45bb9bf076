-- A line that shows a list of items has a reading, and shows no other list.
use Rattle.std.proofs.Common.{false, ◌≡◌, List, [], ◌∷◌, None, refl, sym, ap, subst, ◌∙◌, inl}
use Rattle.lexopt_spec.specs.UnreadLine.{UnreadLine, IsLine}
use Rattle.lexopt_spec.specs.Steps as steps
use Rattle.lexopt_spec.specs.Steps.{Reply, NextStep}
use Rattle.lexopt_spec.specs.Runs.{Call, next, value, Step, Run}
use Rattle.lexopt_line_spec.specs.Table.{Name, short, long, Item, option, positional, Kind, flag, one, optional, several, kind, Table}
use Rattle.lexopt_line_spec.specs.Readings.{IsDue, IsFull, GoesOn, AskedAfter, last, more}
use Rattle.lexopt_line_spec.proofs.Lines.{next_line}
use Rattle.lexopt_line_spec.proofs.RunAccounts.{step_line}
use Rattle.lexopt_line_spec.proofs.Calls.{call_answer}
use Rattle.lexopt_line_spec.proofs.Total.{next_answer}
use Rattle.lexopt_line_spec.proofs.Unread.{ShowsFrom, GoesOnShowing, NextShows, ValueShows, Leads}
use Rattle.lexopt_line_spec.proofs.ValueLaw.{value_law}
use Rattle.lexopt_line_spec.proofs.OptionalLaw.{optional_law}
use Rattle.lexopt_line_spec.proofs.FullValues.{full_step, full_answer}
use Rattle.lexopt_line_spec.proofs.SeveralLaw.{several_law}
use Rattle.lexopt_spec.specs.Runs as calls
use Rattle.lexopt_line_spec.proofs.NextLaw.{next_law}
use Rattle.lexopt_line_spec.proofs.Readings.{complete}
use Rattle.lexopt_line_spec.proofs.ReplyKinds.{next_open}

-- after an option of this kind, a reading of the line reaches its end
pub record IsRead (t : Table) (k : Kind) (u : UnreadLine) : Type 0 where
  pub calls : List Call
  pub replies : List Reply
  pub after : UnreadLine
  pub run : Run u calls replies after
  pub asked : AskedAfter t steps.end k calls replies

-- a reading of each line that shows these items reaches its end
abbrev Reads : Table → List Item → Type 0
Reads t l = (u : UnreadLine) → IsLine u → ShowsFrom t u l → IsRead t flag u

-- the same for the items after the first
abbrev Later : Table → List Item → Type 0
Later t l = (x : Item) (xs : List Item) → l ≡ x ∷ xs → Reads t xs

due_read : (t : Table) (l : List Item) (v w : UnreadLine) (k : Kind) (call : Call) (r : Reply) (item : Item) → Later t l → IsLine w → IsDue k call → IsFull call r → GoesOn t r flag
    → Step call v r w → Leads t item w l → IsRead t k v
due_read t l v w k call r item later line due full goes step leads =
    let rest = later item leads.others leads.items_are w line leads.shows in
    record {
      calls = call ∷ rest.calls;
      replies = r ∷ rest.replies;
      after = rest.after;
      run = (w, step, rest.run);
      asked = more k flag call r rest.calls rest.replies due full goes rest.asked;
    }

-- the reading of a value, for each kind
value_read : (t : Table) (name : Name) (l : List Item) (v w : UnreadLine) (k : Kind) (call : Call) (r : Reply) → Later t l → IsLine w → IsDue k call → IsFull call r
    → Step call v r w → ValueShows t name r w l → IsRead t k v
value_read t name l v w k call (steps.taken word) later line due full step leads = due_read t l v w k call (steps.taken word) _ later line due full refl step leads
value_read t name l v w k call (steps.maybe given) later line due full step leads = due_read t l v w k call (steps.maybe given) _ later line due full refl step leads
value_read t name l v w k call (steps.items given) later line due full step leads = due_read t l v w k call (steps.items given) _ later line due full refl step leads
value_read t name l v w k call reply later line due full step says = absurd says

option_read : (t : Table) (name : Name) (l : List Item) (v : UnreadLine) (k : Kind) → kind t name ≡ k → v.ended ≡ false → Later t l → IsLine v → GoesOnShowing t k name v l → IsRead t k v
option_read t name l v flag is e later line leads = later (option name None) leads.others leads.items_are v line leads.shows
option_read t name l v one is e later line shows =
    let a = call_answer value v line in
    value_read t name l v a.1 one value a.0 later (step_line value v a.0 a.1 line (inl a.2)) refl tt (inl a.2) ((value_law t name v a.1 a.0 l is line a.2).0 shows)
option_read t name l v optional is e later line shows =
    let a = call_answer calls.optional v line in
    value_read t name l v a.1 optional calls.optional a.0 later (step_line calls.optional v a.0 a.1 line (inl a.2)) refl tt (inl a.2)
    ((optional_law t name v a.1 a.0 l is line a.2).0 shows)
option_read t name l v several is e later line shows =
    let a = full_answer v in
    value_read t name l v a.after several (calls.values a.asked) a.reply later (step_line (calls.values a.asked) v a.reply a.after line (inl a.step)) (a.asked, refl) a.full (inl a.step)
    ((several_law t name v a.after a.reply l is line e (full_step a.asked v a.after a.reply a.full a.step)).0 shows)

line_read : (t : Table) (l : List Item) → Later t l → Reads t l
line_read t l later u line shows = go a.0 a.1 a.2 ((next_law t u a.1 a.0 l line a.2).0 shows)
  where
    a : (r : Reply) × (v : UnreadLine) × NextStep u r v
    a = next_answer u line

    go : (r : Reply) (v : UnreadLine) → NextStep u r v → NextShows t r v l → IsRead t flag u
    go (steps.short c) v step says =
        let rest = option_read t (short c) l v (kind t (short c)) refl (next_open u v _ line step tt) later (next_line u v _ line step) says in
        record {
          calls = next ∷ rest.calls;
          replies = steps.short c ∷ rest.replies;
          after = rest.after;
          run = (v, inl step, rest.run);
          asked = more flag (kind t (short c)) next (steps.short c) rest.calls rest.replies refl tt refl rest.asked;
        }
    go (steps.long n) v step says =
        let rest = option_read t (long n) l v (kind t (long n)) refl (next_open u v _ line step tt) later (next_line u v _ line step) says in
        record {
          calls = next ∷ rest.calls;
          replies = steps.long n ∷ rest.replies;
          after = rest.after;
          run = (v, inl step, rest.run);
          asked = more flag (kind t (long n)) next (steps.long n) rest.calls rest.replies refl tt refl rest.asked;
        }
    go (steps.positional word) v step leads =
        let rest = later (positional word) leads.others leads.items_are v (next_line u v _ line step) leads.shows in
        record {
          calls = next ∷ rest.calls;
          replies = steps.positional word ∷ rest.replies;
          after = rest.after;
          run = (v, inl step, rest.run);
          asked = more flag flag next (steps.positional word) rest.calls rest.replies refl tt refl rest.asked;
        }
    go steps.end v step none = record {
      calls = next ∷ [];
      replies = steps.end ∷ [];
      after = v;
      run = (v, inl step, refl);
      asked = last flag next refl tt;
    }
    go reply v step says = absurd says

others_of : List Item → List Item
others_of [] = []
others_of (x ∷ xs) = xs

pub reads : (t : Table) (l : List Item) → Reads t l
unfolding others_of
reads t [] = line_read t [] (λ x xs is. absurd (let e : [] ≡ x ∷ xs = is in cc))
reads t (y ∷ ys) = line_read t (y ∷ ys) (λ x xs is. subst (Reads t) (ap others_of is) (reads t ys))

-- ---- one list of items

pub only_one : (t : Table) (u : UnreadLine) (l m : List Item) → IsLine u → ShowsFrom t u l → ShowsFrom t u m → l ≡ m
only_one t u l m line one_way other =
    let a = reads t l u line one_way in
    (complete t steps.end flag (long []) u a.after a.calls a.replies l (λ other. absurd (other refl)) line a.asked a.run one_way).1
    ∙ sym (complete t steps.end flag (long []) u a.after a.calls a.replies m (λ other. absurd (other refl)) line a.asked a.run other).1
