-- Readings, one item at a time.
use Rattle.std.proofs.Common.{◌≡◌, ◌<◌, ℕ, List, [], ◌∷◌, length, Option, Some, None, refl, sym, ap, ◌∙◌}
use Rattle.lexopt_spec.specs.UnreadLine.{UnreadLine}
use Rattle.lexopt_spec.specs.Steps as steps
use Rattle.lexopt_spec.specs.Steps.{Reply, Next, Value}
use Rattle.lexopt_spec.specs.Runs as calls
use Rattle.lexopt_spec.specs.Runs.{Call, Step, next, value}
use Rattle.lexopt_line_spec.specs.Table.{Name, short, long, Item, option, many, positional, Kind, flag, one, optional, several, kind, Table}
use Rattle.lexopt_line_spec.specs.Readings.{IsDue, IsFull, IsLast, GoesOn, last, more, item_after, items_of_replies, option_reply, IsReading, MeansUpTo}
use Rattle.lexopt_line_spec.proofs.Readings.{flag_item}

pub says_positional : (t : Table) (u v : UnreadLine) (word : List ℕ) → Next u (steps.positional word) v → MeansUpTo t u (positional word ∷ []) v
says_positional t u v word step = λ final m reading. record {
  calls = next ∷ reading.calls;
  replies = steps.positional word ∷ reading.replies;
  after = reading.after;
  run = (v, step, reading.run);
  asked = more flag flag next (steps.positional word) reading.calls reading.replies refl tt refl reading.asked;
  items_are = ap (λ l. positional word ∷ l) reading.items_are;
}

continues : (t : Table) (name : Name) (k : Kind) → kind t name ≡ k → GoesOn t (option_reply name) k
continues t (short c) k is = sym is
continues t (long name) k is = sym is

option_items : (name : Name) (replies : List Reply) → items_of_replies (option_reply name ∷ replies) ≡ item_after name replies ∷ items_of_replies replies
option_items (short c) replies = refl
option_items (long name) replies = refl

pub says_flag : (t : Table) (u v : UnreadLine) (name : Name) → kind t name ≡ flag → Next u (option_reply name) v → MeansUpTo t u (option name None ∷ []) v
says_flag t u v name k step = λ final m reading. record {
  calls = next ∷ reading.calls;
  replies = option_reply name ∷ reading.replies;
  after = reading.after;
  run = (v, step, reading.run);
  asked = more flag flag next (option_reply name) reading.calls reading.replies refl tt (continues t name flag k) reading.asked;
  items_are = ap (λ l. option name None ∷ l) reading.items_are
      ∙ ap (λ x. x ∷ items_of_replies reading.replies) (sym (flag_item t final name v reading.after reading.calls reading.replies flag refl reading.asked reading.run))
      ∙ sym (option_items name reading.replies);
}

-- an option, and the reply to the call for its values
says_due : (t : Table) (u v w : UnreadLine) (name : Name) (k : Kind) (call : Call) (reply : Reply) (item : Item) → kind t name ≡ k → IsDue k call → IsFull call reply
    → GoesOn t reply flag → ((replies : List Reply) → items_of_replies (option_reply name ∷ reply ∷ replies) ≡ item ∷ items_of_replies replies)
    → Next u (option_reply name) v → Step call v reply w → MeansUpTo t u (item ∷ []) w
says_due t u v w name k call reply item is due full goes said step takes = λ final m reading. record {
  calls = next ∷ call ∷ reading.calls;
  replies = option_reply name ∷ reply ∷ reading.replies;
  after = reading.after;
  run = (v, step, (w, takes, reading.run));
  asked = more flag k next (option_reply name) (call ∷ reading.calls) (reply ∷ reading.replies) refl tt (continues t name k is)
      (more k flag call reply reading.calls reading.replies due full goes reading.asked);
  items_are = ap (λ l. item ∷ l) reading.items_are ∙ sym (said reading.replies);
}

pub says_value : (t : Table) (u v w : UnreadLine) (name : Name) (word : List ℕ) → kind t name ≡ one → Next u (option_reply name) v → Value v (steps.taken word) w
    → MeansUpTo t u (option name (Some word) ∷ []) w
says_value t u v w name word is step takes =
    says_due t u v w name one value (steps.taken word) _ is refl tt refl (λ replies. option_items name (steps.taken word ∷ replies)) step takes

pub says_optional : (t : Table) (u v w : UnreadLine) (name : Name) (word : Option (List ℕ)) → kind t name ≡ optional → Next u (option_reply name) v
    → Step calls.optional v (steps.maybe word) w → MeansUpTo t u (option name word ∷ []) w
says_optional t u v w name word is step takes =
    says_due t u v w name optional calls.optional (steps.maybe word) _ is refl tt refl (λ replies. option_items name (steps.maybe word ∷ replies)) step takes

pub says_several : (t : Table) (u v w : UnreadLine) (name : Name) (n : ℕ) (words : List (List ℕ)) → kind t name ≡ several → length words < n → Next u (option_reply name) v
    → Step (calls.values n) v (steps.items words) w → MeansUpTo t u (many name words ∷ []) w
says_several t u v w name n words is few step takes =
    says_due t u v w name several (calls.values n) (steps.items words) _ is (n, refl) few refl (λ replies. option_items name (steps.items words ∷ replies)) step takes

-- the reading ends in a reply of `next`
pub reads_last : (t : Table) (u v : UnreadLine) (final : Reply) → IsLast final → Next u final v → IsReading t u final (items_of_replies (final ∷ []))
reads_last t u v final is step = record {
  calls = next ∷ [];
  replies = final ∷ [];
  after = v;
  run = (v, step, refl);
  asked = last flag next refl is;
  items_are = refl;
}

-- the reading ends in a reply of the call for an option's values
pub reads_refused : (t : Table) (u v w : UnreadLine) (name : Name) (k : Kind) (call : Call) (final : Reply) → kind t name ≡ k → IsDue k call → IsLast final
    → Next u (option_reply name) v → Step call v final w → IsReading t u final (items_of_replies (option_reply name ∷ final ∷ []))
reads_refused t u v w name k call final is due ends step takes = record {
  calls = next ∷ call ∷ [];
  replies = option_reply name ∷ final ∷ [];
  after = w;
  run = (v, step, (w, takes, refl));
  asked = more flag k next (option_reply name) (call ∷ []) (final ∷ []) refl tt (continues t name k is) (last k call due ends);
  items_are = refl;
}
