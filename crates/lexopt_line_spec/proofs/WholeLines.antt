-- Whole lines: the items that a reading gives, and the items that the words show.
use Rattle.std.proofs.Common.{◌≡◌, Bool, List, [], ℕ, sym, subst, ◌∙◌}
use Rattle.lexopt_spec.specs.Steps.{Reply, end}
use Rattle.lexopt_line_spec.specs.Table.{flag, long, Item, Table}
use Rattle.lexopt_line_spec.specs.Readings.{IsReading, start}
use Rattle.lexopt_line_spec.specs.Spelling.{Shows}
use Rattle.lexopt_line_spec.proofs.Readings.{sound, complete, no_option_after}
use Rattle.lexopt_line_spec.proofs.Existence.{reads}

pub said_shows : (t : Table) (short_equals : Bool) (words : List (List ℕ)) (l : List Item) → IsReading t (start short_equals words) end l → Shows t short_equals words l
said_shows t short_equals words l r = subst (Shows t short_equals words) (sym r.items_are)
    (sound t flag (long []) (start short_equals words) r.after r.calls r.replies (no_option_after t (long []) (start short_equals words)) tt r.asked r.run)

pub shown_said : (t : Table) (short_equals : Bool) (words : List (List ℕ)) (l m : List Item) (final : Reply) → Shows t short_equals words l
    → IsReading t (start short_equals words) final m → (final ≡ end) × (l ≡ m)
shown_said t short_equals words l m final shows r =
    let all = complete t final flag (long []) (start short_equals words) r.after r.calls r.replies l (no_option_after t (long []) (start short_equals words)) tt r.asked r.run shows in
    (all.0, all.1 ∙ sym r.items_are)

pub shown_read : (t : Table) (short_equals : Bool) (words : List (List ℕ)) (l : List Item) → Shows t short_equals words l → IsReading t (start short_equals words) end l
shown_read t short_equals words l shows =
    let a = reads t l (start short_equals words) tt shows in
    record {
      calls = a.calls;
      replies = a.replies;
      after = a.after;
      run = a.run;
      asked = a.asked;
      items_are = (complete t end flag (long []) (start short_equals words) a.after a.calls a.replies l (no_option_after t (long []) (start short_equals words)) tt a.asked a.run shows).1;
    }
