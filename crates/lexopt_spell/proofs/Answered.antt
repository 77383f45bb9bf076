-- If an item is at fault, no words show the items.
use Rattle.std.proofs.Common.{ℕ, Bool, List}
use Rattle.lexopt_line_spec.specs.Table.{Item, Table}
use Rattle.lexopt_line_spec.specs.Spelling.{Shows}
use Rattle.lexopt_line_spec.specs.Speller.{Fault, HasFault}
use Rattle.lexopt_line_spec.proofs.SpellerFaults.{shown_as}
use Rattle.lexopt_line_spec.proofs.SpellerAgrees.{not_both}

pub none_shown : {X : Type 0} (t : Table) (short_equals : Bool) (words : List (List ℕ)) (items : List Item) (f : Fault) → HasFault t short_equals items f
    → Shows t short_equals words items → X
none_shown t short_equals words items f is shows =
    let some = shown_as t short_equals words items shows in not_both t short_equals items some.0 f some.1 is
