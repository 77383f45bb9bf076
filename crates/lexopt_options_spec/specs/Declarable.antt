-- Which options can be declared, as a test that the prover computes for the options of a program.
use Rattle.std.specs.Prelude.{ℕ, suc, Bool, false, nat_eq, ◌||◌, List, [], ◌∷◌}
use Rattle.std.specs.Prelude.{Option, Some, None, if◌then◌else◌}
use Rattle.std.specs.List.{list_any, starts_with}
use Rattle.lexopt_spec.specs.UnreadLine.{equals}
use Rattle.lexopt_line_spec.specs.Table.{Name, short, long}
use Rattle.lexopt_options_spec.specs.Declaration.{Declared, Reason, empty_name, equals_in_name}
use Rattle.lexopt_options_spec.specs.Declaration.{replacement_in_name, blank_or_control_in_name}
use Rattle.lexopt_options_spec.specs.Declaration.{fault_by, has, is_blank_or_control, is_empty}
use Rattle.lexopt_options_spec.specs.Declaration.{short_fault}

-- the bytes of U+FFFD are among these, one after another
abbrev pub has_replacement : List ℕ → Bool
has_replacement [] = false
has_replacement (b ∷ bs) =
    starts_with nat_eq (b ∷ bs) (0xEF ∷ 0xBF ∷ 0xBD ∷ []) || has_replacement bs

-- what is wrong with a name, found in its bytes
abbrev pub byte_fault : Name → Option Reason
byte_fault (short c) = short_fault c
byte_fault (long name) = if is_empty name then Some empty_name
    else (if has equals name then Some equals_in_name
    else (if has_replacement name then Some replacement_in_name
    else (if list_any is_blank_or_control name then Some blank_or_control_in_name else None)))

-- why this option cannot be declared beside these
abbrev pub fault_beside : List Declared → Declared → Option Reason
fault_beside others o = fault_by byte_fault others o

-- this index and reason, if there is a reason; otherwise those that were found later
abbrev pub or_later : ℕ → Option Reason → Option (ℕ × Reason) → Option (ℕ × Reason)
or_later index (Some reason) later = Some (index, reason)
or_later index None later = later

-- the first of these options that cannot be declared beside the given ones and those before it,
-- where the first of these options has this index
abbrev pub fault_from : ℕ → List Declared → List Declared → Option (ℕ × Reason)
fault_from index others [] = None
fault_from index others (o ∷ os) =
    or_later index (fault_beside others o) (fault_from (suc index) (o ∷ others) os)

-- the index of the first option that cannot be declared after those before it, counted from 0, and
-- the reason
abbrev pub first_fault : List Declared → Option (ℕ × Reason)
first_fault options = fault_from 0 [] options
