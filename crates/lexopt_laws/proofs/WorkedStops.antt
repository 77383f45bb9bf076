-- Where the reading of short lines stops.
use Rattle.std.proofs.Common.{◌≡◌, ℕ, true, List, [], ◌∷◌, Some, None, refl}
use Rattle.lexopt_spec.specs.UnreadLine.{UnreadLine}
use Rattle.lexopt_spec.specs.Steps as steps
use Rattle.lexopt_spec.specs.Steps.{Next, Value}
use Rattle.lexopt_spec.specs.Runs.{next, value}
use Rattle.lexopt_line_spec.specs.Table as spec
use Rattle.lexopt_line_spec.specs.Table.{Name, flag, one, kind}
use Rattle.lexopt_line_spec.specs.Readings.{first_flag, first_one, first_positional, option_reply, start}
use Rattle.lexopt_line_spec.proofs.RunAccounts.{step_line}
use Rattle.lexopt_options_spec.specs.Declaration.{Declaration, table}
use Rattle.lexopt_options_spec.specs.Legal.{option, positional, parsed_item, most, IsWithin, are_accepted}
use Rattle.lexopt_options_spec.specs.Stops.{Mistake, Stops, StopsAt}
use Rattle.lexopt_options_spec.proofs.Fronts.{nothing_read}
use Rattle.lexopt_laws.proofs.SomeAnswer.{one_more}

-- at the first word
pub at_first : {d : Declaration} {words : List (List ℕ)} {m : Mistake} → Stops d [] (start d.short_equals words) m → StopsAt d words [] m
at_first {d = d} {words = words} stops = record { there = start d.short_equals words; read = nothing_read d (start d.short_equals words) tt; stops = stops; accepted = refl }

-- after a flag
pub after_flag : {d : Declaration} {words : List (List ℕ)} {m : Mistake} (name : Name) (i : ℕ) (v : UnreadLine) → kind (table d.options) name ≡ flag
    → parsed_item d.options (spec.option name None) ≡ Some (option i None) → IsWithin 0 (most d.positionals) → Next (start d.short_equals words) (option_reply name) v → Stops d (option i None ∷ []) v m
    → StopsAt d words (option i None ∷ []) m
after_flag {d = d} {words = words} name i v k parsed within step stops =
    let u = start d.short_equals words in
    record {
      there = v;
      read = one_more d u u v [] (spec.option name None) (option i None) (nothing_read d u tt) (first_flag name v k step) (step_line next u (option_reply name) v tt step) parsed within;
      stops = stops;
      accepted = refl;
    }

-- after two flags
pub after_flags : {d : Declaration} {words : List (List ℕ)} {m : Mistake} (name other : Name) (i j : ℕ) (v w : UnreadLine) → kind (table d.options) name ≡ flag → kind (table d.options) other ≡ flag
    → parsed_item d.options (spec.option name None) ≡ Some (option i None) → parsed_item d.options (spec.option other None) ≡ Some (option j None) → IsWithin 0 (most d.positionals)
    → Next (start d.short_equals words) (option_reply name) v → Next v (option_reply other) w → Stops d (option i None ∷ option j None ∷ []) w m → StopsAt d words (option i None ∷ option j None ∷ []) m
after_flags {d = d} {words = words} name other i j v w k l parsed too within step again stops =
    let u = start d.short_equals words in
    let line = step_line next u (option_reply name) v tt step in
    let first = one_more d u u v [] (spec.option name None) (option i None) (nothing_read d u tt) (first_flag name v k step) line parsed within in
    record {
      there = w;
      read = one_more d u v w (option i None ∷ []) (spec.option other None) (option j None) first (first_flag other w l again) (step_line next v (option_reply other) w line again) too within;
      stops = stops;
      accepted = refl;
    }

-- after a positional
pub after_positional : {d : Declaration} {words : List (List ℕ)} {m : Mistake} (word : List ℕ) (v : UnreadLine) → IsWithin 1 (most d.positionals)
    → Next (start d.short_equals words) (steps.positional word) v → Stops d (positional word ∷ []) v m → StopsAt d words (positional word ∷ []) m
after_positional {d = d} {words = words} word v within step stops =
    let u = start d.short_equals words in
    record {
      there = v;
      read = one_more d u u v [] (spec.positional word) (positional word) (nothing_read d u tt) (first_positional word v step) (step_line next u (steps.positional word) v tt step) refl within;
      stops = stops;
      accepted = refl;
    }

-- after an option and its value
pub after_value : {d : Declaration} {words : List (List ℕ)} {m : Mistake} (name : Name) (i : ℕ) (word : List ℕ) (v w : UnreadLine) → kind (table d.options) name ≡ one
    → parsed_item d.options (spec.option name (Some word)) ≡ Some (option i (Some word)) → IsWithin 0 (most d.positionals) → are_accepted d.options (option i (Some word) ∷ []) ≡ true → Next (start d.short_equals words) (option_reply name) v
    → Value v (steps.taken word) w → Stops d (option i (Some word) ∷ []) w m → StopsAt d words (option i (Some word) ∷ []) m
after_value {d = d} {words = words} name i word v w k parsed within accepted step takes stops =
    let u = start d.short_equals words in
    record {
      there = w;
      read = one_more d u u w [] (spec.option name (Some word)) (option i (Some word)) (nothing_read d u tt)
          (first_one name word v w k step takes)
          (step_line value v (steps.taken word) w (step_line next u (option_reply name) v tt step) takes) parsed within;
      stops = stops;
      accepted = accepted;
    }
