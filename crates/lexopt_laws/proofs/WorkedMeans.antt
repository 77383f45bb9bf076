-- What short lines mean.
use Rattle.std.proofs.Common.{◌≡◌, ◌≤◌, ℕ, true, List, [], ◌∷◌, map, Option, Some, None, codes, refl, sym, ap, subst, lit≤}
use Rattle.lexopt_line_spec.specs.Table as spec
use Rattle.lexopt_line_spec.specs.Table.{Item}
use Rattle.lexopt_line_spec.specs.Spelling.{Spells}
use Rattle.lexopt_line_spec.specs.Spelling.{no_words}
use Rattle.lexopt_line_spec.proofs.Worked.{plain_line}
use Rattle.lexopt_options_spec.specs.Declaration.{Declaration, table}
use Rattle.lexopt_options_spec.specs.Legal.{Parsed, positional, parsed_item, positional_count, positional_words, most, IsWithin, MeansFront, Means, are_accepted, occurs}
use Rattle.lexopt_options_spec.specs.Places.{AreTaken, least}
use Rattle.lexopt_options_spec.proofs.Taken.{words_count}
use Rattle.lexopt_laws.specs.Sample.{sample, mode, target}
use Rattle.lexopt_laws.proofs.AnyWords.{any_taken, no_lists}
use Rattle.lexopt_laws.proofs.Clashes.{are_apart, clash_in}
use Rattle.lexopt_laws.proofs.Missing.{are_complete, missing_from}

pub front_of : {d : Declaration} {words : List (List ℕ)} {l : List Parsed} (items : List Item) → Spells (table d.options) d.short_equals words items
    → map (parsed_item d.options) items ≡ map (λ s. Some s) l → IsWithin (positional_count l) (most d.positionals) → MeansFront d words l
front_of items spelled parsed within = record { items = items; spelled = spelled; parsed = parsed; within = within }

-- if each positional accepts its words
pub whole_with : {d : Declaration} {words : List (List ℕ)} {l : List Parsed} → AreTaken d.positionals (positional_words l) → (items : List Item) → Spells (table d.options) d.short_equals words items
    → map (parsed_item d.options) items ≡ map (λ s. Some s) l → IsWithin (positional_count l) (most d.positionals) → least d.positionals ≤ positional_count l → ◌≡◌ {A = Option ℕ × Option (ℕ × ℕ)} (missing_from d.options l, clash_in d.options (λ i. occurs i l)) (None, None)
    → are_accepted d.options l ≡ true → Means d words l
whole_with {d = d} {l = l} taken items spelled parsed within enough none accepted =
    record {
      whole = record { front = front_of items spelled parsed within; enough = enough; taken = taken; complete = are_complete d.options l (ap (λ (x : Option ℕ × Option (ℕ × ℕ)). x.0) none); accepted = accepted };
      apart = are_apart d.options (λ i. occurs i l) (ap (λ (x : Option ℕ × Option (ℕ × ℕ)). x.1) none);
    }

-- if no positional has a list
pub whole_of : {d : Declaration} {words : List (List ℕ)} {l : List Parsed} → no_lists d.positionals ≡ true → (items : List Item) → Spells (table d.options) d.short_equals words items
    → map (parsed_item d.options) items ≡ map (λ s. Some s) l → IsWithin (positional_count l) (most d.positionals) → least d.positionals ≤ positional_count l → ◌≡◌ {A = Option ℕ × Option (ℕ × ℕ)} (missing_from d.options l, clash_in d.options (λ i. occurs i l)) (None, None)
    → are_accepted d.options l ≡ true → Means d words l
whole_of {d = d} {l = l} any items spelled parsed within enough none accepted =
    whole_with (any_taken any (subst (λ n. IsWithin n (most d.positionals)) (sym (words_count l)) within)) items spelled parsed within enough none accepted

-- `a b`
pub two_positionals : Means (sample (mode ∷ target ∷ []) true) (codes "a" ∷ codes "b" ∷ []) (positional (codes "a") ∷ positional (codes "b") ∷ [])
two_positionals = whole_of refl (spec.positional (codes "a") ∷ spec.positional (codes "b") ∷ []) (plain_line (codes "a") refl (plain_line (codes "b") refl no_words)) refl (lit≤ tt) (lit≤ tt) refl refl
