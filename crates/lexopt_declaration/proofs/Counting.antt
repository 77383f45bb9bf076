-- How many positionals there are.
use Rattle.lexopt_declaration.proofs.Common.{◌≡◌, ℕ, suc, Bool, true, false, List, [], ◌∷◌, map, filter, length, Some, None, if◌then◌else◌, refl, sym, ap, ◌∙◌, ◌≢◌, ◌<◌, ◌≤◌, ◌+◌, ◌-◌, drop, get_or}
use Rattle.lexopt_declaration.proofs.Common.{add-one, drop-cons, arith, list_any, length-map, has_to_occur, may_repeat, count_view, positional_view, list_any-map, required_placeholder}
use Rattle.std.proofs.Math.ListN.{drop_of_length-le}
use Rattle.lexopt_options_spec.specs.Declaration as spec
use Rattle.lexopt_options_spec.specs.Legal.{most}
use Rattle.lexopt_options_spec.specs.Places.{least, required}
use Rattle.lexopt_declaration.specs.declared.declaration.Positional.{Positional}
use Rattle.lexopt_declaration.proofs.Hinted.{filter_viewed}

unlimited_is : {P : Type 0} (ps : List (Positional P)) → list_any (λ p. may_repeat (count_view p.count)) ps ≡ list_any (λ (p : spec.Positional). may_repeat p.count) (map positional_view ps)
unlimited_is ps = sym (list_any-map positional_view (λ (p : spec.Positional). may_repeat p.count) ps)

pub unlimited : {P : Type 0} (ps : List (Positional P)) → list_any (λ p. may_repeat (count_view p.count)) ps ≡ true → None ≡ most (map positional_view ps)
unlimited ps is = ap (λ (b : Bool). if b then None else Some (length (map positional_view ps))) (sym is ∙ unlimited_is ps)

pub limited : {P : Type 0} (ps : List (Positional P)) → list_any (λ p. may_repeat (count_view p.count)) ps ≡ false → Some (length ps) ≡ most (map positional_view ps)
limited ps is = ap (λ n. Some n) (sym (length-map ps positional_view))
    ∙ ap (λ (b : Bool). if b then None else Some (length (map positional_view ps))) (sym is ∙ unlimited_is ps)

pub required_are : {P : Type 0} (ps : List (Positional P)) → length (filter (λ p. has_to_occur (count_view p.count)) ps) ≡ least (map positional_view ps)
required_are ps = sym (length-map _ positional_view) ∙ ap length (filter_viewed positional_view (λ (p : spec.Positional). has_to_occur p.count) ps)

-- ---- the required positional with a number

-- the first of those left
pub required_step : {P : Type 0} (ps : List (Positional P)) (i : ℕ) (d : Positional P) → i < length ps → required (map positional_view (drop i ps))
    ≡ (if has_to_occur (count_view (get_or ps i d).count) then positional_view (get_or ps i d) ∷ required (map positional_view (drop (i + 1) ps)) else required (map positional_view (drop (i + 1) ps)))
required_step ps i d within = rw (add-one, drop-cons ps i d) refl

names : List spec.Positional → List (List ℕ)
names ps = map (λ (p : spec.Positional). p.placeholder) ps

here : {P : Type 0} (ps : List (Positional P)) (i : ℕ) (d : Positional P) → i < length ps → has_to_occur (count_view (get_or ps i d).count) ≡ true
    → required (map positional_view (drop i ps)) ≡ positional_view (get_or ps i d) ∷ required (map positional_view (drop (i + 1) ps))
here ps i d within is = required_step ps i d within
    ∙ ap (λ (b : Bool). if b then positional_view (get_or ps i d) ∷ required (map positional_view (drop (i + 1) ps)) else required (map positional_view (drop (i + 1) ps))) is

pub this_one : {P : Type 0} (ps : List (Positional P)) (i left : ℕ) (d : Positional P) (n : ℕ) → i < length ps → has_to_occur (count_view (get_or ps i d).count) ≡ true → left ≡ 0
    → required_placeholder (map positional_view (drop i ps)) left ≡ required_placeholder (map positional_view ps) n → (get_or ps i d).placeholder.now ≡ required_placeholder (map positional_view ps) n
unfolding names
this_one ps i left d n within is none same =
    sym (ap (λ k. get_or (names (positional_view (get_or ps i d) ∷ required (map positional_view (drop (i + 1) ps)))) k []) none)
    ∙ sym (ap (λ l. get_or (names l) left []) (here ps i d within is)) ∙ same

pub passed : {P : Type 0} (ps : List (Positional P)) (i left : ℕ) (d : Positional P) → i < length ps → has_to_occur (count_view (get_or ps i d).count) ≡ true → left ≢ 0
    → required_placeholder (map positional_view (drop (i + 1) ps)) (left - 1) ≡ required_placeholder (map positional_view (drop i ps)) left
unfolding names
passed ps i left d within is some =
    let e : suc (left - 1) ≡ left = omega arith in
    ap (λ k. get_or (names (positional_view (get_or ps i d) ∷ required (map positional_view (drop (i + 1) ps)))) k []) e
    ∙ sym (ap (λ l. get_or (names l) left []) (here ps i d within is))

pub passed_over : {P : Type 0} (ps : List (Positional P)) (i left : ℕ) (d : Positional P) → i < length ps → has_to_occur (count_view (get_or ps i d).count) ≡ false
    → required_placeholder (map positional_view (drop (i + 1) ps)) left ≡ required_placeholder (map positional_view (drop i ps)) left
unfolding names
passed_over ps i left d within is =
    sym (ap (λ l. get_or (names l) left []) (required_step ps i d within
    ∙ ap (λ (b : Bool). if b then positional_view (get_or ps i d) ∷ required (map positional_view (drop (i + 1) ps)) else required (map positional_view (drop (i + 1) ps))) is))

pub none_left : {P : Type 0} (ps : List (Positional P)) (i left : ℕ) → length ps ≤ i → required_placeholder (map positional_view (drop i ps)) left ≡ []
none_left ps i left over = ap (λ l. required_placeholder (map positional_view l) left) (drop_of_length-le ps over)
