-- Each command is found by its name.
use Rattle.lexopt_commands.proofs.Common.{append-nil, ◌≡◌, ◌==◌, suc, zero, ℕ, Bool, true, false, if◌then◌else◌, List, [], ◌∷◌, ◌++◌, take, position, Option, Some, None, refl, ap, sym, subst, ◌∙◌}
use Rattle.lexopt_commands.proofs.Common.{append_assoc, arith, is_none, list_any, slice_get, Command, can_be_declared, fault, first_fault, name_fault, names_of, or_else, with_fault, command_at}
use Rattle.lexopt_commands.proofs.Common.{command_of, pointwise, list_any-map, Reason}
use Rattle.std.proofs.Common.{get_or-take, length-take-le}
use Rattle.std.proofs.lemmas.List.Folds.{list_any_at}
use Rattle.std.specs.Option.{option_map}
use Rattle.std.proofs.lemmas.Bool.{false_from_ne_true, true≢false}
use Rattle.std.proofs.lemmas.List.{take-map}
use Rattle.std.proofs.lemmas.Option.{get_or_from_slice_get, slice_get-map, slice_get_within}
use Rattle.lexopt_options_spec.proofs.Tables.{first_at, pointwise_refl}

-- ---- a list without a fault has none at any place

no_fault_first : (name : List ℕ) (why : Option Reason) (others : Option (List ℕ × Reason)) → with_fault name why others ≡ None → (why ≡ None) × (others ≡ None)
no_fault_first name None others none = (refl, none)
no_fault_first name (Some why) others none = absurd (let e : Some (name, why) ≡ None = none in cc)

no_fault_at : (before names : List (List ℕ)) (i : ℕ) (name : List ℕ) → first_fault before names ≡ None → slice_get names i ≡ Some name → fault (before ++ take i names) name ≡ None
no_fault_at before [] i name none at = absurd (let e : None ≡ Some name = at in cc)
no_fault_at before (x ∷ xs) zero name none at =
    let is : x ≡ name = let e : Some x ≡ Some name = at in cc in
    ap (λ l. fault l name) (append-nil before) ∙ subst (λ n. fault before n ≡ None) is (no_fault_first x (fault before x) (first_fault (before ++ x ∷ []) xs) none).0
no_fault_at before (x ∷ xs) (suc i) name none at =
    ap (λ l. fault l name) (sym (append_assoc before (x ∷ []) (take i xs))) ∙ no_fault_at (before ++ x ∷ []) xs i name (no_fault_first x (fault before x) (first_fault (before ++ x ∷ []) xs) none).1 at

is_none_none : {X : Type 0} (o : Option X) → is_none o ≡ true → o ≡ None
is_none_none None is = refl
is_none_none (Some x) is = absurd (let e : false ≡ true = is in cc)

-- no command before it has the name
not_among : (own : Option Reason) (among : Bool) (why : Reason) → or_else own (if among then Some why else None) ≡ None → among ≡ false
not_among None true why none = absurd (let e : Some why ≡ None = none in cc)
not_among None false why none = refl
not_among (Some other) among why none = absurd (let e : Some other ≡ None = none in cc)

-- ---- the first place

place_at : {X : Type 0} (p : X → Bool) (xs : List X) (i : ℕ) (x : X) → slice_get xs i ≡ Some x → p x ≡ true → list_any p (take i xs) ≡ false → position p xs ≡ Some i
place_at p xs i x at is none =
    let within = slice_get_within xs i x at in
    let all = length-take-le i xs (omega (arith, within)) in
    first_at p xs i x within
    (λ k less. false_from_ne_true _ (λ there. true≢false (sym (list_any_at p (take i xs) k x (omega (arith, all, less)) (ap p (get_or-take i xs k x less) ∙ there)) ∙ none)))
    (ap p (get_or_from_slice_get xs i x x at) ∙ is)

pub each_found : {C : Type 0} (commands : List (Command C)) → can_be_declared (names_of commands) ≡ true → (i : ℕ) (c : Command C) → slice_get commands i ≡ Some c → command_of commands c.name.now ≡ Some c
each_found commands sound i c at =
    let n = c.name.now in
    let named = slice_get-map (λ (x : Command _). x.name.now) commands i ∙ ap (option_map (λ (x : Command _). x.name.now)) at in
    let none = no_fault_at [] (names_of commands) i n (is_none_none (first_fault [] (names_of commands)) sound) named in
    let alone = not_among (name_fault n) (list_any (λ own. pointwise ◌==◌ own n) (take i (names_of commands))) _ none in
    let first = sym (list_any-map (λ (x : Command _). x.name.now) (λ own. pointwise ◌==◌ own n) (take i commands)) ∙ ap (list_any (λ own. pointwise ◌==◌ own n)) (sym (take-map (λ (x : Command _). x.name.now) i commands)) ∙ alone in
    let place = place_at (λ (x : Command _). pointwise ◌==◌ x.name.now n) commands i c at (pointwise_refl n) first in
    ap (command_at commands) place ∙ at
