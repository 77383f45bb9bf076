use Rattle.std.proofs.Common.{◌≡◌, ◌<◌, ◌+◌, ◌++◌, ◌∷◌, [], ℕ, List, None, length, get_or, take, map, refl, sym, ap, subst, ◌∙◌, append-nil, append_assoc, arith}
use Rattle.std.specs.List.{flat_map}
use Rattle.std.proofs.lemmas.List.{take_all, take_more}
use Rattle.std.proofs.lemmas.Grind.{flat_map-append}
use Rattle.lexopt_options_spec.specs.Declarable.{first_fault}
use Rattle.lexopt_declaration.specs.Models.{option_view}
use Rattle.lexopt_runtime_options.specs.Combined.{with_options}
use Rattle.lexopt_runtime_options.proofs.combined.Combined.new.Goals as goal

more : {X A : Type 0} (f : X → List A) (xs : List X) (i : ℕ) (x : X) (before old new : List A) → i < length xs → x ≡ get_or xs i x → new ≡ old ++ f x → old ≡ before ++ flat_map f (take i xs)
    → new ≡ before ++ flat_map f (take (i + 1) xs)
more f xs i x before old new within is added inv =
    let last = ap (flat_map f) (take_more xs i x within) ∙ flat_map-append f (take i xs) (get_or xs i x ∷ []) ∙ ap (λ l. flat_map f (take i xs) ++ l) (append-nil (f (get_or xs i x))) in
    added ∙ ap (λ l. l ++ f x) inv ∙ append_assoc before (flat_map f (take i xs)) (f x)
    ∙ ap (λ l. before ++ l) (ap (λ y. flat_map f (take i xs) ++ f y) is ∙ sym last)

pub loop-group-preserved : goal.loop-group-preserved
loop-group-preserved g c =
    more (λ group. group.options.now) c.args.groups.now c.loop-group.group-index c.group-item.result _ _ _ c.loop-group-test.true c.group-item.is c.in_ok-extend_from_slice-2.ensures.items c.loop-group.invariant

pub invariant_of-result-clause-sound : goal.invariant_of-result-clause-sound
invariant_of-result-clause-sound g c =
    let all = take_all c.loop-group.group-index c.args.groups.now (omega (arith, c.loop-group-test.false)) in
    let options = c.loop-group.invariant ∙ ap (λ gs. c.args.declaration.now.options.now ++ flat_map (λ group. group.options.now) gs) all in
    subst (λ os. first_fault (map option_view os) ≡ None) (sym options) c.requires.options

pub returns : goal.returns
returns g c =
    let all = take_all c.loop-group.group-index c.args.groups.now (omega (arith, c.loop-group-test.false)) in
    let options = c.loop-group.invariant ∙ ap (λ gs. c.args.declaration.now.options.now ++ flat_map (λ group. group.options.now) gs) all in
    (options, refl, ap (with_options c.args.declaration.now) options)
