-- Where the help has an option.
use Rattle.lexopt_options_spec.proofs.Common.{◌≡◌, ◌≢◌, ◌<◌, ◌⊎◌, ◌∙◌, ◌&&◌, ◌∷◌, [], zero, suc, Bool, true, false, not, List, Option, Some, None, inl, inr, refl, sym, ap, subst, arith}
use Rattle.lexopt_options_spec.proofs.Common.{if◌then◌else◌, take, get_or, filter, Contains, false≢true, and_parts, Name, Declared, is_sound, has_name}
use Rattle.std.proofs.lemmas.List.{get_or_default, get_or-take, length-take-le}
use Rattle.std.proofs.lemmas.List.Folds.{Any-from_list_any}
use Rattle.lexopt_options_spec.specs.Declaration.{Beside, is_flag, is_nothing, is_plain_flag, label_fault, name_beside}
use Rattle.lexopt_options_spec.specs.Declaration as spec
use Rattle.lexopt_options_spec.specs.Help.{entered, is_named, is_shown_by, shows}
use Rattle.lexopt_options_spec.proofs.Labels.{at_place, flag_there}
use Rattle.lexopt_options_spec.proofs.Tables.{index_there}

-- two options with one name are one option
same_option : (options : List Declared) (o p : Declared) (name : Name) → is_sound options ≡ true → Contains options o → Contains options p → has_name name o ≡ true → has_name name p ≡ true → o ≡ p
same_option options o p name sound here there one other =
    let i = index_there options name here.0 o sound here.1 (subst (λ x. has_name name x ≡ true) (sym here.2) one) in
    let j = index_there options name there.0 p sound there.1 (subst (λ x. has_name name x ≡ true) (sym there.2) other) in
    let same : here.0 ≡ there.0 = (let both : Some here.0 ≡ Some there.0 = sym i ∙ j in cc) in
    sym here.2 ∙ ap (λ n. get_or options n o) same ∙ get_or_default options there.0 o p there.1 ∙ there.2

is_none_beside : (b : Beside) → is_nothing b ≡ true → b ≡ spec.nothing
is_none_beside spec.nothing is = refl
is_none_beside b is = absurd (false≢true is)

name_there : (name : Option Name) (o : Declared) → is_named name o ≡ true → (n : Name) × (name ≡ Some n) × (has_name n o ≡ true)
name_there None o is = absurd (false≢true is)
name_there (Some n) o is = (n, refl, is)

-- an option whose label shows another shows something
some_beside : (p o : Declared) → shows p o ≡ true → p.beside ≢ spec.nothing
some_beside p o is none = false≢true (subst (λ b. is_named (name_beside b p.short_name p.long_name) o ≡ true) none is)

-- what a label shows has a label that shows nothing else
shown_plain : (options : List Declared) (p o : Declared) → is_sound options ≡ true → Contains options p → Contains options o → shows p o ≡ true → o.beside ≡ spec.nothing
shown_plain options p o sound there here is =
    let n = name_there (name_beside p.beside p.short_name p.long_name) o is in
    let before = take there.0 options in
    let among = flag_there before p.beside n.0 (some_beside p o is) (subst (λ x. label_fault before p.beside x ≡ None) n.1 (at_place options p sound there).label) in
    let found = Any-from_list_any (λ q. is_plain_flag q && has_name n.0 q) before among in
    let parts = and_parts (is_plain_flag found.1) (has_name n.0 found.1) found.4 in
    let plain = and_parts (is_flag found.1.kind) (is_nothing found.1.beside) parts.0 in
    let less : found.0 < there.0 = (let all = length-take-le there.0 options (omega (arith, there.1)) in omega (arith, found.2, all)) in
    let within : Contains options found.1 = (found.0, omega (arith, there.1, less), sym (get_or-take there.0 options found.0 found.1 less) ∙ found.3) in
    ap (λ x. x.beside) (same_option options o found.1 n.0 sound here within n.2 parts.1) ∙ is_none_beside found.1.beside plain.1

kept : {X : Type 0} (p : X → Bool) (xs : List X) (x : X) → Contains xs x → p x ≡ true → Contains (filter p xs) x
kept p [] x (i, within, is) passes = absurd (omega (arith, within))
kept p (y ∷ ys) x (zero, within, is) passes = subst (λ b. Contains (if b then y ∷ filter p ys else filter p ys) x) (sym (ap p is ∙ passes)) (zero, omega arith, is)
kept p (y ∷ ys) x (suc i, within, is) passes = go (p y) (kept p ys x (i, omega (arith, within), is) passes)
  where
    go : (b : Bool) → Contains (filter p ys) x → Contains (if b then y ∷ filter p ys else filter p ys) x
    go true rest = (suc rest.0, omega (arith, rest.1), rest.2)
    go false rest = rest

-- an option that is not hidden has an entry, if no label shows it
has_entry : (options : List Declared) (o : Declared) → Contains options o → o.hidden ≡ false → is_shown_by options o ≡ false → Contains (entered options) o
has_entry options o there visible alone =
    kept (λ x. not x.hidden && not (is_shown_by options x)) options o there (ap (λ b. not b && not (is_shown_by options o)) visible ∙ ap not alone)

-- each option that is not hidden has an entry, or the label of one that has an entry shows it
pub has_place : (options : List Declared) (o : Declared) → is_sound options ≡ true → Contains options o → o.hidden ≡ false
    → Contains (entered options) o ⊎ ((p : Declared) × Contains (entered options) p × (shows p o ≡ true))
has_place options o sound there visible = go (is_shown_by options o) refl
  where
    seen : (x : Bool) → not x ≡ true → x ≡ false
    seen false is = refl
    seen true is = absurd (false≢true is)

    -- the label of an option that shows another is shown by none
    free : (p : Declared) → Contains options p → shows p o ≡ true → (b : Bool) → is_shown_by options p ≡ b → is_shown_by options p ≡ false
    free p within shown false is = is
    free p within shown true is =
        let found = Any-from_list_any (λ q. not q.hidden && shows q p) options is in
        let parts = and_parts (not found.1.hidden) (shows found.1 p) found.4 in
        absurd (some_beside p o shown (shown_plain options found.1 p sound (found.0, found.2, found.3) within parts.1))

    go : (b : Bool) → is_shown_by options o ≡ b → Contains (entered options) o ⊎ ((p : Declared) × Contains (entered options) p × (shows p o ≡ true))
    go false is = inl (has_entry options o there visible is)
    go true is =
        let found = Any-from_list_any (λ q. not q.hidden && shows q o) options is in
        let parts = and_parts (not found.1.hidden) (shows found.1 o) found.4 in
        let within : Contains options found.1 = (found.0, found.2, found.3) in
        inr (found.1, has_entry options found.1 within (seen found.1.hidden parts.0) (free found.1 within parts.1 (is_shown_by options found.1) refl), parts.1)
