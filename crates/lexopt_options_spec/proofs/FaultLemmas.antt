-- What is wrong with each of some options.
use Rattle.lexopt_options_spec.proofs.Common.{◌≡◌, ℕ, zero, suc, ◌+◌, ◌<◌, ◌≤◌, Bool, true, false, ◌&&◌, List, [], ◌∷◌, ◌++◌, length, take, get_or, Option, Some, None, is_none, if◌then◌else◌, refl}
use Rattle.lexopt_options_spec.proofs.Common.{sym, ap, ◌∙◌, arith, append-nil, append_assoc, cond, list_all, list_any, false≢true}
use Rattle.std.proofs.lemmas.List.Folds.{list_all_more}
use Rattle.std.proofs.lemmas.List.{take_all}
use Rattle.std.proofs.lemmas.List.Sums.{AllPass-from_list_all}
use Rattle.lexopt_options_spec.specs.Declaration.{Declared, Reason, same_name, all_names, or_else, name_fault, names_fault, placeholder_fault, list_fault, default_fault, label_fault, name_beside, exclusive_fault, shares_name, fault, faults, is_sound}

pub faults_length : (before os : List Declared) → length (faults before os) ≡ length os
faults_length before [] = refl
faults_length before (o ∷ os) = ap suc (faults_length (before ++ o ∷ []) os)

pub fault_at : (before os : List Declared) (i : ℕ) (d : Declared) → i < length os → get_or (faults before os) i None ≡ fault (before ++ take i os) (get_or os i d)
fault_at before [] i d within = absurd (omega arith)
fault_at before (o ∷ os) zero d within = ap (λ l. fault l o) (sym (append-nil before))
fault_at before (o ∷ os) (suc i) d within = fault_at (before ++ o ∷ []) os i d (omega arith) ∙ ap (λ l. fault l (get_or os i d)) (append_assoc before (o ∷ []) (take i os))

-- an option of a sound list has no fault
pub declared_at : (options : List Declared) (i : ℕ) (d : Declared) → is_sound options ≡ true → i < length options → is_none (fault (take i options) (get_or options i d)) ≡ true
declared_at options i d sound within =
    ap is_none (sym (fault_at [] options i d within)) ∙ AllPass-from_list_all is_none (faults [] options) sound i None (omega (arith, faults_length [] options, within))

-- one more option that can be declared
pub sound_more : (os : List Declared) (i : ℕ) (d : Declared) → i < length os → list_all is_none (take i (faults [] os)) ≡ true → fault (take i os) (get_or os i d) ≡ None
    → list_all is_none (take (i + 1) (faults [] os)) ≡ true
sound_more os i d within so none =
    list_all_more is_none (faults [] os) i None (omega (arith, faults_length [] os)) ∙ ap (λ b. b && is_none (get_or (faults [] os) i None)) so ∙ ap is_none (fault_at [] os i d within ∙ none)

-- all options
pub sound_all : (os : List Declared) (n : ℕ) → length os ≤ n → list_all is_none (take n (faults [] os)) ≡ true → is_sound os ≡ true
sound_all os n all so = sym (ap (list_all is_none) (take_all n (faults [] os) (omega (arith, faults_length [] os)))) ∙ so

-- ---- one option

pub no_fault : (f : Option Reason) → is_none f ≡ true → f ≡ None
no_fault None is = refl
no_fault (Some r) is = absurd (false≢true is)

pub neither : (a b : Option Reason) → or_else a b ≡ None → (a ≡ None) × (b ≡ None)
neither None b is = (refl, is)
neither (Some r) b is = absurd (let e : Some r ≡ None = is in cc)

pub passes : (b : Bool) (r : Reason) → cond b None (Some r) ≡ None → b ≡ true
passes true r is = refl
passes false r is = absurd (let e : Some r ≡ None = is in cc)

not_if : (b : Bool) (r : Reason) → (if b then Some r else None) ≡ None → b ≡ false
not_if false r is = refl
not_if true r is = absurd (let e : Some r ≡ None = is in cc)

-- nothing is wrong with an option after these
pub record IsFaultless (before : List Declared) (o : Declared) : Type 0 where
  pub names : names_fault name_fault (all_names o) ≡ None
  pub value : placeholder_fault o.kind o.placeholder ≡ None
  pub words : list_fault o.words ≡ None
  pub default : default_fault o ≡ None
  pub label : label_fault before o.beside (name_beside o.beside o.short_name o.long_name) ≡ None
  pub exclusive : exclusive_fault o.required o.exclusive ≡ None
  pub alone : list_any (shares_name o) before ≡ false

pub faultless : (before : List Declared) (o : Declared) → fault before o ≡ None → IsFaultless before o
faultless before o none =
    let a = neither (names_fault name_fault (all_names o)) _ none in
    let b = neither (placeholder_fault o.kind o.placeholder) _ a.1 in
    let c = neither (list_fault o.words) _ b.1 in
    let d = neither (default_fault o) _ c.1 in
    let e = neither (label_fault before o.beside (name_beside o.beside o.short_name o.long_name)) _ d.1 in
    let f = neither (exclusive_fault o.required o.exclusive) _ e.1 in
    record { names = a.0; value = b.0; words = c.0; default = d.0; label = e.0; exclusive = f.0; alone = not_if (list_any (shares_name o) before) same_name f.1 }

-- an option of a sound list is faultless
pub faultless_at : (options : List Declared) (i : ℕ) (d : Declared) → is_sound options ≡ true → i < length options → IsFaultless (take i options) (get_or options i d)
faultless_at options i d sound within = faultless (take i options) (get_or options i d) (no_fault _ (declared_at options i d sound within))

pub fault_is : (before : List Declared) (o : Declared) (n p w d l x q : Option Reason) → n ≡ names_fault name_fault (all_names o) → p ≡ placeholder_fault o.kind o.placeholder
    → w ≡ list_fault o.words → d ≡ default_fault o → l ≡ label_fault before o.beside (name_beside o.beside o.short_name o.long_name)
    → x ≡ exclusive_fault o.required o.exclusive → q ≡ (if list_any (shares_name o) before then Some same_name else None)
    → or_else n (or_else p (or_else w (or_else d (or_else l (or_else x q))))) ≡ fault before o
fault_is before o n p w d l x q ns ps ws ds ls xs qs = rw (ns, ps, ws, ds, ls, xs, qs) refl
