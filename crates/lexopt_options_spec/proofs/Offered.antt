-- Which spellings there are, and which are offered.
use Rattle.lexopt_options_spec.proofs.Common.{◌≡◌, ◌<◌, ◌==◌, ℕ, zero, suc, Bool, not, true, false, ◌||◌, ◌&&◌, ◌⊎◌, ◌+◌, List, [], ◌∷◌, filter, length, nat_eq, Some, None, if◌then◌else◌, refl, sym}
use Rattle.lexopt_options_spec.proofs.Common.{ap, subst, ◌∙◌, arith, inl, inr, ⊎_elim, Contains, list_any, starts_with, position_or_len, eq-eqb, false≢true, lt-ltb, or_left, or_right}
use Rattle.lexopt_options_spec.proofs.Common.{Contains-append_left, Contains-append_right, Contains-append_cases, Name, Declaration, Declared, has_name, index_of, is_name, is_one_of, is_sound}
use Rattle.lexopt_options_spec.proofs.Common.{names_of, Parsed, are_accepted, positional_words, pointwise, same_text, IsUtf8, list_any-append}
use Rattle.lexopt_options_spec.proofs.Common.{◌++◌, get_or_from_slice_get, same_Some, slice_get, slice_get_within, unwrap_or, option_map}
use Rattle.lexopt_options_spec.specs.Completion.{AreText, CanOccur, Completes, IsOpen, Spelled, is_offered, spelled, spelled_by, spelling, spellings, spellings_at, spellings_if, texts}
use Rattle.lexopt_options_spec.specs.Legal.{exclude, occurs}
use Rattle.lexopt_options_spec.proofs.Sound.{either, found, option_there}
use Rattle.lexopt_options_spec.proofs.Tables.{index_there, name_is, name_refl, pointwise_refl}
use Rattle.lexopt_options_spec.proofs.Occurs.{AreNamed, can_occur}
use Rattle.lexopt_options_spec.proofs.Taken.{AreFilled}

pub cons_cases : {X : Type 0} (x : X) (xs : List X) (s : X) → Contains (x ∷ xs) s → (x ≡ s) ⊎ Contains xs s
cons_cases x xs s (zero, within, is) = inl is
cons_cases x xs s (suc k, within, is) = inr (k, omega (arith, within), is)

here : {X : Type 0} (x : X) (xs : List X) (s : X) → x ≡ s → Contains (x ∷ xs) s
here x xs s is = (zero, omega arith, is)

there : {X : Type 0} (x : X) (xs : List X) (s : X) → Contains xs s → Contains (x ∷ xs) s
there x xs s (k, within, is) = (suc k, omega (arith, within), is)

none : {X : Type 0} (s : X) → Contains [] s → ⊥
none s (k, within, is) = omega (arith, within)

-- ---- a name and its spelling

-- the spelling of a name of an option with this help text
abbrev of_name : List ℕ → Bool → Name → Spelled
of_name help shown name = record { text = spelling name; help = help; shown = shown }

one_has : (help : List ℕ) (shown : Bool) (names : List Name) (name : Name) → is_one_of names name ≡ true → Contains (spelled help shown names) (of_name help shown name)
one_has help shown [] name is = absurd (false≢true is)
one_has help shown (n ∷ ns) name is = either (is_name name n) (is_one_of ns name) (Contains (spelled help shown (n ∷ ns)) (of_name help shown name)) is
    (λ one. here (of_name help shown n) (spelled help shown ns) (of_name help shown name) (ap (of_name help shown) (name_is name n one)))
    (λ other. there (of_name help shown n) (spelled help shown ns) (of_name help shown name) (one_has help shown ns name other))

-- these spellings have that of this name
abbrev HasSpelling : List Spelled → Name → Type 0
HasSpelling list name = (s : Spelled) × Contains list s × (s.text ≡ spelling name)

own_spelling : (name : Name) (o : Declared) → has_name name o ≡ true → HasSpelling (spelled_by o) name
own_spelling name o is = either (is_one_of (names_of o) name) (is_one_of o.aliases name) (HasSpelling (spelled_by o) name) (sym (list_any-append (is_name name) (names_of o) o.aliases) ∙ is)
    (λ own. (of_name o.help (not o.hidden) name, Contains-append_left _ (spelled o.help false o.aliases) _ (one_has o.help (not o.hidden) (names_of o) name own), refl))
    (λ further. (of_name o.help false name, Contains-append_right (spelled o.help (not o.hidden) (names_of o)) _ _ (one_has o.help false o.aliases name further), refl))

is_among : (name : Name) (os : List Declared) → list_any (has_name name) os ≡ true → HasSpelling (spellings os) name
is_among name [] is = absurd (false≢true is)
is_among name (o ∷ os) is = either (has_name name o) (list_any (has_name name) os) (HasSpelling (spellings (o ∷ os)) name) is
    (λ one. let m = own_spelling name o one in (m.0, Contains-append_left (spelled_by o) (spellings os) _ m.1, m.2))
    (λ other. let m = is_among name os other in (m.0, Contains-append_right (spelled_by o) (spellings os) _ m.1, m.2))

one_named : (help : List ℕ) (shown : Bool) (names : List Name) (s : Spelled) → Contains (spelled help shown names) s → (name : Name) × (s.text ≡ spelling name) × (is_one_of names name ≡ true)
one_named help shown [] s has = absurd (none s has)
one_named help shown (n ∷ ns) s has = ⊎_elim
    (λ (one : of_name help shown n ≡ s). (n, sym (ap (λ (x : Spelled). x.text) one), or_left _ _ (name_refl n)))
    (λ other. let m = one_named help shown ns s other in (m.0, m.1, or_right (is_name m.0 n) _ m.2))
    (cons_cases (of_name help shown n) (spelled help shown ns) s has)

named_by : (o : Declared) (s : Spelled) → Contains (spelled_by o) s → (name : Name) × (s.text ≡ spelling name) × (has_name name o ≡ true)
named_by o s has = ⊎_elim
    (λ own. let n = one_named o.help (not o.hidden) (names_of o) s own in (n.0, n.1, list_any-append (is_name n.0) (names_of o) o.aliases ∙ or_left _ _ n.2))
    (λ further. let n = one_named o.help false o.aliases s further in (n.0, n.1, list_any-append (is_name n.0) (names_of o) o.aliases ∙ or_right _ _ n.2))
    (Contains-append_cases (spelled o.help (not o.hidden) (names_of o)) (spelled o.help false o.aliases) s has)

named : (os : List Declared) (s : Spelled) → Contains (spellings os) s → (name : Name) × (s.text ≡ spelling name) × (list_any (has_name name) os ≡ true)
named [] s has = absurd (none s has)
named (o ∷ os) s has = ⊎_elim
    (λ here. let n = named_by o s here in (n.0, n.1, or_left _ _ n.2))
    (λ later. let n = named os s later in (n.0, n.1, or_right (has_name n.0 o) _ n.2))
    (Contains-append_cases (spelled_by o) (spellings os) s has)

-- ---- the spellings of the options whose index passes a test

-- the option at such an index has this spelling
abbrev IsOfOne : (ℕ → Bool) → List Declared → Spelled → Type 0
IsOfOne passes os s = (i : ℕ) × (o : Declared) × (slice_get os i ≡ Some o) × (passes i ≡ true) × Contains (spelled_by o) s

of_one : (passes : ℕ → Bool) (os : List Declared) (s : Spelled) → Contains (spellings_if passes os) s → IsOfOne passes os s
of_one passes [] s has = absurd (none s has)
of_one passes (o ∷ os) s has = go (passes 0) refl (λ more. let r = of_one (λ i. passes (suc i)) os s more in (suc r.0, r.1, r.2, r.3, r.4)) has
  where
    go : (b : Bool) → passes 0 ≡ b → (Contains (spellings_if (λ i. passes (suc i)) os) s → IsOfOne passes (o ∷ os) s) → Contains ((if b then spelled_by o else []) ++ spellings_if (λ i. passes (suc i)) os) s → IsOfOne passes (o ∷ os) s
    go true at later has = ⊎_elim (λ own. (0, o, refl, at, own)) later (Contains-append_cases (spelled_by o) (spellings_if (λ i. passes (suc i)) os) s has)
    go false at later has = later has

has_one : (passes : ℕ → Bool) (os : List Declared) (s : Spelled) (i : ℕ) (o : Declared) → slice_get os i ≡ Some o → passes i ≡ true → Contains (spelled_by o) s → Contains (spellings_if passes os) s
has_one passes [] s i o at is own = absurd (let within = slice_get_within [] i o at in omega (arith, within))
has_one passes (p ∷ os) s zero o at is own =
    Contains-append_left (if passes 0 then spelled_by p else []) (spellings_if (λ i. passes (suc i)) os) s
    (subst (λ (b : Bool). Contains (if b then spelled_by p else []) s) (sym is) (subst (λ (q : Declared). Contains (spelled_by q) s) (sym (same_Some p o at)) own))
has_one passes (p ∷ os) s (suc i) o at is own =
    Contains-append_right (if passes 0 then spelled_by p else []) (spellings_if (λ i. passes (suc i)) os) s (has_one (λ i. passes (suc i)) os s i o at is own)

at_index : (os : List Declared) (i : ℕ) (o : Declared) → slice_get os i ≡ Some o → spellings_at os i ≡ spelled_by o
at_index os i o at = ap (λ x. unwrap_or (option_map spelled_by x) []) at

-- ---- the spellings that pass a test

-- one of these spellings has this text and passes
abbrev HasPassing : (Spelled → Bool) → List Spelled → List ℕ → Type 0
HasPassing p list t = (s : Spelled) × Contains list s × (s.text ≡ t) × (p s ≡ true)

kept : (p : Spelled → Bool) (list : List Spelled) (t : List ℕ) → Contains (texts (filter p list)) t → HasPassing p list t
kept p [] t has = absurd (none t has)
kept p (x ∷ xs) t has = go (p x) refl (λ more. let r = kept p xs t more in (r.0, there x xs r.0 r.1, r.2, r.3)) has
  where
    go : (b : Bool) → p x ≡ b → (Contains (texts (filter p xs)) t → HasPassing p (x ∷ xs) t) → Contains (texts (if b then x ∷ filter p xs else filter p xs)) t → HasPassing p (x ∷ xs) t
    go true at later has = ⊎_elim (λ same. (x, here x xs x refl, same, at)) later (cons_cases x.text (texts (filter p xs)) t has)
    go false at later has = later has

keeps : (p : Spelled → Bool) (list : List Spelled) (s : Spelled) → Contains list s → p s ≡ true → Contains (texts (filter p list)) s.text
keeps p [] s has is = absurd (none s has)
keeps p (x ∷ xs) s has is = go (p x) refl (λ more. keeps p xs s more is)
  where
    go : (b : Bool) → p x ≡ b → (Contains xs s → Contains (texts (filter p xs)) s.text) → Contains (texts (if b then x ∷ filter p xs else filter p xs)) s.text
    go true at later = ⊎_elim (λ (same : x ≡ s). here x.text _ s.text (ap (λ (y : Spelled). y.text) same)) (λ more. there x.text _ s.text (later more)) (cons_cases x xs s has)
    go false at later = ⊎_elim (λ (same : x ≡ s). absurd (false≢true (sym at ∙ ap p same ∙ is))) later (cons_cases x xs s has)

begins_itself : (xs : List ℕ) → starts_with nat_eq xs xs ≡ true
begins_itself [] = refl
begins_itself (x ∷ xs) = ap (λ b. b && starts_with nat_eq xs xs) (eq-eqb x x refl) ∙ begins_itself xs

-- a spelling that is offered begins with what was typed, and is shown or typed whole
begins_so : (typed : List ℕ) (s : Spelled) → is_offered typed s ≡ true → (starts_with nat_eq s.text typed ≡ true) × ((s.shown ≡ true) ⊎ (s.text ≡ typed))
begins_so typed s is = go s.shown refl is
  where
    go : (b : Bool) → s.shown ≡ b → (if b then starts_with nat_eq s.text typed else pointwise ◌==◌ s.text typed) ≡ true → (starts_with nat_eq s.text typed ≡ true) × ((s.shown ≡ true) ⊎ (s.text ≡ typed))
    go true at is = (is, inl at)
    go false at is = let same = same_text s.text typed (sym is) in (subst (λ t. starts_with nat_eq s.text t ≡ true) same (begins_itself s.text), inr same)

shown_offered : (typed : List ℕ) (s : Spelled) → s.shown ≡ true → starts_with nat_eq s.text typed ≡ true → is_offered typed s ≡ true
shown_offered typed s shown begins = ap (λ (b : Bool). if b then starts_with nat_eq s.text typed else pointwise ◌==◌ s.text typed) shown ∙ begins

whole_offered : (typed : List ℕ) (s : Spelled) → s.text ≡ typed → is_offered typed s ≡ true
whole_offered typed s is = subst (λ t. is_offered t s ≡ true) is (elim s.shown as (λ (b : Bool). (if b then starts_with nat_eq s.text s.text else pointwise ◌==◌ s.text s.text) ≡ true) [ true ↦ begins_itself s.text | false ↦ pointwise_refl s.text ])

-- ---- what can come

pub any_within : {X : Type 0} (p : X → Bool) (os : List X) → list_any p os ≡ true → position_or_len p os < length os
any_within p [] is = absurd (false≢true is)
any_within p (o ∷ os) is = go (p o) is (any_within p os)
  where
    go : (b : Bool) → (b || list_any p os) ≡ true → (list_any p os ≡ true → position_or_len p os < length os) → (if not b then 1 + position_or_len p os else 0) < suc (length os)
    go true is rest = omega arith
    go false is rest = let r = rest is in omega arith

an_index : (name : Name) (os : List Declared) → list_any (has_name name) os ≡ true → (i : ℕ) × (index_of os name ≡ Some i)
an_index name os is = (position_or_len (has_name name) os, ap (λ (b : Bool). if b then Some (position_or_len (has_name name) os) else None) (lt-ltb _ _ (any_within (has_name name) os is)))

pub offered_occurs : (d : Declaration) (words : List (List ℕ)) (l : List Parsed) (s : Spelled) → is_sound d.options ≡ true → AreText d.options → AreNamed d.options → IsOpen d words l
    → are_accepted d.options l ≡ true → AreFilled d.positionals (positional_words l) → Contains (spellings d.options) s → CanOccur d words s.text
offered_occurs d words l s sound text names is accepted filled has =
    let n = named d.options s has in
    let i = an_index n.0 d.options n.2 in
    subst (CanOccur d words) (sym n.1) (can_occur d words l n.0 i.0 sound text names is accepted filled i.1 (text n.0 n.2)).0

pub occurs_offered : (d : Declaration) (words : List (List ℕ)) (t : List ℕ) → CanOccur d words t → (s : Spelled) × Contains (spellings d.options) s × (s.text ≡ t)
occurs_offered d words t possible =
    let s = is_among possible.name d.options (found (has_name possible.name) d.options possible.index possible.declared) in
    (s.0, s.1, s.2 ∙ sym possible.spelled)

-- ---- what is offered

-- of options that pass a test, where no option before excludes an option that passes
pub offered_completes : (d : Declaration) (words : List (List ℕ)) (l : List Parsed) (typed t : List ℕ) (passes : ℕ → Bool) → is_sound d.options ≡ true → AreText d.options → AreNamed d.options → IsOpen d words l
    → are_accepted d.options l ≡ true → AreFilled d.positionals (positional_words l) → ((i : ℕ) → passes i ≡ true → (k : ℕ) → occurs k l ≡ true → exclude d.options k i ≡ false) → IsUtf8 typed
    → Contains (texts (filter (is_offered typed) (spellings_if passes d.options))) t → Completes d words typed t
offered_completes d words l typed t passes sound text names is accepted filled free utf8 has =
    let s = kept (is_offered typed) (spellings_if passes d.options) t has in
    let b = begins_so typed s.0 s.3 in
    let o = of_one passes d.options s.0 s.1 in
    let n = named_by o.1 s.0 o.4 in
    let here = get_or_from_slice_get d.options o.0 o.1 o.1 o.2 in
    let index = index_there d.options n.0 o.0 o.1 sound (slice_get_within d.options o.0 o.1 o.2) (ap (has_name n.0) here ∙ n.2) in
    let can = can_occur d words l n.0 o.0 sound text names is accepted filled index (text n.0 (found (has_name n.0) d.options o.0 index)) in
    let at : spellings_at d.options can.0.index ≡ spelled_by o.1 = ap (spellings_at d.options) can.2 ∙ at_index d.options o.0 o.1 o.2 in
    subst (Completes d words typed) (sym n.1 ∙ s.2) (record {
      text = utf8;
      begins = subst (λ (x : List ℕ). starts_with nat_eq x typed ≡ true) n.1 b.0;
      possible = can.0;
      apart = λ k there. ap (exclude d.options k) can.2 ∙ free o.0 o.3 k (ap (occurs k) (sym can.1) ∙ there);
      shown = ⊎_elim
          (λ shown. inl (subst (λ (x : List ℕ). Contains (texts (filter (λ x. x.shown) (spellings_at d.options can.0.index))) x) n.1
          (subst (λ (list : List Spelled). Contains (texts (filter (λ x. x.shown) list)) s.0.text) (sym at) (keeps (λ x. x.shown) (spelled_by o.1) s.0 o.4 shown))))
          (λ whole. inr (sym n.1 ∙ whole)) b.1;
    })

pub completes_offered : (d : Declaration) (words : List (List ℕ)) (typed t : List ℕ) (passes : ℕ → Bool) → (completes : Completes d words typed t) → passes completes.possible.index ≡ true
    → Contains (texts (filter (is_offered typed) (spellings_if passes d.options))) t
completes_offered d words typed t passes completes free =
    let possible = completes.possible in
    let o = option_there d.options possible.name possible.index possible.declared in
    ⊎_elim
    (λ shown.
    let s = kept (λ x. x.shown) (spelled_by o.0) t (subst (λ (list : List Spelled). Contains (texts (filter (λ x. x.shown) list)) t) (at_index d.options possible.index o.0 o.1) shown) in
    subst (Contains (texts (filter (is_offered typed) (spellings_if passes d.options)))) s.2
    (keeps (is_offered typed) (spellings_if passes d.options) s.0 (has_one passes d.options s.0 possible.index o.0 o.1 free s.1)
    (shown_offered typed s.0 s.3 (subst (λ (x : List ℕ). starts_with nat_eq x typed ≡ true) (sym s.2) completes.begins))))
    (λ whole.
    let s = own_spelling possible.name o.0 o.2 in
    let same = s.2 ∙ sym possible.spelled in
    subst (Contains (texts (filter (is_offered typed) (spellings_if passes d.options)))) same
    (keeps (is_offered typed) (spellings_if passes d.options) s.0 (has_one passes d.options s.0 possible.index o.0 o.1 free s.1) (whole_offered typed s.0 (same ∙ whole))))
    completes.shown
