-- Whether options accept the values that they have.
use Rattle.lexopt_options.proofs.Common.{◌≡◌, ◌==◌, ◌||◌, ◌∷◌, ◌<◌, ◌⊎◌, inl, inr, ℕ, Bool, true, false, not, List, [], map, length, position, cond, Option, Some, None, is_none, option_and_then}
use Rattle.lexopt_options.proofs.Common.{slice_get, unwrap_or, get_or, refl, sym, ap, ◌∙◌, list_any, is_some, option_map, false≢true, not-true, slice_get-map, slice_get-get_or, slice_get_read}
use Rattle.lexopt_options.proofs.Common.{list_of, is_required, refused_value, Declared, option_view, words_view, Bor, position-Some, Words}
use Rattle.std.specs.Cmp.Lexicographic.{pointwise}
use Rattle.lexopt_options_spec.specs.Declaration as spec
use Rattle.lexopt_options_spec.specs.Legal as legal
use Rattle.lexopt_declaration.specs.declared.declaration.Words.TheVariants as variant

-- a value that is listed
pub listed_by : (value : List ℕ) (values : List (Bor (List ℕ))) → list_any (λ own. pointwise ◌==◌ own.now value) values ≡ list_any (λ own. pointwise ◌==◌ own value) (map (λ own. own.now) values)
listed_by value [] = refl
listed_by value (own ∷ values) = ap (λ b. pointwise ◌==◌ own.now value || b) (listed_by value values)

pub accepts_by : (words : Words) (values : Bor (List (Bor (List ℕ)))) (value : List ℕ) (b : Bool) → words ≡ variant.Listed values → b ≡ list_any (λ own. pointwise ◌==◌ own.now value) values.now
    → spec.accepts (words_view words) value ≡ b
accepts_by words values value b is so = ap (λ w. spec.accepts (words_view w) value) is ∙ sym (listed_by value values.now) ∙ sym so

pub accepts_any : (words : Words) → (words ≡ variant.Files) ⊎ ((words ≡ variant.Directories) ⊎ (words ≡ variant.Text)) → (value : List ℕ) → spec.accepts (words_view words) value ≡ true
accepts_any words (inl is) value = ap (λ w. spec.accepts (words_view w) value) is
accepts_any words (inr (inl is)) value = ap (λ w. spec.accepts (words_view w) value) is
accepts_any words (inr (inr is)) value = ap (λ w. spec.accepts (words_view w) value) is

-- only a list refuses a value
pub refused_list : (words : spec.Words) (value : List ℕ) → spec.accepts words value ≡ false → words ≡ spec.listed (list_of words)
refused_list (spec.listed values) value is = refl
refused_list words value is = absurd (false≢true (sym is))

none_found : (p : List ℕ → Bool) (values : List (List ℕ)) → ((v : List ℕ) → p v ≡ false) → position p values ≡ None
none_found p [] never = refl
none_found p (v ∷ values) never = go (position p (v ∷ values)) refl
  where
    go : (o : Option ℕ) → position p (v ∷ values) ≡ o → position p (v ∷ values) ≡ None
    go None is = is
    go (Some i) is = absurd (false≢true (sym (never _) ∙ (position-Some p (v ∷ values) i v is).1))

-- a place that was found in a list has a value
pub first_there : (p : List ℕ → Bool) (values : List (List ℕ)) → is_none (option_and_then (λ n. slice_get values n) (position p values)) ≡ is_none (position p values)
first_there p [] = refl
first_there p (v ∷ values) = go (position p (v ∷ values)) refl
  where
    go : (o : Option ℕ) → position p (v ∷ values) ≡ o → is_none (option_and_then (λ n. slice_get (v ∷ values) n) o) ≡ is_none o
    go None is = refl
    go (Some i) is = ap is_none (slice_get-get_or (v ∷ values) i v (position-Some p (v ∷ values) i v is).0)

pub none_cond : (b : Bool) (value : List ℕ) → is_none (cond b None (Some value)) ≡ b
none_cond true value = refl
none_cond false value = refl

-- the element at an index
pub at_place : {X : Type 0} (xs : List X) (i : ℕ) (x : X) → i < length xs → x ≡ get_or xs i x → slice_get xs i ≡ Some x
at_place xs i x within is = slice_get_read xs (length xs) i x refl within is

pub none_is : (o : Option ℕ) (b : Bool) → is_some o ≡ not b → b ≡ is_none o
none_is None true is = refl
none_is None false is = absurd (false≢true is)
none_is (Some i) true is = absurd (false≢true (sym is))
none_is (Some i) false is = refl

-- what a declaration has at an index
pub view_there : {F V M S : Type 0} (options : List (Declared F V M S)) (i : ℕ) (o : Declared F V M S) → slice_get options i ≡ Some o → slice_get (map option_view options) i ≡ Some (option_view o)
view_there options i o at = slice_get-map option_view options i ∙ ap (option_map option_view) at

pub required_is : (options : List spec.Declared) (i : ℕ) (o : spec.Declared) → slice_get options i ≡ Some o → is_required options i ≡ o.required
required_is options i o at = ap (λ x. unwrap_or (option_map (λ p. p.required) x) false) at

-- one value is accepted or not
pub value_accepted : (options : List spec.Declared) (i : ℕ) (o : spec.Declared) (value : List ℕ) → slice_get options i ≡ Some o → spec.accepts o.words value ≡ true
    → refused_value options (legal.option i (Some value)) ≡ None
value_accepted options i o value at is = ap (λ b. cond b None (Some value)) (ap (λ x. unwrap_or (option_map (λ p. spec.accepts p.words value) x) true) at ∙ is)

pub value_refused : (options : List spec.Declared) (i : ℕ) (o : spec.Declared) (value : List ℕ) → slice_get options i ≡ Some o → spec.accepts o.words value ≡ false
    → refused_value options (legal.option i (Some value)) ≡ Some value
value_refused options i o value at is = ap (λ b. cond b None (Some value)) (ap (λ x. unwrap_or (option_map (λ p. spec.accepts p.words value) x) true) at ∙ is)

-- the first of several values that is not accepted
pub first_refused : (options : List spec.Declared) (i : ℕ) (o : spec.Declared) (values : List (List ℕ)) (n : Option ℕ) → slice_get options i ≡ Some o
    → n ≡ position (λ value. not (spec.accepts o.words value)) values → refused_value options (legal.several i values) ≡ option_and_then (λ k. slice_get values k) n
first_refused options i o values n at is =
    ap (λ x. option_and_then (λ k. slice_get values k) (position (λ (value : List ℕ). not (unwrap_or (option_map (λ p. spec.accepts p.words value) x) true)) values)) at
    ∙ ap (λ x. option_and_then (λ k. slice_get values k) x) (sym is)

pub any_accepted : (words : spec.Words) (values : List (List ℕ)) → ((value : List ℕ) → spec.accepts words value ≡ true) → position (λ value. not (spec.accepts words value)) values ≡ None
any_accepted words values all = none_found (λ value. not (spec.accepts words value)) values (λ value. ap not (all value))

-- the value at the place of the first of several that is not accepted
pub place_refused : (words : spec.Words) (values : List (List ℕ)) (place : ℕ) (value : List ℕ) → Some place ≡ position (λ value. not (spec.accepts words value)) values → value ≡ get_or values place value
    → (slice_get values place ≡ Some value) × (spec.accepts words value ≡ false)
place_refused words values place value found is =
    let first = position-Some (λ value. not (spec.accepts words value)) values place value (sym found) in
    (at_place values place value first.0 is, not-true (spec.accepts words value) (ap (λ v. not (spec.accepts words v)) is ∙ first.1))
