-- Which options were read on which the end of a line hangs.
use Rattle.std.proofs.Common.{◌≡◌, ◌<◌, ◌==◌, ◌&&◌, ◌∙◌, ℕ, zero, suc, Bool, false, true, not, List, [], ◌∷◌, length, map, get_or, slice_get, Option, Some, None, refl, sym, subst, ap, arith}
use Rattle.std.specs.Borrow.{Bor}
use Rattle.std.specs.List.{list_any}
use Rattle.std.specs.Option.{MatchOption, is_some, option_map}
use Rattle.std.proofs.lemmas.Bool.{eq-eqb, eqb-true, false≢true, not-true, or_left, or_parts, or_right}
use Rattle.std.proofs.lemmas.List.{length-map}
use Rattle.lexopt_options_spec.specs.Declaration as spec
use Rattle.lexopt_options_spec.specs.Declaration.{has}
use Rattle.lexopt_options_spec.specs.Legal.{AreApart, Parsed, are_same, clash, exclude, exclusive_at, is_required, occurs}
use Rattle.lexopt_options_spec.specs.Stops.{IsFirstClash}
use Rattle.lexopt_options_spec.proofs.Apart.{none_past as none_declared, same_clash, texts_there}
use Rattle.lexopt_options_spec.proofs.Sound.{either}
use Rattle.lexopt_options_spec.specs.Completion.{is_free}
use Rattle.lexopt_declaration.specs.Lookups.{names_at}
use Rattle.lexopt_declaration.specs.Models.{long_name, option_view, short_name}
use Rattle.lexopt_declaration.specs.declared.declaration.Declared.{Declared}
use Rattle.lexopt_declaration.specs.declared.declaration.Names.{Names}
use Rattle.lexopt_options.specs.declared.options.Options.{Options}
use Rattle.lexopt_options.specs.Declarations.{declaration_of, options_of}
use Rattle.lexopt_options.specs.Mistakes.{AreNames}
use Rattle.lexopt_options.specs.Reading.{AllSeen, AreSeen, IsFirstUnseen, is_noted_at}
use Rattle.lexopt_options.proofs.Accepted.{at_place, required_is, view_there}

pub required_here : {F V M S : Type 0} (options : List (Declared F V M S)) (i : ℕ) (x : Declared F V M S) → i < length options → x ≡ get_or options i x → is_required (map option_view options) i ≡ x.required
required_here options i x within is = required_is (map option_view options) i (option_view x) (view_there options i x (at_place options i x within is))

pub required_within : {F V M S : Type 0} (options : List (Declared F V M S)) (i : ℕ) → is_required (map option_view options) i ≡ true → i < length options
required_within [] i is = absurd (false≢true is)
required_within (o ∷ os) zero is = omega arith
required_within (o ∷ os) (suc i) is = let rest = required_within os i is in omega (arith, rest)

-- the names of the option at an index
are_names : {F V M S : Type 0} (options : List (Declared F V M S)) (i : ℕ) (names : Names) → names_at options (Some i) ≡ Some names → AreNames (map option_view options) i names
are_names [] i names is = absurd (let e : None ≡ Some names = is in cc)
are_names (o ∷ os) zero names is =
    let e : Some o.names ≡ Some names = is in
    let same : o.names ≡ names = cc in
    (option_view o, refl, ap short_name same, ap long_name same)
are_names (o ∷ os) (suc i) names is = are_names os i names is

-- if no option is required, none is missing
pub none_required : {F V M S : Type 0} (options : List (Declared F V M S)) (i : ℕ) → list_any (λ o. o.required) options ≡ false → is_required (map option_view options) i ≡ false
none_required [] i none = refl
none_required (o ∷ os) zero none = (or_parts o.required (list_any (λ p. p.required) os) none).0
none_required (o ∷ os) (suc i) none = none_required os i (or_parts o.required (list_any (λ p. p.required) os) none).1

-- the first that is missing among the options of a declaration
pub missing_so : {F V P M S : Type 0} (o : Options F V P M S) (os : List (Declared F V M S)) (seen : List ℕ) (r : Option Names) → os ≡ options_of o
    → MatchOption r (AllSeen (map option_view os) seen) (λ names. (index : ℕ) × IsFirstUnseen (map option_view os) seen index × (names_at os (Some index) ≡ Some names))
    → MatchOption r (AllSeen (declaration_of o).options seen) (λ names. (index : ℕ) × IsFirstUnseen (declaration_of o).options seen index × AreNames (declaration_of o).options index names)
missing_so o os seen None is found = subst (λ qs. AllSeen (map option_view qs) seen) is found
missing_so o os seen (Some names) is (index, first, at) =
    (index, subst (λ qs. IsFirstUnseen (map option_view qs) seen index) is first, subst (λ qs. AreNames (map option_view qs) index names) is (are_names os index names at))

-- ---- options that exclude each other

exclusive_noted : (options : List spec.Declared) (i : ℕ) → is_some (exclusive_at options i) ≡ true → is_noted_at options i ≡ true
exclusive_noted [] i is = absurd (false≢true is)
exclusive_noted (o ∷ os) zero is = or_right o.required _ (or_right (is_some o.default) _ is)
exclusive_noted (o ∷ os) (suc i) is = exclusive_noted os i is

same_seen : (options : List spec.Declared) (l : List Parsed) (seen : List ℕ) → AreSeen options l seen → (i j : ℕ) → clash options (λ k. has k seen) i j ≡ clash options (λ k. occurs k l) i j
same_seen options l seen are = same_clash options (λ k. has k seen) (λ k. occurs k l) (λ k some. are k (exclusive_noted options k some))

pub apart_so : (options : List spec.Declared) (l : List Parsed) (seen : List ℕ) → AreSeen options l seen → AreApart options (λ k. has k seen) → AreApart options (λ k. occurs k l)
apart_so options l seen are apart = λ i j. sym (same_seen options l seen are i j) ∙ apart i j

pub clash_so : (options : List spec.Declared) (l : List Parsed) (seen : List ℕ) (i j : ℕ) → AreSeen options l seen → IsFirstClash options (λ k. has k seen) i j → IsFirstClash options (λ k. occurs k l) i j
clash_so options l seen i j are clashes = record {
  here = sym (same_seen options l seen are i j) ∙ clashes.here;
  first = λ k m below. sym (same_seen options l seen are k m) ∙ clashes.first k m below;
  nearest = λ m below. sym (same_seen options l seen are i m) ∙ clashes.nearest m below;
}

never : (b there : Bool) → ((b && false) && there) ≡ false
never true there = refl
never false there = refl

-- whether two options at these indices exclude each other, and both are there
pub clash_at : {F V M S : Type 0} (options : List (Declared F V M S)) (there : ℕ → Bool) (i j : ℕ) (o p : Declared F V M S) → slice_get options i ≡ Some o → slice_get options j ≡ Some p
    → clash (map option_view options) there i j ≡ ((not (j == i) && are_same (option_map (λ own. own.now) o.exclusive) (option_map (λ own. own.now) p.exclusive)) && (there i && there j))
clash_at options there i j o p at other_at = rw (view_there options i o at, view_there options j p other_at) refl

pub itself_apart : (other same there : Bool) → other ≡ false → ((other && same) && there) ≡ false
itself_apart other same there is = rw is refl

pub text_apart : (other same there : Bool) → same ≡ false → ((other && same) && there) ≡ false
text_apart other same there is = rw is (never other there)

pub unseen_apart : (excludes here there : Bool) → there ≡ false → (excludes && (here && there)) ≡ false
unseen_apart true true there is = is
unseen_apart true false there is = refl
unseen_apart false here there is = refl

pub unread_apart : (excludes here there : Bool) → here ≡ false → (excludes && (here && there)) ≡ false
unread_apart true here there is = rw is refl
unread_apart false here there is = refl

-- only options that are declared exclude each other
pub none_past : {F V M S : Type 0} (options : List (Declared F V M S)) (there : ℕ → Bool) (i j : ℕ) → (i < length options → j < length options → clash (map option_view options) there i j ≡ false) → clash (map option_view options) there i j ≡ false
none_past options there i j within =
    none_declared (map option_view options) there i j (λ one other. within (subst (λ n. i < n) (length-map options option_view) one) (subst (λ n. j < n) (length-map options option_view) other))

-- if no option has a text, none excludes another
none_view : (text : Option (Bor (List ℕ))) → is_some text ≡ false → option_map (λ own. own.now) text ≡ None
none_view None is = refl
none_view (Some own) is = absurd (false≢true (sym is))

no_text : {F V M S : Type 0} (options : List (Declared F V M S)) (i : ℕ) → list_any (λ o. is_some o.exclusive) options ≡ false → exclusive_at (map option_view options) i ≡ None
no_text [] i none = refl
no_text (o ∷ os) zero none = none_view o.exclusive (or_parts (is_some o.exclusive) (list_any (λ p. is_some p.exclusive) os) none).0
no_text (o ∷ os) (suc i) none = no_text os i (or_parts (is_some o.exclusive) (list_any (λ p. is_some p.exclusive) os) none).1

pub none_apart : {F V M S : Type 0} (options : List (Declared F V M S)) (there : ℕ → Bool) → list_any (λ o. is_some o.exclusive) options ≡ false → AreApart (map option_view options) there
none_apart options there none = λ i j.
    ap (λ text. (not (j == i) && are_same text (exclusive_at (map option_view options) j)) && (there i && there j)) (no_text options i none)
    ∙ never (not (j == i)) (there i && there j)

-- options that are not there exclude no other
pub absent_apart : (options : List spec.Declared) → AreApart options (λ k. occurs k [])
absent_apart options = λ i j. by (exclude options i j)
  where
    by : (b : Bool) → (b && false) ≡ false
    by true = refl
    by false = refl

-- the first that exclude each other among the options of a declaration
pub exclusive_so : {F V P M S : Type 0} (o : Options F V P M S) (os : List (Declared F V M S)) (seen : List ℕ) (r : Option (Names × Names)) → os ≡ options_of o
    → MatchOption r (AreApart (map option_view os) (λ k. has k seen))
    (λ both. (index : ℕ) × (other : ℕ) × IsFirstClash (map option_view os) (λ k. has k seen) index other × (names_at os (Some index) ≡ Some both.0) × (names_at os (Some other) ≡ Some both.1))
    → MatchOption r (AreApart (declaration_of o).options (λ k. has k seen))
    (λ both. (index : ℕ) × (other : ℕ) × IsFirstClash (declaration_of o).options (λ k. has k seen) index other × AreNames (declaration_of o).options index both.0 × AreNames (declaration_of o).options other both.1)
exclusive_so o os seen None is found = subst (λ qs. AreApart (map option_view qs) (λ k. has k seen)) is found
exclusive_so o os seen (Some both) is (index, other, clashes, at, other_at) = (
  index,
  other,
  subst (λ qs. IsFirstClash (map option_view qs) (λ k. has k seen) index other) is clashes,
  subst (λ qs. AreNames (map option_view qs) index both.0) is (are_names os index both.0 at),
  subst (λ qs. AreNames (map option_view qs) other both.1) is (are_names os other both.1 other_at),
)

-- ---- options that no option before excludes

has_any : (p : ℕ → Bool) (k : ℕ) (l : List ℕ) → has k l ≡ true → p k ≡ true → list_any p l ≡ true
has_any p k [] there is = absurd (false≢true there)
has_any p k (x ∷ l) there is = either (x == k) (has k l) (list_any p (x ∷ l) ≡ true) there
    (λ same. or_left (p x) (list_any p l) (ap p (eqb-true x k same) ∙ is))
    (λ later. or_right (p x) (list_any p l) (has_any p k l later is))

any_has : (p : ℕ → Bool) (l : List ℕ) → list_any p l ≡ true → (k : ℕ) × (has k l ≡ true) × (p k ≡ true)
any_has p [] is = absurd (false≢true is)
any_has p (x ∷ l) is = either (p x) (list_any p l) ((k : ℕ) × (has k (x ∷ l) ≡ true) × (p k ≡ true)) is
    (λ one. (x, or_left (x == x) (has x l) (eq-eqb x x refl), one))
    (λ later. let r = any_has p l later in (r.0, or_right (x == r.0) (has r.0 l) r.1, r.2))

-- no option that was read excludes one that is free of those that are noted
pub free_apart : (options : List spec.Declared) (l : List Parsed) (seen : List ℕ) → AreSeen options l seen → (i : ℕ) → is_free options seen i ≡ true → (k : ℕ) → occurs k l ≡ true → exclude options k i ≡ false
free_apart options l seen are i free k there = by (exclude options k i) refl
  where
    by : (b : Bool) → exclude options k i ≡ b → exclude options k i ≡ false
    by false is = is
    by true is =
        let seen_so = are k (exclusive_noted options k (texts_there options k i is).0) ∙ there in
        absurd (false≢true (sym (not-true _ free) ∙ has_any (λ j. exclude options j i) k seen seen_so is))

-- and one that none excludes is free
pub apart_free : (options : List spec.Declared) (l : List Parsed) (seen : List ℕ) → AreSeen options l seen → (i : ℕ) → ((k : ℕ) → occurs k l ≡ true → exclude options k i ≡ false) → is_free options seen i ≡ true
apart_free options l seen are i apart = by (list_any (λ k. exclude options k i) seen) refl
  where
    by : (b : Bool) → list_any (λ k. exclude options k i) seen ≡ b → is_free options seen i ≡ true
    by false is = ap not is
    by true is =
        let r = any_has (λ k. exclude options k i) seen is in
        let there = sym (are r.0 (exclusive_noted options r.0 (texts_there options r.0 i r.2).0)) ∙ r.1 in absurd (false≢true (sym (apart r.0 there) ∙ r.2))
