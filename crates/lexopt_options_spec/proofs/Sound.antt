-- The names and the defaults of options that can be declared together.
use Rattle.lexopt_options_spec.proofs.Common.{◌≡◌, ◌≢◌, ℕ, Bool, true, false, ◌==◌, ◌||◌, ◌&&◌, List, [], ◌∷◌, map, get_or, position, slice_get, take, Option, Some, None, cond, refl, sym, ap, subst}
use Rattle.lexopt_options_spec.proofs.Common.{◌∙◌, Contains, list_all, list_any, false≢true, and_parts, eq-eqb, eqb-false, list_any_at, replacement, lossy_characters, dash, equals, Name, short, long}
use Rattle.lexopt_options_spec.proofs.Common.{Item, Kind, option_map, option_to_list}
use Rattle.std.proofs.lemmas.List.Quantifiers.{position-Some}
use Rattle.std.proofs.lemmas.Option.{get_or_from_slice_get, same_Some, slice_get-get_or, slice_get_within}
use Rattle.lexopt_line_spec.specs.Table as spec
use Rattle.lexopt_line_spec.specs.Spelling.{IsWholeName, HaveWholeNames}
use Rattle.lexopt_options_spec.specs.Declaration.{Declared, Reason, Words, accepts, bad_default, is_default, has, all_names, has_name, is_empty, is_name, is_one_of, index_of, name_fault, names_fault, is_sound}
use Rattle.lexopt_options_spec.specs.Legal.{Parsed, option, several, parsed_item}
use Rattle.lexopt_options_spec.proofs.FaultLemmas.{IsFaultless, faultless_at, neither, passes}
use Rattle.lexopt_options_spec.proofs.Lists.{first_same}
use Rattle.lexopt_options_spec.proofs.Tables.{name_is}

-- a name that can be declared
abbrev pub IsGoodName : Name → Type 0
IsGoodName (short c) = (c ≢ dash) × (c ≢ replacement)
IsGoodName (long name) = (name ≢ []) × (¬ Contains name equals) × (¬ Contains (lossy_characters name) replacement)

none_and : (b : Bool) (r : Reason) (rest : Option Reason) → cond b (Some r) rest ≡ None → (b ≡ false) × (rest ≡ None)
none_and true r rest is = absurd (let e : Some r ≡ None = is in cc)
none_and false r rest is = (refl, is)

not_among : (c : ℕ) (l : List ℕ) → has c l ≡ false → ¬ Contains l c
not_among c l is among =
    false≢true (sym is ∙ list_any_at (λ b. b == c) l among.0 c among.1 (eq-eqb _ c among.2))

some_bytes : (name : List ℕ) → is_empty name ≡ false → name ≢ []
some_bytes [] is same = false≢true (sym is)
some_bytes (b ∷ bs) is same = let e : b ∷ bs ≡ [] = same in cc

good_name : (name : Name) → name_fault name ≡ None → IsGoodName name
good_name (short c) none =
    let first = none_and (c == dash) _ _ none in
    let second = none_and (c == replacement) _ _ first.1 in
    (eqb-false c dash first.0, eqb-false c replacement second.0)
good_name (long name) none =
    let first = none_and (is_empty name) _ _ none in
    let second = none_and (has equals name) _ _ first.1 in
    let third = none_and (has replacement (lossy_characters name)) _ _ second.1 in
    (some_bytes name first.0, not_among equals name second.0, not_among replacement (lossy_characters name) third.0)

pub either : (a b : Bool) (P : Type 0) → (a || b) ≡ true → (a ≡ true → P) → (b ≡ true → P) → P
either true b P is one other = one refl
either false b P is one other = other is

-- with none of these names anything is wrong
pub names_fine : (names : List Name) (name : Name) → names_fault name_fault names ≡ None → is_one_of names name ≡ true → name_fault name ≡ None
names_fine [] name none is = absurd (false≢true is)
names_fine (n ∷ ns) name none is =
    let parts = neither (name_fault n) (names_fault name_fault ns) none in
    either (is_name name n) (is_one_of ns name) (name_fault name ≡ None) is
    (λ here. ap name_fault (sym (name_is name n here)) ∙ parts.0) (λ later. names_fine ns name parts.1 later)

pub found : (p : Declared → Bool) (os : List Declared) (i : ℕ) → position p os ≡ Some i → list_any p os ≡ true
found p [] i is = absurd (let e : None ≡ Some i = is in cc)
found p (o ∷ os) i is =
    let at = position-Some p (o ∷ os) i o is in
    list_any_at p (o ∷ os) i o at.0 at.1

-- the option with a name
pub option_there : (options : List Declared) (name : Name) (i : ℕ) → index_of options name ≡ Some i → (o : Declared) × (slice_get options i ≡ Some o) × (has_name name o ≡ true)
option_there [] name i is = absurd (let e : None ≡ Some i = is in cc)
option_there (o ∷ os) name i is =
    let at = position-Some (has_name name) (o ∷ os) i o is in
    (get_or (o ∷ os) i o, slice_get-get_or (o ∷ os) i o at.0, at.1)

-- nothing is wrong with an option that is declared
pub none_wrong : (options : List Declared) (i : ℕ) (o : Declared) → is_sound options ≡ true → slice_get options i ≡ Some o → IsFaultless (take i options) o
none_wrong options i o sound at =
    subst (λ p. IsFaultless (take i options) p) (get_or_from_slice_get options i o o at) (faultless_at options i o sound (slice_get_within options i o at))

default_parts : (k : Kind) (required : Bool) (words : Words) (value : List ℕ) → is_default k required words value ≡ true → (k ≡ spec.one) × (required ≡ false) × (accepts words value ≡ true)
default_parts spec.one false words value is = (refl, refl, is)
default_parts k required words value is = absurd (false≢true is)

-- an option with a default has one value, is not required, and accepts the default
pub default_fits : (options : List Declared) (i : ℕ) (o : Declared) (value : List ℕ) → is_sound options ≡ true → slice_get options i ≡ Some o → o.default ≡ Some value
    → (o.kind ≡ spec.one) × (o.required ≡ false) × (accepts o.words value ≡ true)
default_fits options i o value sound at is =
    let fine = passes _ bad_default (none_wrong options i o sound at).default in
    let alone : (is_default o.kind o.required o.words value && true) ≡ true = sym (ap (λ d. list_all (is_default o.kind o.required o.words) (option_to_list d)) is) ∙ fine in
    default_parts o.kind o.required o.words value (and_parts (is_default o.kind o.required o.words value) true alone).0

-- the names of these options can be declared
pub good : (options : List Declared) (name : Name) (i : ℕ) → is_sound options ≡ true → index_of options name ≡ Some i → IsGoodName name
good options name i sound is =
    let there = option_there options name i is in
    let none = none_wrong options i there.0 sound there.1 in
    good_name name (names_fine (all_names there.0) name none.names there.2)

-- ---- what is read has names that can be declared

whole : (name : Name) → IsGoodName name → IsWholeName name
whole (short c) is = is.1
whole (long name) is = is.2

pub known : {X Y : Type 0} (f : X → Y) (o : Option X) (y : Y) → option_map f o ≡ Some y → (x : X) × (o ≡ Some x) × (f x ≡ y)
known f None y is = absurd (let e : None ≡ Some y = is in cc)
known f (Some x) y is = (x, refl, same_Some (f x) y is)

pub whole_names : (options : List Declared) → is_sound options ≡ true → (items : List Item) (l : List Parsed) → map (parsed_item options) items ≡ map (λ s. Some s) l → HaveWholeNames items
whole_names options sound [] l is = tt
whole_names options sound (item ∷ items) [] is = absurd (let e : parsed_item options item ∷ map (parsed_item options) items ≡ [] = is in cc)
whole_names options sound (spec.option name value ∷ items) (s ∷ l) is =
    let parts = first_same _ (Some s) (map (parsed_item options) items) (map (λ s. Some s) l) is in
    let index = known (λ i. option i value) (index_of options name) s parts.0 in
    (whole name (good options name index.0 sound index.1), whole_names options sound items l parts.1)
whole_names options sound (spec.many name values ∷ items) (s ∷ l) is =
    let parts = first_same _ (Some s) (map (parsed_item options) items) (map (λ s. Some s) l) is in
    let index = known (λ i. several i values) (index_of options name) s parts.0 in
    (whole name (good options name index.0 sound index.1), whole_names options sound items l parts.1)
whole_names options sound (spec.positional word ∷ items) (s ∷ l) is =
    let parts = first_same _ (Some s) (map (parsed_item options) items) (map (λ s. Some s) l) is in
    whole_names options sound items l parts.1
