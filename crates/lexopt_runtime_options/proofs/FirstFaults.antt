-- What is wrong with an option among others.
use Rattle.std.proofs.Common.{◌≡◌, ℕ, ◌+◌, ◌<◌, ◌≤◌, Bool, true, false, true≢false, ◌==◌, cond, Bor, List, ◌∷◌, [], map, length, take, get_or, Option, Some, None, option_map, is_none, refl, sym, ap, ◌∙◌, arith}
use Rattle.std.specs.List.{list_all}
use Rattle.std.specs.Option.{option_to_list}
use Rattle.std.proofs.Math.Bool.{and-true}
use Rattle.lexopt_line_spec.specs.Table.{Kind, flag, one, optional, several}
use Rattle.std.proofs.lemmas.List.{take-map, get_or-map, length-map}
use Rattle.std.proofs.lemmas.Option.{slice_get-get_or}
use Rattle.std.proofs.lemmas.Bool.{eqb-true}
use Rattle.std.proofs.lemmas.List.Folds.{list_all-map}
use Rattle.lexopt_options_spec.specs.Declaration.{Words, listed, bad_list, bad_default, default_fault, is_default, is_listable, list_fault, fault, faults, is_sound, IsFirstFault}
use Rattle.lexopt_options_spec.proofs.FaultLemmas.{faults_length, fault_at, sound_more, sound_all}
use Rattle.lexopt_declaration.specs.declared.declaration.Declared.{Declared}
use Rattle.lexopt_declaration.specs.declared.declaration.Kind as rust
use Rattle.lexopt_declaration.specs.declared.declaration.Kind.TheVariants as kind
use Rattle.lexopt_runtime_options.specs.declared.faults.Reason.{Reason}
use Rattle.lexopt_declaration.specs.Models.{kind_of, option_view, words_view}
use Rattle.lexopt_runtime_options.specs.Faults.{reason_view}

-- the fault of the option at an index
abbrev pub IsFault : {F V M S : Type 0} → List (Declared F V M S) → ℕ → Declared F V M S → Option Reason → Type 0
IsFault os i d f = option_map reason_view f ≡ fault (map option_view (take i os)) (option_view (get_or os i d))

here : {F V M S : Type 0} (os : List (Declared F V M S)) (i : ℕ) (d : Declared F V M S) (f : Option Reason) → i < length os → IsFault os i d f → option_map reason_view f ≡ fault (take i (map option_view os)) (get_or (map option_view os) i (option_view d))
here os i d f within is = is
    ∙ sym (ap (λ l. fault l (option_view (get_or os i d))) (take-map option_view i os))
    ∙ sym (ap (λ o. fault (take i (map option_view os)) o) (get_or-map option_view os i d (option_view d) within))

pub first_fault : {F V M S : Type 0} (os : List (Declared F V M S)) (i : ℕ) (d : Declared F V M S) (f : Option Reason) (reason : Reason) → i < length os → IsFault os i d f → f ≡ Some reason
    → list_all is_none (take i (faults [] (map option_view os))) ≡ true → IsFirstFault (map option_view os) i (reason_view reason)
first_fault os i d f reason within is some so =
    let many : i < length (map option_view os) = omega (arith, length-map os option_view) in
    record {
      here = slice_get-get_or (faults [] (map option_view os)) i None (omega (arith, faults_length [] (map option_view os)))
          ∙ ap (λ x. Some x) (fault_at [] (map option_view os) i (option_view d) many ∙ sym (here os i d f within is) ∙ ap (option_map reason_view) some);
      before = so;
    }

pub no_fault : {F V M S : Type 0} (os : List (Declared F V M S)) (i : ℕ) (d : Declared F V M S) (f : Option Reason) → i < length os → IsFault os i d f → f ≡ None
    → list_all is_none (take i (faults [] (map option_view os))) ≡ true → list_all is_none (take (i + 1) (faults [] (map option_view os))) ≡ true
no_fault os i d f within is none so =
    sound_more (map option_view os) i (option_view d) (omega (arith, length-map os option_view)) so (sym (here os i d f within is) ∙ ap (option_map reason_view) none)

pub none_at_fault : {F V M S : Type 0} (os : List (Declared F V M S)) (i : ℕ) → length os ≤ i → list_all is_none (take i (faults [] (map option_view os))) ≡ true → is_sound (map option_view os) ≡ true
none_at_fault os i all so = sound_all (map option_view os) i (omega (arith, length-map os option_view)) so

-- the list of an option, if it is empty
pub empty_list_fault : (values : List (Bor (List ℕ))) (none : Bool) → none ≡ (length values == 0) → none ≡ true → list_fault (listed (map (λ (value : Bor (List ℕ)). value.now) values)) ≡ Some bad_list
empty_list_fault [] none is so = refl
empty_list_fault (v ∷ vs) none is so = absurd (let e : length (v ∷ vs) ≡ 0 = eqb-true (length (v ∷ vs)) 0 (sym is ∙ so) in omega arith)

-- the list of an option, if it has a value
pub list_fault_is : (values : List (Bor (List ℕ))) (none good : Bool) → none ≡ (length values == 0) → none ≡ false → good ≡ list_all (λ (value : Bor (List ℕ)). is_listable value.now) values
    → list_fault (listed (map (λ (value : Bor (List ℕ)). value.now) values)) ≡ cond good None (Some bad_list)
list_fault_is [] none good is so all = absurd (true≢false (sym is ∙ so))
list_fault_is (v ∷ vs) none good is so all = ap (λ b. cond b None (Some bad_list)) (list_all-map is_listable (λ (value : Bor (List ℕ)). value.now) (v ∷ vs) ∙ sym all)

-- ---- the default of an option

always_fault : {F V M S : Type 0} (o : Declared F V M S) (value : Option (Bor (List ℕ))) → o.default ≡ value
    → default_fault (option_view o) ≡ cond (list_all (is_default (kind_of o.kind) o.required (words_view o.words)) (option_to_list (option_map (λ v. v.now) value))) None (Some bad_default)
always_fault o value is = ap (λ d. cond (list_all (is_default (kind_of o.kind) o.required (words_view o.words)) (option_to_list (option_map (λ v. v.now) d))) None (Some bad_default)) is

pub no_default_fault : {F V M S : Type 0} (o : Declared F V M S) → o.default ≡ None → default_fault (option_view o) ≡ None
no_default_fault o none = always_fault o None none

pub default_fault_is : {F V M S : Type 0} (o : Declared F V M S) (value : Bor (List ℕ)) (good : Bool) → o.default ≡ Some value → good ≡ is_default (kind_of o.kind) o.required (words_view o.words) value.now
    → default_fault (option_view o) ≡ cond good None (Some bad_default)
default_fault_is o value good is so =
    always_fault o (Some value) is ∙ ap (λ b. cond b None (Some bad_default)) (and-true (is_default (kind_of o.kind) o.required (words_view o.words) value.now) ∙ sym so)

-- only an option of one value that is not required can have a default
pub required_never : (k : Kind) (words : Words) (value : List ℕ) → is_default k true words value ≡ false
required_never flag words value = refl
required_never one words value = refl
required_never optional words value = refl
required_never several words value = refl

pub one_alone : (k : Kind) (required : Bool) (words : Words) (value : List ℕ) → (k ≡ one → ⊥) → is_default k required words value ≡ false
one_alone flag required words value other = refl
one_alone one required words value other = absurd (other refl)
one_alone optional required words value other = refl
one_alone several required words value other = refl

pub value_kind : {F V M S : Type 0} (k : rust.Kind F V M S) → kind_of k ≡ one → (key : V) × (placeholder : _) × (k ≡ kind.Value key placeholder)
value_kind (kind.Value key placeholder) is = (key, placeholder, refl)
value_kind (kind.Flag key) is = absurd (let e : flag ≡ one = is in cc)
value_kind (kind.Maybe key placeholder) is = absurd (let e : optional ≡ one = is in cc)
value_kind (kind.Values key placeholder) is = absurd (let e : several ≡ one = is in cc)
value_kind kind.Help is = absurd (let e : flag ≡ one = is in cc)
value_kind kind.BriefHelp is = absurd (let e : flag ≡ one = is in cc)
value_kind (kind.Version text) is = absurd (let e : flag ≡ one = is in cc)
