-- Words leave at most one state, and do not lead nowhere then.
use Rattle.std.proofs.Common.{◌≡◌, ℕ, Bool, true, false, List, [], ◌∷◌, ◌++◌, Some, refl, sym, ap, subst, ◌∙◌, inr, arith, true≢false}
use Rattle.std.proofs.lemmas.Bool.{false≢true}
use Rattle.lexopt_spec.specs.UnreadLine.{IsPlain}
use Rattle.lexopt_options_spec.specs.Declaration.{Declaration}
use Rattle.lexopt_options_spec.specs.Legal.{Parsed, option, several, positional, counts, positional_count, most, IsWithin, MeansFront}
use Rattle.lexopt_options_spec.specs.States.{State, anything, due, first, further, ended, Says, Leaves, leaves_anything, leaves_due, leaves_first, leaves_further, leaves_ended, LeadsNowhere, opens}
use Rattle.lexopt_options_spec.proofs.Lists.{same_last}
use Rattle.lexopt_options_spec.proofs.Lists.{count_append}
use Rattle.lexopt_options_spec.proofs.States.{never_open, open_there, says_front, says_once}

-- ---- by the state

-- the words are read whole
abbrev is_read : State → Bool
is_read anything = true
is_read (due i) = false
is_read (first i) = false
is_read (further i) = true
is_read ended = true

read_there : (d : Declaration) (words : List (List ℕ)) (l : List Parsed) (s : State) → Leaves d words l s → is_read s ≡ true → Says d words l
read_there d words l s (leaves_anything says plain) is = says.says
read_there d words l s (leaves_due i none all) is = absurd (false≢true is)
read_there d words l s (leaves_first i none plain never) is = absurd (false≢true is)
read_there d words l s (leaves_further i before values are says plain) is = says.says
read_there d words l s (leaves_ended says all) is = says

never_read : (d : Declaration) (words : List (List ℕ)) (l : List Parsed) (s : State) → Leaves d words l s → is_read s ≡ false → (m : List Parsed) → MeansFront d words m → ⊥
never_read d words l s (leaves_anything says plain) is m means = true≢false is
never_read d words l s (leaves_due i none all) is m means = none m means
never_read d words l s (leaves_first i none plain never) is m means = none m means
never_read d words l s (leaves_further i before values are says plain) is m means = true≢false is
never_read d words l s (leaves_ended says all) is m means = true≢false is

-- ---- by what an empty word is there

abbrev state_of : (is_open whole : Bool) → Parsed → State
state_of is_open whole (option i value) = due i
state_of is_open true (several i values) = further i
state_of is_open false (several i values) = first i
state_of true whole (positional word) = anything
state_of false whole (positional word) = ended

record WithEmpty (d : Declaration) (words : List (List ℕ)) (l : List Parsed) (s : State) : Type 0 where
  before : List Parsed
  last : Parsed
  says : Says d (words ++ [] ∷ []) (before ++ last ∷ [])
  state : s ≡ state_of (opens s) (is_read s) last
  all_before : is_read s ≡ false → before ≡ l
  no_positional : is_read s ≡ false → counts last ≡ 0

empty_plain : IsPlain false []
empty_plain = inr (inr (λ begins. begins))

with_empty : (d : Declaration) (words : List (List ℕ)) (l : List Parsed) (s : State) → Leaves d words l s → WithEmpty d words l s
with_empty d words l s (leaves_anything says plain) = record {
  before = l;
  last = positional [];
  says = plain [] empty_plain;
  state = refl;
  all_before = λ is. refl;
  no_positional = λ is. absurd (true≢false is);
}
with_empty d words l s (leaves_due i none all) = record {
  before = l;
  last = option i (Some []);
  says = all [];
  state = refl;
  all_before = λ is. refl;
  no_positional = λ is. refl;
}
with_empty d words l s (leaves_first i none plain never) = record {
  before = l;
  last = several i ([] ∷ []);
  says = plain [] empty_plain;
  state = refl;
  all_before = λ is. refl;
  no_positional = λ is. refl;
}
with_empty d words l s (leaves_further i before values are says plain) = record {
  before = before;
  last = several i (values ++ [] ∷ []);
  says = plain [] empty_plain;
  state = refl;
  all_before = λ is. absurd (true≢false is);
  no_positional = λ is. refl;
}
with_empty d words l s (leaves_ended says all) = record {
  before = l;
  last = positional [];
  says = all [];
  state = refl;
  all_before = λ is. refl;
  no_positional = λ is. absurd (true≢false is);
}

-- ---- the laws

pub one_state : (d : Declaration) (words : List (List ℕ)) (l m : List Parsed) (s t : State) → Leaves d words l s → IsWithin (positional_count l) (most d.positionals) → Leaves d words m t
    → IsWithin (positional_count m) (most d.positionals) → (l ≡ m) × (s ≡ t)
one_state d words l m s t leaves within other within_other = (said (is_read s) refl, there.state ∙ same ∙ sym here.state)
  where
    there : WithEmpty d words l s
    there = with_empty d words l s leaves

    here : WithEmpty d words m t
    here = with_empty d words m t other

    ends_so : (there.before ≡ here.before) × (there.last ≡ here.last)
    ends_so = same_last there.before here.before there.last here.last
        (says_once d (words ++ [] ∷ []) (there.before ++ there.last ∷ []) (here.before ++ here.last ∷ []) there.says here.says)

    open_so : (a b : Bool) → opens s ≡ a → opens t ≡ b → a ≡ b
    open_so true true is other_is = refl
    open_so false false is other_is = refl
    open_so true false is other_is = absurd (never_open d words m t other other_is l (open_there d words l s leaves within is))
    open_so false true is other_is = absurd (never_open d words l s leaves is m (open_there d words m t other within_other other_is))

    read_so : (a b : Bool) → is_read s ≡ a → is_read t ≡ b → a ≡ b
    read_so true true is other_is = refl
    read_so false false is other_is = refl
    read_so true false is other_is = absurd (never_read d words m t other other_is l (says_front d words l (read_there d words l s leaves is) within))
    read_so false true is other_is = absurd (never_read d words l s leaves is m (says_front d words m (read_there d words m t other other_is) within_other))

    same : state_of (opens s) (is_read s) there.last ≡ state_of (opens t) (is_read t) here.last
    same =
        let a = open_so (opens s) (opens t) refl refl in
        let b = read_so (is_read s) (is_read t) refl refl in
        let c = ends_so.1 in cc

    said : (a : Bool) → is_read s ≡ a → l ≡ m
    said true is =
        let is_too : is_read t ≡ true = sym (read_so (is_read s) (is_read t) refl refl) ∙ is in
        says_once d words l m (read_there d words l s leaves is) (read_there d words m t other is_too)
    said false is =
        let is_too : is_read t ≡ false = sym (read_so (is_read s) (is_read t) refl refl) ∙ is in sym (there.all_before is) ∙ ends_so.0 ∙ here.all_before is_too

pub leads_somewhere : (d : Declaration) (words : List (List ℕ)) (l : List Parsed) (s : State) → Leaves d words l s → IsWithin (positional_count l) (most d.positionals) → LeadsNowhere d words → ⊥
leads_somewhere d words l s leaves within nowhere = at (is_read s) refl
  where
    more : WithEmpty d words l s
    more = with_empty d words l s leaves

    at : (a : Bool) → is_read s ≡ a → ⊥
    at true is = nowhere.here l (says_front d words l (read_there d words l s leaves is) within)
    at false is =
        let a = count_append more.before (more.last ∷ []) in
        let b = ap positional_count (more.all_before is) in
        let c = more.no_positional is in
        let same : positional_count l ≡ positional_count (more.before ++ more.last ∷ []) = omega (arith, a, b, c) in
        nowhere.with_more [] (more.before ++ more.last ∷ []) (says_front d (words ++ [] ∷ []) (more.before ++ more.last ∷ []) more.says (subst (λ n. IsWithin n (most d.positionals)) same within))
