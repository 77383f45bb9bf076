-- `values`, asked for more items than there are, gives all of them: the pending value, and the
-- longest front of plain words.
use Rattle.std.proofs.Common.{◌≡◌, ◌≢◌, ℕ, suc, ◌<◌, Bool, true, false, List, [], ◌∷◌, length, take, Option, Some, None, refl, sym, ap, subst, ◌∙◌, arith}
use Rattle.std.proofs.lemmas.List.{take_all, length-take}
use Rattle.lexopt_spec.specs.UnreadLine.{no_tail, UnreadLine, pending, spelling, IsNormalIn, IsPlainFront}
use Rattle.lexopt_spec.specs.Steps.{Reply, items, missing}
use Rattle.lexopt_spec.specs.Views.{plain_front, available, available_with, without, ValuesStep, no_values, some_values}
use Rattle.lexopt_spec.specs.Runs.{values}
use Rattle.lexopt_line_spec.specs.Readings.{IsFull}
use Rattle.lexopt_spec.proofs.PlainFronts.{front_cut, left_after_front}

-- `values`, asked for enough items, gives this reply
pub data FullStep (u : UnreadLine) (reply : Reply) (after : UnreadLine) : Type 0 where
  joined_one : (value : List ℕ) → pending u ≡ Some (value, true) → reply ≡ items (value ∷ []) → after ≡ record u { tail = no_tail } → FullStep u reply after
  attached_first : (value : List ℕ) (front left : List (List ℕ)) → pending u ≡ Some (value, false) → IsPlainFront u.ended u.words front left
      → reply ≡ items (value ∷ front) → after ≡ record u { tail = no_tail; words = left } → FullStep u reply after
  words_alone : (front left : List (List ℕ)) → pending u ≡ None → IsPlainFront u.ended u.words front left → front ≢ []
      → reply ≡ items front → after ≡ record u { words = left } → FullStep u reply after
  nothing_given : pending u ≡ None → ¬ IsNormalIn u.ended u.words → reply ≡ missing (spelling u.last) → after ≡ u → FullStep u reply after

-- if there were fewer than were asked for, these are all
pub all_came : (n : ℕ) (l : List (List ℕ)) → length (take n l) < n → take n l ≡ l
all_came n l few = let count = length-take n l in take_all n l (omega arith)

abbrev items_of : Reply → List (List ℕ)
items_of (items came) = came
items_of r = []

pub full_values : (n : ℕ) (u v : UnreadLine) (came : List (List ℕ)) → length came < n → ValuesStep n u (items came) v → came ≡ available u
full_values n u v came few (no_values none is after) = absurd (let e : items came ≡ missing (spelling u.last) = is in cc)
full_values n u v came few (some_values some is after) =
    let same : came ≡ take n (available u) = ap items_of is in same ∙ all_came n (available u) (subst (λ l. length l < n) same few)

-- the step, if there are values
some_given : (u v : UnreadLine) (r : Reply) (p : Option (List ℕ × Bool)) (front left : List (List ℕ)) → pending u ≡ p → IsPlainFront u.ended u.words front left
    → available_with p front ≢ [] → r ≡ items (available_with p front) → v ≡ without p (length (available_with p front)) u → FullStep u r v
some_given u v r (Some (value, true)) front left p is some r_is v_is = joined_one value p r_is v_is
some_given u v r (Some (value, false)) front left p is some r_is v_is =
    attached_first value front left p is r_is (v_is ∙ ap (λ (l : List (List ℕ)). record u { tail = no_tail; words = l }) (left_after_front u.ended u.words front left is))
some_given u v r None [] left p is some r_is v_is = absurd (some refl)
some_given u v r None (w ∷ ws) left p is some r_is v_is =
    words_alone (w ∷ ws) left p is some r_is (v_is ∙ ap (λ (l : List (List ℕ)). record u { words = l }) (left_after_front u.ended u.words (w ∷ ws) left is))

none_given : (u v : UnreadLine) (r : Reply) (p : Option (List ℕ × Bool)) (front left : List (List ℕ)) → pending u ≡ p → IsPlainFront u.ended u.words front left
    → available_with p front ≡ [] → r ≡ missing (spelling u.last) → v ≡ u → FullStep u r v
none_given u v r (Some (value, true)) front left p is none r_is v_is = absurd (let e : value ∷ [] ≡ [] = none in cc)
none_given u v r (Some (value, false)) front left p is none r_is v_is = absurd (let e : value ∷ front ≡ [] = none in cc)
none_given u v r None (w ∷ ws) left p is none r_is v_is = absurd (let e : w ∷ ws ≡ [] = none in cc)
none_given u v r None [] left p is none r_is v_is =
    nothing_given p (subst (λ (l : List (List ℕ)). ¬ IsNormalIn u.ended l) (sym is.words_are) is.longest) r_is v_is

pub full_step : (n : ℕ) (u v : UnreadLine) (r : Reply) → IsFull (values n) r → ValuesStep n u r v → FullStep u r v
full_step n u v r full (no_values none r_is v_is) =
    let cut = front_cut u.ended u.words in
    none_given u v r (pending u) (plain_front u.ended u.words) cut.0 refl cut.1 none r_is v_is
full_step n u v r full (some_values some r_is v_is) =
    let cut = front_cut u.ended u.words in
    let all = all_came n (available u) (subst (IsFull (values n)) r_is full) in
    some_given u v r (pending u) (plain_front u.ended u.words) cut.0 refl cut.1 some (r_is ∙ ap items all) (v_is ∙ ap (λ l. without (pending u) (length l) u) all)

-- a call that asks for enough items, and its result
pub record FullAnswer (u : UnreadLine) : Type 0 where
  pub asked : ℕ
  pub reply : Reply
  pub after : UnreadLine
  pub step : ValuesStep asked u reply after
  pub full : IsFull (values asked) reply

answer_of : (u : UnreadLine) (l : List (List ℕ)) → available u ≡ l → FullAnswer u
answer_of u [] is = record { asked = 1; reply = missing (spelling u.last); after = u; step = no_values is refl refl; full = tt }
answer_of u (x ∷ xs) is = record {
  asked = suc (length (available u));
  reply = items (take (suc (length (available u))) (available u));
  after = without (pending u) (length (take (suc (length (available u))) (available u))) u;
  step = some_values (λ none. let e : [] ≡ x ∷ xs = sym none ∙ is in cc) refl refl;
  full = (let count = length-take (suc (length (available u))) (available u) in omega arith);
}

pub full_answer : (u : UnreadLine) → FullAnswer u
full_answer u = answer_of u (available u) refl
