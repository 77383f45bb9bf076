-- How views and `optional_value` agree.
use Rattle.std.proofs.Common.{◌≡◌, ◌≢◌, ◌⊎◌, ℕ, Bool, true, false, List, [], ◌∷◌, Option, Some, None, refl, sym, ap, subst, ◌∙◌, inl, inr, ⊎_elim, true≢false}
use Rattle.lexopt_spec.specs.UnreadLine.{no_tail, UnreadLine, pending, IsPlain, is_plain, IsNormalIn}
use Rattle.lexopt_spec.specs.Steps.{Reply, maybe, busy, unexpected, OptionalStep, optional_pending, optional_none}
use Rattle.lexopt_spec.specs.Views.{plain_front, available, available_with, values_left, ValuesStep, no_values, some_values, Stage, going_on, ValueItem, RawStep, refuses_pending, lends_words, TryRawStep, leaves_pending, try_lends_words, TakesWords}
use Rattle.lexopt_spec.proofs.PlainFronts.{plain_holds, plain_passes, front-more, front-less}
use Rattle.lexopt_spec.proofs.ViewLemmas.{item_is_first, none_ends}
use Rattle.lexopt_line_spec.proofs.Worked.{some as some_words}

abbrev is_busy : Reply → Type 0
is_busy busy = Unit {0}
is_busy r = ⊥

pub busy_is_pending : (n : ℕ) (u v : UnreadLine) → TryRawStep n u busy v → (x : List ℕ) × OptionalStep u (maybe (Some x)) (record u { tail = no_tail })
busy_is_pending n u v (leaves_pending x by_equals p is after) = (x, optional_pending x by_equals p refl refl)
busy_is_pending n u v (try_lends_words p took) = absurd (subst is_busy took.reply_is tt)

abbrev is_found : Reply → Type 0
is_found (maybe None) = ⊥
is_found r = Unit {0}

pub pending_is_busy : (n : ℕ) (u v : UnreadLine) (x : List ℕ) → OptionalStep u (maybe (Some x)) v → TryRawStep n u busy u
pending_is_busy n u v x (optional_pending y by_equals p is after) = leaves_pending y by_equals p refl refl
pending_is_busy n u v x (optional_none p is after) = absurd (subst is_found is tt)

abbrev is_refusal : Reply → Type 0
is_refusal (unexpected option x) = Unit {0}
is_refusal r = ⊥

-- after a refused value none is pending
pub refused_once : (n : ℕ) (u v : UnreadLine) (option x : List ℕ) → RawStep (TakesWords n) u (unexpected option x) v → pending v ≡ None
refused_once n u v option x (refuses_pending y o by_equals p spelled is after) = rw after refl
refused_once n u v option x (lends_words p took) = absurd (subst is_refusal took.reply_is tt)

-- a view that was not asked changes nothing
pub values_untouched : (u v : UnreadLine) (r : Reply) → ValuesStep 0 u r v → v ≡ u
values_untouched u v r (no_values none is after) = after
values_untouched u v r (some_values some is after) = after

pub try_raw_untouched : (u v : UnreadLine) (r : Reply) → TryRawStep 0 u r v → v ≡ u
try_raw_untouched u v r (leaves_pending y by_equals p is after) = after
try_raw_untouched u v r (try_lends_words p took) = took.after_is

-- if there are values, the view of `values` gives an item when it is first asked
pub first_comes : (u v : UnreadLine) (now : Stage) → available u ≢ [] → ValueItem going_on u None v now → ⊥
first_comes u v now some item =
    some (item_is_first going_on u None v now item ∙ ap (λ s. values_left s v) (none_ends going_on u v now item).1)

-- ---- when there are values

front_some : (ended : Bool) (words : List (List ℕ)) → IsNormalIn ended words → plain_front ended words ≢ []
front_some ended [] normal = absurd normal
front_some ended (w ∷ ws) normal = λ none. some_words w (plain_front ended ws) (sym (front-more ended w ws normal) ∙ none)

front_normal : (ended : Bool) (words : List (List ℕ)) → plain_front ended words ≢ [] → IsNormalIn ended words
front_normal ended [] found = found refl
front_normal ended (w ∷ ws) found = elim (is_plain ended w) as (λ t. is_plain ended w ≡ t → IsPlain ended w) [
  | true ↦ λ is. plain_holds ended w is
  | false ↦ λ is. absurd (found (front-less ended w ws (λ plain. true≢false (sym (plain_passes ended w plain) ∙ is))))
] refl

found_with : (u : UnreadLine) (found : Option (List ℕ × Bool))
    → (available_with found (plain_front u.ended u.words) ≢ [] → (found ≢ None) ⊎ IsNormalIn u.ended u.words) × ((found ≢ None) ⊎ IsNormalIn u.ended u.words → available_with found (plain_front u.ended u.words) ≢ [])
found_with u None = (
  λ some. inr (front_normal u.ended u.words some),
  λ either. ⊎_elim (λ (some : None ≢ None). absurd (some refl)) (λ normal. front_some u.ended u.words normal) either,
)
found_with u (Some (value, true)) = (
  λ some. inl (λ none. let e : Some (value, true) ≡ None = none in cc),
  λ either. some_words value [],
)
found_with u (Some (value, false)) = (
  λ some. inl (λ none. let e : Some (value, false) ≡ None = none in cc),
  λ either. some_words value (plain_front u.ended u.words),
)

-- a value is pending, or the next word is normal
pub values_found : (u : UnreadLine)
    → (available u ≢ [] → (pending u ≢ None) ⊎ IsNormalIn u.ended u.words) × ((pending u ≢ None) ⊎ IsNormalIn u.ended u.words → available u ≢ [])
values_found u = found_with u (pending u)
