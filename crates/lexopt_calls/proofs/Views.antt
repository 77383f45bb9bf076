-- Taking items from a view, as one call.
use Rattle.std.proofs.Common.{◌≡◌, ◌≢◌, ℕ, Bool, List, ◌∷◌, Option, Some, None, refl, sym, ap, subst, ◌∙◌, inl}
use Rattle.lexopt_spec.specs.UnreadLine.{UnreadLine, pending}
use Rattle.lexopt_spec.specs.Steps.{items, busy, maybe}
use Rattle.lexopt_spec.specs.Views.{WordItems, leaves_pending, lends_words, is_next, is_not_next}
use Rattle.lexopt_spec.specs.Runs.{Step, raw, raw_if, try_raw}
use Rattle.lexopt_calls.specs.Replies.{TakesThis}
use Rattle.lexopt_spec.proofs.ViewLemmas.{raw_by_items, try_raw_by_items}

pub raw_made : (m : ℕ) (u v w : UnreadLine) (came : List (List ℕ)) → pending u ≡ None → v ≡ u → WordItems m v came w → Step (raw m) u (items came) w
raw_made m u v w came none same asked =
    inl (raw_by_items m u w came none (subst (λ (l : UnreadLine). WordItems m l came w) same asked))

pub try_raw_made : (m : ℕ) (u v w : UnreadLine) (came : List (List ℕ)) → pending u ≡ None → v ≡ u → WordItems m v came w → Step (try_raw m) u (items came) w
try_raw_made m u v w came none same asked =
    inl (try_raw_by_items m u w came none (subst (λ (l : UnreadLine). WordItems m l came w) same asked))

some_of : (found : Option (List ℕ × Bool)) → found ≢ None → (value : List ℕ) × (by_equals : Bool) × (found ≡ Some (value, by_equals))
some_of None other = absurd (other refl)
some_of (Some (value, by_equals)) other = (value, by_equals, refl)

pub busy_made : (m : ℕ) (u : UnreadLine) → pending u ≢ None → Step (try_raw m) u busy u
busy_made m u other = let found = some_of (pending u) other in inl (leaves_pending found.0 found.1 found.2 refl refl)

pub raw_if_made : (wanted : List ℕ) (u v w : UnreadLine) (found : Option (List ℕ)) → pending u ≡ None → v ≡ u → TakesThis wanted v found w
    → Step (raw_if wanted) u (maybe found) w
raw_if_made wanted u v w None none same takes =
    inl (lends_words none (is_not_next (λ ws is. takes.1 ws (ap (λ (l : UnreadLine). l.words) same ∙ is)) refl (takes.0 ∙ same)))
raw_if_made wanted u v w (Some word) none same takes =
    inl (lends_words none (is_next w.words
    (ap (λ (l : UnreadLine). l.words) (sym same) ∙ takes.1.0 ∙ ap (λ x. x ∷ w.words) takes.0)
    (ap (λ x. maybe (Some x)) takes.0)
    (takes.1.1 ∙ ap (λ (l : UnreadLine). record l { words = w.words }) same)))
