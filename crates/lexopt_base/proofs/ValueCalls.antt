-- Taking items from a view, as one call of `values`.
use Rattle.std.proofs.Common.{◌≡◌, ◌≢◌, ℕ, List, [], subst, inl}
use Rattle.lexopt_spec.specs.UnreadLine.{UnreadLine}
use Rattle.lexopt_spec.specs.Steps.{items}
use Rattle.lexopt_spec.specs.Views.{Stage, going_on, available, ValueItems}
use Rattle.lexopt_spec.specs.Runs.{Step, values}
use Rattle.lexopt_spec.proofs.ViewLemmas.{values_by_items}

pub values_made : (m : ℕ) (u v w : UnreadLine) (stage now : Stage) (came : List (List ℕ)) → available u ≢ [] → v ≡ u → stage ≡ going_on
    → ValueItems m stage v came w now → Step (values m) u (items came) w
values_made m u v w stage now came some same start asked =
    inl (values_by_items m u w came now some
    (subst (λ (s : Stage). ValueItems m s u came w now) start (subst (λ (l : UnreadLine). ValueItems m stage l came w now) same asked)))
