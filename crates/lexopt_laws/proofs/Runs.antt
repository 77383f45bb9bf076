-- Lists of calls have one result while there is memory.
use Rattle.std.proofs.Common.{◌≡◌, ◌≢◌, zero, suc, List, [], ◌∷◌, refl, sym, ap, subst, ◌∙◌, inl, inr, arith}
use Rattle.std.specs.List.{IsAmong}
use Rattle.lexopt_spec.specs.UnreadLine.{UnreadLine, IsLine}
use Rattle.lexopt_spec.specs.Steps.{Reply, no_memory}
use Rattle.lexopt_spec.specs.Runs.{Call, Step, Run}
use Rattle.lexopt_line_spec.proofs.Exact.{Same}
use Rattle.lexopt_line_spec.proofs.Bounds.{among_first, among_more}
use Rattle.lexopt_line_spec.proofs.Calls.{call_answer, call_same}
use Rattle.lexopt_line_spec.proofs.RunAccounts.{step_line}
use Rattle.lexopt_laws.proofs.Refusals.{other_with_memory}

among_none : (s : Reply) → IsAmong [] s → ⊥
among_none s is = let below = is.1.0 in absurd (omega arith)

among_split : (r s : Reply) (rs : List Reply) → r ≢ s → (IsAmong rs s → ⊥) → IsAmong (r ∷ rs) s → ⊥
among_split r s rs first others (zero, (below, is)) = first (sym is)
among_split r s rs first others (suc k, (below, is)) = others (k, (omega arith, is))

-- every list of calls has a run
pub run_answer : (calls : List Call) (u : UnreadLine) → IsLine u → (replies : List Reply) × (v : UnreadLine) × Run u calls replies v × (IsAmong replies no_memory → ⊥)
run_answer [] u is = ([], u, refl, among_none no_memory)
run_answer (c ∷ cs) u is =
    let first = call_answer c u is in
    let more = run_answer cs first.1 (step_line c u first.0 first.1 is (inl first.2)) in
    (first.0 ∷ more.0, more.1, (first.1, inl first.2, more.2), among_split first.0 no_memory more.0 (other_with_memory c u first.0 first.1 first.2) more.3)

step_same : (call : Call) (u : UnreadLine) (r s : Reply) (v w : UnreadLine) → Step call u r v → Step call u s w → r ≢ no_memory → s ≢ no_memory → Same r v s w
step_same call u r s v w (inl a) (inl b) fits also = call_same call u r s v w a b
step_same call u r s v w (inl a) (inr b) fits also = absurd (also b.reply_is)
step_same call u r s v w (inr a) b fits also = absurd (fits a.reply_is)

-- and no other while there is memory
pub run_same : (calls : List Call) (u v w : UnreadLine) (replies others : List Reply) → Run u calls replies v → Run u calls others w
    → (IsAmong replies no_memory → ⊥) → (IsAmong others no_memory → ⊥) → (replies ≡ others) × (v ≡ w)
run_same [] u v w [] [] one other fits also = (refl, one ∙ sym other)
run_same [] u v w [] (s ∷ ss) one other fits also = absurd other
run_same [] u v w (r ∷ rs) others one other fits also = absurd one
run_same (c ∷ cs) u v w [] others one other fits also = absurd one
run_same (c ∷ cs) u v w (r ∷ rs) [] one other fits also = absurd other
run_same (c ∷ cs) u v w (r ∷ rs) (s ∷ ss) one other fits also =
    let first = step_same c u r s one.0 other.0 one.1 other.1
    (λ is. fits (among_first r no_memory rs is)) (λ is. also (among_first s no_memory ss is)) in
    let more = run_same cs other.0 v w rs ss (subst (λ (l : UnreadLine). Run l cs rs v) first.1 one.2) other.2
    (λ is. fits (among_more r no_memory rs is)) (λ is. also (among_more s no_memory ss is)) in
    (ap (λ x. x ∷ rs) first.0 ∙ ap (λ l. s ∷ l) more.0, more.1)
