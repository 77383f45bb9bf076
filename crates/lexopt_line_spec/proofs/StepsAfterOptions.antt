-- The step that a reading makes after an option of some kind.
use Rattle.std.proofs.Common.{◌≡◌, ◌≢◌, ◌↔◌, false, List, refl, subst, inl, inr}
use Rattle.lexopt_spec.specs.UnreadLine.{UnreadLine, IsLine}
use Rattle.lexopt_spec.specs.Steps as steps
use Rattle.lexopt_spec.specs.Steps.{Reply, NextStep, ValueStep, OptionalStep, Answers}
use Rattle.lexopt_spec.specs.Views.{ValuesStep}
use Rattle.lexopt_spec.specs.Runs as calls
use Rattle.lexopt_spec.specs.Runs.{Call, Step}
use Rattle.lexopt_line_spec.specs.Table.{Name, Item, Kind, flag, one, optional, several, kind, Table}
use Rattle.lexopt_line_spec.specs.Readings.{IsDue, IsLast, IsFull, GoesOn}
use Rattle.lexopt_line_spec.proofs.Unread.{ShowsAfter, ValueShows}
use Rattle.lexopt_line_spec.proofs.ValueLaw.{value_law}
use Rattle.lexopt_line_spec.proofs.OptionalLaw.{optional_law}
use Rattle.lexopt_line_spec.proofs.FullValues.{FullStep, full_step}
use Rattle.lexopt_line_spec.proofs.SeveralLaw.{several_law}
use Rattle.lexopt_line_spec.proofs.ReplyKinds.{IsValueReply, value_reply, optional_reply, values_reply}

-- with enough memory, the call that is due after an option of this kind gives this reply
abbrev pub StepAfterOption : Kind → UnreadLine → Reply → UnreadLine → Type 0
StepAfterOption flag u r v = NextStep u r v
StepAfterOption one u r v = ValueStep u r v
StepAfterOption optional u r v = OptionalStep u r v
StepAfterOption several u r v = FullStep u r v

-- a reply other than `no_memory` is one with enough memory
answered : (WithMemory : UnreadLine → Reply → UnreadLine → Type 0) (u v : UnreadLine) (r : Reply) → r ≢ steps.no_memory → Answers WithMemory u r v → WithMemory u r v
answered WithMemory u v r found (inl step) = step
answered WithMemory u v r found (inr refused) = absurd (found refused.reply_is)

pub step_after_option : (k : Kind) (call : Call) (u v : UnreadLine) (r : Reply) → IsDue k call → IsFull call r → r ≢ steps.no_memory → Step call u r v → StepAfterOption k u r v
step_after_option flag call u v r due full found step = answered NextStep u v r found (subst (λ (c : Call). Step c u r v) due step)
step_after_option one call u v r due full found step = answered ValueStep u v r found (subst (λ (c : Call). Step c u r v) due step)
step_after_option optional call u v r due full found step = answered OptionalStep u v r found (subst (λ (c : Call). Step c u r v) due step)
step_after_option several call u v r due full found step =
    full_step due.0 u v r (subst (λ (c : Call). IsFull c r) due.1 full) (answered (ValuesStep due.0) u v r found (subst (λ (c : Call). Step c u r v) due.1 step))

-- the last reply of a reading has no values
pub last_full : (call : Call) (final : Reply) → IsLast final → IsFull call final
last_full (calls.values n) (steps.missing o) is = tt
last_full (calls.values n) (steps.unexpected o word) is = tt
last_full (calls.values n) steps.end is = tt
last_full (calls.values n) final is = absurd is
last_full call final is = tt

-- after an option that has values, the call that is due gives values, or reports that there are
-- none
pub reply_after_option : (k : Kind) (u v : UnreadLine) (r : Reply) → k ≢ flag → StepAfterOption k u r v → IsValueReply r
reply_after_option flag u v r other step = absurd (other refl)
reply_after_option one u v r other step = value_reply u v r step
reply_after_option optional u v r other step = optional_reply u v r step
reply_after_option several u v r other step = values_reply u v r step

-- the line shows some items there if and only if it does so by the reply of that call
pub law_after_option : (t : Table) (k : Kind) (name : Name) (u v : UnreadLine) (r : Reply) (l : List Item) → k ≢ flag → (kind t name ≡ k) × (u.ended ≡ false) → IsLine u → StepAfterOption k u r v
    → ShowsAfter t name u l ↔ ValueShows t name r v l
law_after_option t flag name u v r l other is line step = absurd (other refl)
law_after_option t one name u v r l other is line step = value_law t name u v r l is.0 line step
law_after_option t optional name u v r l other is line step = optional_law t name u v r l is.0 line step
law_after_option t several name u v r l other is line step = several_law t name u v r l is.0 line is.1 step

pub last_found : (r : Reply) → IsLast r → r ≢ steps.no_memory
last_found r is none = subst IsLast none is

pub more_found : (t : Table) (r : Reply) (k : Kind) → GoesOn t r k → r ≢ steps.no_memory
more_found t r k goes none = subst (λ (s : Reply). GoesOn t s k) none goes
