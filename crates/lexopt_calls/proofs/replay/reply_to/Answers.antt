use Rattle.std.proofs.Common.{refl, sym, ap, subst, ◌∙◌, inl}
use Rattle.lexopt_spec.specs.Steps.{maybe, done}
use Rattle.lexopt_spec.specs.Runs as runs
use Rattle.lexopt_spec.specs.Runs.{Step, values, raw, try_raw, up_to}
use Rattle.lexopt_line_spec.proofs.Parts.{up_to_values, up_to_raw, up_to_try_raw}
use Rattle.lexopt_calls.specs.Replies.{call_view, reply_view}
use Rattle.lexopt_calls.proofs.StepReplies.{all_told, told_also}
use Rattle.lexopt_calls.proofs.replay.reply_to.Goals as goal

pub returns-in-Next : goal.returns-in-Next
returns-in-Next c =
    let h = c.call_next.ensures in
    (0, h.0, rw c.in-Next.is h.1, told_also c.call_next.result _ _ (rw c.in-Next.is refl) h.2)

pub returns-in-Value : goal.returns-in-Value
returns-in-Value c = (0, reply_view c.call_value.result, rw c.in-Value.is c.call_value.ensures, (rw c.in-Value.is refl, refl))

pub returns-in-Optional : goal.returns-in-Optional
returns-in-Optional c = (0, maybe c.optional_value.result, rw c.in-Optional.is (inl c.optional_value.ensures), (rw c.in-Optional.is refl, refl))

pub returns-in-Values : goal.returns-in-Values
returns-in-Values c =
    let h = c.call_values.ensures in (
      h.0,
      h.1,
      subst (λ (it : runs.Call). Step it c.args.parser.now h.1 c.call_values.new.parser)
          (sym (up_to_values h.0 c.in-Values.count h.2) ∙ ap (λ it. up_to h.0 (call_view it)) (sym c.in-Values.is)) h.3,
      all_told c.call_values.result _ _ _ (λ all. ap (λ it. up_to h.0 (call_view it)) c.in-Values.is ∙ up_to_values h.0 c.in-Values.count h.2 ∙ ap values all ∙ ap call_view (sym c.in-Values.is)) h.4,
    )

pub returns-in-Raw : goal.returns-in-Raw
returns-in-Raw c =
    let h = c.call_raw.ensures in (
      h.0,
      h.1,
      subst (λ (it : runs.Call). Step it c.args.parser.now h.1 c.call_raw.new.parser)
          (sym (up_to_raw h.0 c.in-Raw.count h.2) ∙ ap (λ it. up_to h.0 (call_view it)) (sym c.in-Raw.is)) h.3,
      all_told c.call_raw.result _ _ _ (λ all. ap (λ it. up_to h.0 (call_view it)) c.in-Raw.is ∙ up_to_raw h.0 c.in-Raw.count h.2 ∙ ap raw all ∙ ap call_view (sym c.in-Raw.is)) h.4,
    )

pub returns-in-TryRaw : goal.returns-in-TryRaw
returns-in-TryRaw c =
    let h = c.call_try_raw.ensures in (
      h.0,
      h.1,
      subst (λ (it : runs.Call). Step it c.args.parser.now h.1 c.call_try_raw.new.parser)
          (sym (up_to_try_raw h.0 c.in-TryRaw.count h.2) ∙ ap (λ it. up_to h.0 (call_view it)) (sym c.in-TryRaw.is)) h.3,
      all_told c.call_try_raw.result _ _ _ (λ all. ap (λ it. up_to h.0 (call_view it)) c.in-TryRaw.is ∙ up_to_try_raw h.0 c.in-TryRaw.count h.2 ∙ ap try_raw all ∙ ap call_view (sym c.in-TryRaw.is)) h.4,
    )

pub returns-in-RawIf : goal.returns-in-RawIf
returns-in-RawIf c = (0, reply_view c.call_raw_if.result, rw c.in-RawIf.is c.call_raw_if.ensures, (rw c.in-RawIf.is refl, refl))

pub returns-in-Switch : goal.returns-in-Switch
returns-in-Switch c =
    (0, done, rw c.in-Switch.is (inl (record { reply_is = refl; after_is = c.set_short_equals.ensures })), (rw c.in-Switch.is refl, refl))
