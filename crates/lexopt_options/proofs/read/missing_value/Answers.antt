use Rattle.std.proofs.Common.{refl, ap, option_map, subst, sym, unwrap_or, [], ◌∙◌}
use Rattle.lexopt_base.specs.Refusals.{refusal_reply}
use Rattle.lexopt_base.specs.declared.refusal.Refusal.{Refusal}
use Rattle.lexopt_base.specs.declared.refusal.Refusal.TheVariants.{MissingValue}
use Rattle.lexopt_line_spec.specs.Values.{ValuesEndBy}
use Rattle.lexopt_options.proofs.NoValue.{is_named, unexpected_never, value_missing}
use Rattle.lexopt_options.proofs.read.missing_value.Goals as goal

pub unwrap-requires : goal.unwrap-requires
unwrap-requires g c =
    let r = c.requires in
    is_named r.0 r.1 r.2 r.3 r.4 c.in-MissingValue.name r.5 (subst (λ (x : Refusal). ValuesEndBy r.0 r.2 (refusal_reply x) r.3) c.in-MissingValue.is r.7)

pub unreachable-requires : goal.unreachable-requires
unreachable-requires g c =
    let r = c.requires in
    unexpected_never r.0 r.2 r.3 c.in-UnexpectedValue.option c.in-UnexpectedValue.value r.6 (subst (λ (x : Refusal). ValuesEndBy r.0 r.2 (refusal_reply x) r.3) c.in-UnexpectedValue.is r.7)

pub returns-in-MissingValue : goal.returns-in-MissingValue
returns-in-MissingValue g c = λ d index kind u v w name sound at step found k_is ends.
    value_missing d kind u v w name index c.unwrap.result _ sound step found k_is
    (subst (λ (x : Refusal). ValuesEndBy kind v (refusal_reply x) w) (c.in-MissingValue.is ∙ ap MissingValue c.unwrap.ensures) ends)
    (index, refl, c.placeholder.ensures ∙ sym (ap (λ o. unwrap_or (option_map (λ p. p.placeholder) o) []) at))
