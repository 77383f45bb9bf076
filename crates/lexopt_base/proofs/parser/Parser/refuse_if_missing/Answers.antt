use Rattle.std.proofs.Common.{◌≡◌, false, true, Option, Some, None, IsSome, refl, sym, subst, true≢false}
use Rattle.std.specs.Option.{is_some}
use Rattle.lexopt_spec.specs.Views.{ValuesStep, no_values}
use Rattle.lexopt_spec.specs.UnreadLine.{UnreadLine, Tail, pending, pending_in}
use Rattle.lexopt_base.specs.Pending.{IsCounted}
use Rattle.lexopt_base.specs.declared.parser.Pending.{Pending}
use Rattle.lexopt_base.proofs.Fronts.{none_available}
use Rattle.lexopt_base.proofs.Refusals.{none_left}
use Rattle.lexopt_base.proofs.parser.Parser.refuse_if_missing.Goals as goal

none_seen : (u : UnreadLine) (found : Option Pending) → false ≡ is_some found → IsCounted u found → IsSome (pending u) → ⊥
none_seen u None none tail some = let f : false ≡ true = subst (λ (t : Tail). IsSome (pending_in u.short_equals t)) tail some in cc
none_seen u (Some p) none has some = true≢false (sym none)

pub returns-clause-err : goal.returns-clause-err
returns-clause-err c =
    let u = c.args.self.now in
    let none = none_available u (λ some. none_seen u c.pending.result c.if-is_some.ensures c.pending.ensures.value some)
    (λ normal. true≢false (sym (c.if-has_plain_word.ensures.1 normal))) in
    λ n. none_left (ValuesStep n) u c.missing_value.result (no_values none refl refl) c.missing_value.ensures
