use Rattle.std.proofs.Common.{rules, ap, refl, subst, arith}
use Rattle.std.proofs.lemmas.Result.{IfOk-from_err}
use Rattle.lexopt_spec.specs.UnreadLine.{UnreadLine}
use Rattle.lexopt_spec.specs.Steps.{items, busy}
use Rattle.lexopt_spec.specs.Runs.{Step, try_raw}
use Rattle.lexopt_calls.proofs.Views.{try_raw_made, busy_made}
use Rattle.lexopt_calls.proofs.replay.call_try_raw.Goals as goal

pub returns-in_err-take_words-in-Some : goal.returns-in_err-take_words-in-Some
returns-in_err-take_words-in-Some c =
    let h = c.in_err-take_words-in-Some.ensures.items in
    let made = try_raw_made h.0 c.args.parser.now c.in-Some.view.parser.now _ h.1 (c.in-Some.ensures.nothing_pending.0 refl) c.in-Some.ensures.view.1 h.3 in (
      h.0,
      items h.1,
      h.2,
      subst (λ (l : UnreadLine). Step (try_raw h.0) c.args.parser.now (items h.1) l) (search rules) made,
      IfOk-from_err c.from_residual.result _ c.from_residual.ensures.0,
    )

pub returns-in_ok-take_words-in-Some : goal.returns-in_ok-take_words-in-Some
returns-in_ok-take_words-in-Some c =
    let h = c.in_ok-take_words-in-Some.ensures.items in
    let made = try_raw_made h.0 c.args.parser.now c.in-Some.view.parser.now _ h.1 (c.in-Some.ensures.nothing_pending.0 refl) c.in-Some.ensures.view.1 h.3 in (
      h.0,
      items h.1,
      h.2,
      subst (λ (l : UnreadLine). Step (try_raw h.0) c.args.parser.now (items h.1) l) (search rules) made,
      (h.4.0, ap items h.4.1),
    )

pub returns-in-None : goal.returns-in-None
returns-in-None c = (
  c.args.count,
  busy,
  omega arith,
  subst (λ (l : UnreadLine). Step (try_raw c.args.count) c.args.parser.now busy l) (search rules) (busy_made c.args.count c.args.parser.now (λ none. let e = c.in-None.ensures.nothing_pending.1 none in cc)),
  (refl, refl),
)
