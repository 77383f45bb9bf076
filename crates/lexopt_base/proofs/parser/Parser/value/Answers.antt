use Rattle.std.proofs.Common.{refl, sym, ap, subst, inl}
use Rattle.lexopt_spec.specs.UnreadLine.{UnreadLine, Tail, pending_in}
use Rattle.lexopt_spec.specs.Steps.{Value, ValueStep, pending_value, takes_word, nothing_to_take}
use Rattle.lexopt_base.specs.Refusals.{IsMissing, refusal_reply}
use Rattle.lexopt_base.proofs.Refusals.{none_left, said_as_error}
use Rattle.lexopt_base.proofs.parser.Parser.value.Goals as goal

pub returns-in-Some : goal.returns-in-Some
returns-in-Some c = let h = c.take_value.ensures in inl (pending_value c.take_value.result h.0 h.1 refl h.2)

pub returns-in-Some-take_word : goal.returns-in-Some-take_word
returns-in-Some-take_word c =
    let none = ap (λ (t : Tail). pending_in c.args.self.now.short_equals t) c.in_default.ensures.value in
    let h = c.in-Some-take_word.ensures in
    inl (takes_word c.in-Some-take_word.next c.take_word.new.self.words none h.0 refl h.1)

pub returns : goal.returns
returns c =
    let u = c.args.self.now in
    let refusal = c.missing_value.result in
    let none = ap (λ (t : Tail). pending_in u.short_equals t) c.in_default.ensures.value in
    let h = c.in_default-take_word.ensures in
    said_as_error Value u c.take_word.new.self refusal c.from.result c.from.ensures
    (subst (λ (l : UnreadLine). Value u (refusal_reply refusal) l) (sym h.1)
    (none_left ValueStep u refusal (nothing_to_take none h.0 refl refl) (subst (λ (l : UnreadLine). IsMissing l.last refusal) h.1 c.missing_value.ensures)))
