use Rattle.std.proofs.Common.{◌≡◌, List, ℕ, sym, subst, ◌∙◌, arith}
use Rattle.std.specs.Str.Parse.{ParsesUnsigned}
use Rattle.lexopt_calls.proofs.Numbers.{no_text, number_read, is_value, is_error}
use Rattle.lexopt_calls.proofs.script.number.Goals as goal

pub returns-in_err-ok : goal.returns-in_err-ok
returns-in_err-ok c =
    c.from_residual.ensures ∙ sym (no_text c.args.digits.now (is_error _ _ _ c.from_utf8.result c.from_utf8.ensures.cases (sym c.in_err-ok.ensures.value)))

pub returns : goal.returns
returns c =
    let same : c.in_ok-ok.field-0.now ≡ c.args.digits.now =
    (is_value _ _ c.from_utf8.result c.in_ok-ok.field-0 c.from_utf8.ensures.cases (sym c.in_ok-ok.ensures.value)).0 in
    c.ok-2.ensures.value
    ∙ number_read c.args.digits.now c.parse.result (omega arith) (sym c.if-starts_with.ensures.value)
    (subst (λ (l : List ℕ). ParsesUnsigned 64 10 l c.parse.result) same c.parse.ensures.value.0)
