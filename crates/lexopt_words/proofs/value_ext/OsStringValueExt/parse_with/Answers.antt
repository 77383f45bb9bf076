use Rattle.std.proofs.Common.{Ok, Err, refl, ◌∙◌, inl, inr}
use Rattle.lexopt_words.proofs.Errors.{err_only}
use Rattle.lexopt_words.proofs.value_ext.OsStringValueExt.parse_with.Goals as goal

pub returns-in-Ok-clause-text : goal.returns-in-Ok-clause-text
returns-in-Ok-clause-text g c = λ _.
    (Ok c.in-Ok.value, (c.in-Some.text, c.in-Ok.ensures, c.in-Some.ensures.same_bytes), refl)

pub returns-in_ok-value-in-Err-clause-text : goal.returns-in_ok-value-in-Err-clause-text
returns-in_ok-value-in-Err-clause-text g c = λ _. (
  Err c.in-Err.error,
  (c.in-Some.text, c.in-Err.ensures, c.in-Some.ensures.same_bytes),
  inr (c.in_ok-value-in-Err.ensures.ok ∙ c.in-Some.ensures.same_bytes, c.into-error.ensures),
)

pub returns-in_err-value-in-Err-clause-text : goal.returns-in_err-value-in-Err-clause-text
returns-in_err-value-in-Err-clause-text g c = λ _.
    (Err c.in-Err.error, (c.in-Some.text, c.in-Err.ensures, c.in-Some.ensures.same_bytes), err_only c.from_residual.result _ _ (λ e made. inl made) c.from_residual.ensures.1)
