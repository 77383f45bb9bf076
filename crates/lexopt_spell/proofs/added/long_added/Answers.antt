use Rattle.std.proofs.Common.{string_bytes, sym, ap, ◌∙◌, rules, ◌≡◌, Err}
use Rattle.std.proofs.lemmas.Str.{IsUtf8-string_bytes}
use Rattle.lexopt_line_spec.specs.Table.{kind, long}
use Rattle.lexopt_line_spec.specs.Speller as rows
use Rattle.lexopt_line_spec.proofs.SpellerAgrees.{contains_so}
use Rattle.lexopt_line_spec.proofs.SpellerTests.{has_equals, no_equals}
use Rattle.lexopt_spell.specs.Models.{place_view}
use Rattle.lexopt_spell.proofs.AddedRows.{refused, formless}
use Rattle.lexopt_spell.proofs.added.long_added.Goals as goal

pub returns-then-contains : goal.returns-then-contains
returns-then-contains c = λ t short_equals later item of form.
    let name = string_bytes c.args.name.now in
    rows.with_equals name (place_view c.args.place) item (IsUtf8-string_bytes c.args.name.now)
    (contains_so name (ap has_equals (sym c.as_bytes.ensures.value) ∙ sym c.contains.ensures.value ∙ c.if-contains.true)) of

pub returns-in_err-form : goal.returns-in_err-form
returns-in_err-form c = λ t short_equals later item of form.
    let name = string_bytes c.args.name.now in
    let reason = c.in_err-form.field-0.0 in
    let is : c.from_residual.result ≡ Err reason = search rules in
    refused t short_equals later (place_view c.args.place) item c.from_residual.result reason is
    (rows.no_long_form name (place_view c.args.place) item _ (IsUtf8-string_bytes c.args.name.now)
    (no_equals name (ap has_equals (sym c.as_bytes.ensures.value) ∙ sym c.contains.ensures.value ∙ c.if-contains.false))
    (formless short_equals later (kind t (long name)) (long name) item c.args.form reason c.in_err-form.was form))
