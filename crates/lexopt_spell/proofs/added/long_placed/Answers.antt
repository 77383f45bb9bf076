use Rattle.std.proofs.Common.{string_bytes, sym, ◌∙◌, true≢false}
use Rattle.std.proofs.lemmas.Str.{IsUtf8-string_bytes}
use Rattle.lexopt_spell.specs.Models.{form_view, place_view}
use Rattle.lexopt_spell.proofs.AddedRows.{empty_row, past_long, long_row}
use Rattle.lexopt_spell.proofs.added.long_placed.Goals as goal

pub returns-then-not-is_named : goal.returns-then-not-is_named
returns-then-not-is_named c = λ t short_equals later item none form.
    let p = form_view c.args.form in
    empty_row t short_equals later (string_bytes c.args.name.now) (place_view c.args.place) item p.after p.words p.place
    (λ named. true≢false (sym (c.is_named.ensures.1 named) ∙ c.if-not-is_named.true)) form

pub returns-in-Ended : goal.returns-in-Ended
returns-in-Ended c = λ t short_equals later item none form.
    past_long t short_equals later (string_bytes c.args.name.now) c.args.place item (form_view c.args.form) (IsUtf8-string_bytes c.args.name.now) none (c.is_named.ensures.0 c.if-not-is_named.false)
    c.in-Ended.is form

pub returns : goal.returns
returns c = λ t short_equals later item none form.
    long_row t short_equals later (string_bytes c.args.name.now) c.args.place item (form_view c.args.form) (IsUtf8-string_bytes c.args.name.now) none (c.is_named.ensures.0 c.if-not-is_named.false)
    c.in_default.not-Ended form
