use Rattle.std.proofs.Common.{◌++◌, ap, string_bytes, sym, ◌∙◌}
use Rattle.lexopt_options.proofs.Fronts.{joins, no_text, no_value}
use Rattle.lexopt_options.proofs.complete.joined_value.Goals as goal

pub returns-in-Some-2 : goal.returns-in-Some-2
returns-in-Some-2 c = λ d words opens last.
    let found = rw c.in-Some.is at last in
    let parts = rw c.in-Some-2.is at c.in_ok-before.ensures in
    let apart = sym c.as_bytes.ensures ∙ parts.1 ∙ ap (λ v. string_bytes c.in-Some-2.before ++ v) c.as_bytes-2.ensures in
    joins d words c.args.typed.now (c.in-Some.index, c.in-Some.value) (string_bytes c.in-Some-2.before) opens found parts.0 apart

pub returns : goal.returns
returns c = λ d words opens last.
    let found = rw c.in-Some.is at last in
    let none = rw c.in-None.is at c.in_ok-before.ensures in
    no_text d words c.args.typed.now (c.in-Some.index, c.in-Some.value) found (λ before utf8 is. none before utf8 (c.as_bytes.ensures ∙ is ∙ ap (λ v. before ++ v) (sym c.as_bytes-2.ensures)))

pub returns-in_default : goal.returns-in_default
returns-in_default c = λ d words opens last. no_value d words c.args.typed.now (rw c.in_default.is at last)
