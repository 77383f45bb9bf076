use Rattle.std.proofs.Common.{◌≡◌, ◌∷◌, ◌++◌, take, drop, codes, Some, sym, ap, ◌∙◌}
use Rattle.lexopt_line_spec.specs.Table.{long}
use Rattle.std.proofs.lemmas.List.{take-append-drop}
use Rattle.std.specs.Cmp.Lexicographic.{same_text}
use Rattle.lexopt_calls.proofs.Options.{named_utf8, not_named}
use Rattle.lexopt_calls.proofs.script.option_named.Goals as goal

pub returns-in_ok-from_str-in-Ok : goal.returns-in_ok-from_str-in-Ok
returns-in_ok-from_str-in-Ok c =
    let cut = c.in-Some.ensures.cases in
    let text : c.args.text.now ≡ 0x2D ∷ 0x2D ∷ c.in-Some.name.now =
    sym (take-append-drop 2 c.args.text.now) ∙ ap (λ front. front ++ drop 2 c.args.text.now) (same_text (take 2 c.args.text.now) (codes "--") (sym cut.0))
    ∙ ap (λ rest. 0x2D ∷ 0x2D ∷ rest) (sym cut.1) in
    ap (λ name. Some (long name)) (c.in_ok-from_str-in-Ok.ensures.ok ∙ c.in-Ok.ensures.cases.0)
    ∙ named_utf8 c.args.text.now c.in-Some.name.now text c.in-Ok.ensures.cases.1

pub returns-in-Err : goal.returns-in-Err
returns-in-Err c =
    let cut = c.in-Some.ensures.cases in
    let text : c.args.text.now ≡ 0x2D ∷ 0x2D ∷ c.in-Some.name.now =
    sym (take-append-drop 2 c.args.text.now) ∙ ap (λ front. front ++ drop 2 c.args.text.now) (same_text (take 2 c.args.text.now) (codes "--") (sym cut.0))
    ∙ ap (λ rest. 0x2D ∷ 0x2D ∷ rest) (sym cut.1) in
    not_named c.args.text.now c.in-Some.name.now text c.in-Err.ensures.cases.0
