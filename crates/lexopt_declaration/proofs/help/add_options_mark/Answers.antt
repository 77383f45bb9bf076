use Rattle.std.proofs.Common.{◌++◌, ◌∙◌, ◌∷◌, [], false, true, map, string_bytes, ap, sym, append-nil}
use Rattle.std.proofs.lemmas.List.{map-append}
use Rattle.lexopt_declaration.proofs.Marks.{mark_is}
use Rattle.lexopt_declaration.proofs.help.add_options_mark.Goals as goal

pub returns-then-not-any_voluntary : goal.returns-then-not-any_voluntary
returns-then-not-any_voluntary g c =
    let mark = mark_is c.args.options.now false (c.if-not-any_voluntary.ensures) in
    rw mark (sym (append-nil _))

pub returns : goal.returns
returns g c =
    let mark = mark_is c.args.options.now true (c.if-not-any_voluntary.ensures) in
    rw mark (ap (map string_bytes) c.in_ok-push.ensures.items ∙ map-append string_bytes _ _ ∙ ap (λ t. map string_bytes c.args.marks.now.items ++ t ∷ []) c.in_ok-from_str.ensures.ok)
