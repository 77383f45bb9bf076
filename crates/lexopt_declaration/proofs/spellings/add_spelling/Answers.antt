use Rattle.lexopt_declaration.proofs.Common.{◌++◌, append-nil, ap, false, map, string_bytes, sym, true, ◌∙◌, map-append, spelling_view}
use Rattle.lexopt_declaration.proofs.Spelled.{if_offered}
use Rattle.lexopt_declaration.proofs.spellings.add_spelling.Goals as goal

pub returns-in_ok-push : goal.returns-in_ok-push
returns-in_ok-push c =
    let before = map spelling_view c.args.spellings.now.items in
    ap (map spelling_view) c.in_ok-push.ensures.items ∙ map-append spelling_view c.args.spellings.now.items _
    ∙ ap (λ l. before ++ l) (if_offered c.args.typed.now c.as_str.result.now (string_bytes c.args.text) c.args.help.now c.args.shown c.is_offered.result true c.as_str.ensures.value (c.is_offered.ensures c.args.help.now) c.if-is_offered.true)

pub returns-else-is_offered : goal.returns-else-is_offered
returns-else-is_offered c =
    let before = map spelling_view c.args.spellings.now.items in
    sym (append-nil before)
    ∙ ap (λ l. before ++ l) (if_offered c.args.typed.now c.as_str.result.now (string_bytes c.args.text) c.args.help.now c.args.shown c.is_offered.result false c.as_str.ensures.value (c.is_offered.ensures c.args.help.now) c.if-is_offered.false)
