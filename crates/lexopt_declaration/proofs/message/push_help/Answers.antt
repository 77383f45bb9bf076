use Rattle.lexopt_declaration.proofs.Common.{[], ◌∷◌, ◌++◌, append-nil, append_assoc, flat_map, map-id, string_bytes, sym, ap, ◌∙◌, YieldsList-from_chars, YieldsList-end, on_one_line}
use Rattle.std.proofs.lemmas.Grind.{flat_map-append}
use Rattle.lexopt_declaration.proofs.message.push_help.Goals as goal

pub loop-character-preserved : goal.loop-character-preserved
loop-character-preserved c =
    let yielded = c.loop-character.yielded in
    let more = flat_map-append on_one_line yielded (c.in-Some.character ∷ []) ∙ ap (λ l. flat_map on_one_line yielded ++ l) (append-nil (on_one_line c.in-Some.character)) in
    c.in_ok-push_on_one_line.ensures ∙ ap (λ l. l ++ on_one_line c.in-Some.character) c.loop-character.invariant
    ∙ append_assoc (string_bytes c.args.text.now) (flat_map on_one_line yielded) (on_one_line c.in-Some.character) ∙ ap (λ l. string_bytes c.args.text.now ++ l) (sym more)

pub returns : goal.returns
returns c =
    let end = YieldsList-end (YieldsList-from_chars c.args.help.now c.utf8.help cc) c.loop-character.yielded _ c.loop-character.yielded_by _ _ c.in-None.is c.next.ensures.steps in
    c.loop-character.invariant ∙ ap (λ l. string_bytes c.args.text.now ++ flat_map on_one_line l) (sym (map-id c.loop-character.yielded) ∙ end.0)
