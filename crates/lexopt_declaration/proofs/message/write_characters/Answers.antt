use Rattle.lexopt_declaration.proofs.Common.{[], flat_map, map-id, refl, sym, ap, ◌∙◌, has_written_append, has_written_of_eq, YieldsList-from_chars, YieldsList-end, flat_map_more, escaped}
use Rattle.lexopt_declaration.proofs.message.write_characters.Goals as goal

pub loop-character-preserved : goal.loop-character-preserved
loop-character-preserved g c = λ plain.
    let so_far = c.loop-character.invariant plain in
    has_written_of_eq _ _ _ _ _ (flat_map_more escaped [] c.loop-character.yielded c.in-Some.character)
    (has_written_append _ _ _ _ (escaped c.in-Some.character) _ so_far (c.in_ok-write_escaped.ensures so_far.plain refl))

pub returns : goal.returns
returns g c = λ plain _.
    let end = YieldsList-end (YieldsList-from_chars c.args.text.now c.utf8.text cc) c.loop-character.yielded _ c.loop-character.yielded_by _ _ c.in-None.is c.next.ensures.steps in
    has_written_of_eq _ _ _ _ _ (ap (flat_map escaped) (sym (map-id c.loop-character.yielded) ∙ end.0)) (c.loop-character.invariant plain)
