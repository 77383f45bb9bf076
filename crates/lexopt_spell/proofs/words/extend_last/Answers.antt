use Rattle.std.proofs.Common.{◌++◌, ◌∷◌, [], ap, ◌∙◌}
use Rattle.lexopt_spell.proofs.LastWord.{extended}
use Rattle.lexopt_spell.proofs.words.extend_last.Goals as goal

pub returns-in_ok-push : goal.returns-in_ok-push
returns-in_ok-push c =
    let left = c.pop.new.self.items in
    extended c.args.words.now.items left c.push.new.self.items c.pop.result c.in-Some.last c.args.bytes.now c.pop.ensures.items c.in-Some.is
    (c.in_ok-push.ensures.items
    ∙ ap (λ x. left ++ (x ∷ [])) (c.from_vec.ensures ∙ c.in_ok-extend_from_slice.ensures.items
    ∙ ap (λ x. x ++ c.as_bytes.result.now) c.into_vec-longer.ensures ∙ ap (λ x. c.in-Some.last ++ x) c.as_bytes.ensures))
