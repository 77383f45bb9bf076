use Rattle.std.proofs.Common.{sym, ap, ◌∙◌}
use Rattle.lexopt_base.specs.KeptWords.{Kept}
use Rattle.lexopt_base.proofs.States.{passed}
use Rattle.lexopt_base.proofs.kept_words.KeptWords.pass.Goals as goal

pub returns : goal.returns
returns c =
    let left = ap (λ (k : Kept). k.left) (sym c.self.view_is) in
    left ∙ passed c.self.inside.words.items c.self.inside.count (λ none. c.requires (left ∙ none))
