use Rattle.std.proofs.Common.{drop, ap, ◌∙◌, arith, length-drop, take_all}
use Rattle.lexopt_base.proofs.States.{same_kept, seen_from}
use Rattle.lexopt_base.proofs.kept_words.KeptWords.copy.Goals as goal

pub returns : goal.returns
returns c =
    let words = c.self.inside.words.items in
    let first = c.saturating_sub-first.result in
    let from = ap (drop first) c.deref.ensures.value in
    let same = c.in_ok-copies.ensures ∙ take_all _ _ (omega (arith, length-drop first c.deref.result.now)) ∙ from in
    let seen = seen_from words c.in_ok-copies.field-0.items c.self.inside.count first c.saturating_sub-first.ensures same in
    same_kept _ _ seen.0 seen.1 ∙ c.self.view_is
