use Rattle.std.proofs.Common.{ℕ, List, Bor, ap, string_bytes, ◌++◌, ◌∙◌, arith}
use Rattle.lexopt_options_spec.specs.Help.{set_apart}
use Rattle.lexopt_options_spec.proofs.Wrapping.{listed_next}
use Rattle.lexopt_declaration.proofs.help.push_epilogue.Goals as goal

pub loop-content-preserved : goal.loop-content-preserved
loop-content-preserved c =
    let e = c.in_ok-push_paragraph.ensures in
    let part = c.as_str.ensures.value ∙ e.2 ∙ ap (λ (bs : List ℕ). bs ++ e.0) c.new-paragraph.ensures.bytes in
    listed_next (λ (content : Bor (List ℕ)). content.now) _ _ _ _ _ _ _ (omega arith) _ e.0 c.loop-content.invariant e.1
    (c.in_ok-push_apart.ensures ∙ ap (λ (bs : List ℕ). string_bytes c.loop-content.out ++ set_apart bs) part)
