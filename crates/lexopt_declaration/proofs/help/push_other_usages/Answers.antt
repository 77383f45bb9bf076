use Rattle.std.proofs.Common.{ℕ, List, Bor, ap, string_bytes, codes, ◌++◌, ◌∙◌, append_assoc, arith}
use Rattle.lexopt_options_spec.proofs.Wrapping.{listed_next}
use Rattle.lexopt_declaration.proofs.help.push_other_usages.Goals as goal

pub loop-own-preserved : goal.loop-own-preserved
loop-own-preserved c =
    let e = c.in_ok-push_own_usage.ensures in
    listed_next (λ (own : Bor (List ℕ)). own.now) _ _ _ _ _ _ _ (omega arith) _ e.0 c.loop-own.invariant e.1
    (e.2 ∙ ap (λ (bs : List ℕ). bs ++ e.0) c.in_ok-push_str.ensures.bytes ∙ append_assoc (string_bytes c.loop-own.out) (codes "  or:  ") e.0)
