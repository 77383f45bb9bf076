use Rattle.std.proofs.Common.{◌≢◌, ◌∷◌, sym, ap, ◌∙◌, arith, Bor, ℕ, List}
use Rattle.lexopt_calls.proofs.ScriptLemmas.{unescaped-plain, unescaped_step}
use Rattle.lexopt_calls.specs.Script.{backslash, in_front, unescaped}
use Rattle.lexopt_calls.proofs.script.unescaped.Goals as goal
use Rattle.lexopt_calls.proofs.script.unescaped.Goals.{in-92+in-Some-escaped, in_default-first}

pub loop-first-preserved : goal.loop-first-preserved
loop-first-preserved c =
    let rest = c.in-Some.ensures.cases.0 in
    let left = c.in-Some.after.now in
    let after = λ (p : ℕ × Bor (List ℕ)). in_front p.0 (unescaped p.1.now) in
    elim c.match-first.branch [
      | in-92+in-Some-escaped w ↦ unescaped_step _ _ c.loop-first.rest.now c.match-first.byte.1.now _ _
          (ap unescaped (rest ∙ ap (λ b. b ∷ left) w.in-92.is) ∙ w.in-Some-escaped.ensures.0 ∙ ap after (sym w.byte-is))
          c.in_ok-push.ensures.items c.loop-first.invariant
      | in_default-first w ↦ let other : c.in-Some.first.now ≢ backslash = omega arith in unescaped_step _ _ c.loop-first.rest.now c.match-first.byte.1.now _ _
          (ap unescaped rest ∙ unescaped-plain _ left other ∙ ap after (sym w.byte-is))
          c.in_ok-push.ensures.items c.loop-first.invariant
    ]
