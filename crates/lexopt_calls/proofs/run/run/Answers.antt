use Rattle.std.proofs.Common.{ℕ, List, rules, string_bytes, subst}
use Rattle.lexopt_calls.specs.Script.{IsOutput}
use Rattle.lexopt_calls.proofs.run.run.Goals as goal

pub returns-clause-ok : goal.returns-clause-ok
returns-clause-ok g c =
    let text = string_bytes c.in_ok-text.text in
    let output = subst (λ (script : List ℕ). IsOutput script text) c.deref.ensures.value c.in_ok-text.ensures.ok in
    (c.in_ok-script.script.items, text, c.in_ok-script.ensures.ok, output, search rules)
