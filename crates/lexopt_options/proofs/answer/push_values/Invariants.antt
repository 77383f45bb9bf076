use Rattle.lexopt_options.proofs.Common.{◌≡◌, ◌++◌, string_bytes, take, flat_map}
use Rattle.lexopt_options.specs.Answers.{listed_line}
use Rattle.lexopt_options.proofs.answer.push_values.Given as goal

abbrev pub invariant-loop-value : goal.invariant-loop-value
invariant-loop-value l = string_bytes l.text ≡ string_bytes l.initial.text ++ flat_map (λ s. listed_line (string_bytes s)) (take l.value-index l.values)
