use Rattle.lexopt_options.proofs.Common.{◌≡◌, ◌++◌, string_bytes, take, flat_map, spelling_view}
use Rattle.lexopt_options.specs.Answers.{spelling_line}
use Rattle.lexopt_options.proofs.answer.push_spellings.Given as goal

abbrev pub invariant-loop-spelling : goal.invariant-loop-spelling
invariant-loop-spelling l = string_bytes l.text ≡ string_bytes l.initial.text ++ flat_map (λ s. spelling_line (spelling_view s)) (take l.spelling-index l.spellings)
