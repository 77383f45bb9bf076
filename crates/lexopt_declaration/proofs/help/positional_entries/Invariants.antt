use Rattle.std.proofs.Common.{ℕ, List, [], map, take, string_bytes}
use Rattle.lexopt_options_spec.specs.Declaration.{Positional}
use Rattle.lexopt_options_spec.specs.Help.{IsEntry, described, positional_text}
use Rattle.lexopt_declaration.specs.Models.{positional_view}
use Rattle.lexopt_options_spec.proofs.Wrapping.{Listed}
use Rattle.lexopt_declaration.proofs.help.positional_entries.Given as goal

abbrev pub invariant-loop-positional : goal.invariant-loop-positional
invariant-loop-positional g l =
    Listed (λ (p : Positional). IsEntry l.width p.placeholder (positional_text p)) (λ (entry : List ℕ). entry) [] (described (map positional_view (take l.positional-index l.positionals))) (string_bytes l.text)
