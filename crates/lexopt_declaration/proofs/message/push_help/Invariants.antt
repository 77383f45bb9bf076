use Rattle.lexopt_declaration.proofs.Common.{◌≡◌, ◌++◌, flat_map, string_bytes, on_one_line}
use Rattle.lexopt_declaration.proofs.message.push_help.Given as goal

abbrev pub invariant-loop-character : goal.invariant-loop-character
invariant-loop-character l = string_bytes l.text ≡ string_bytes l.initial.text ++ flat_map on_one_line l.yielded
