use Rattle.std.proofs.Common.{ℕ, List, Bor, map, take, string_bytes}
use Rattle.lexopt_options_spec.specs.Help.{IsParagraph, set_apart}
use Rattle.lexopt_options_spec.proofs.Wrapping.{Listed}
use Rattle.lexopt_declaration.proofs.help.push_epilogue.Given as goal

abbrev pub invariant-loop-content : goal.invariant-loop-content
invariant-loop-content l =
    Listed (IsParagraph l.width) set_apart (string_bytes l.fn.out) (map (λ (content : Bor (List ℕ)). content.now) (take l.content-index l.epilogue)) (string_bytes l.out)
