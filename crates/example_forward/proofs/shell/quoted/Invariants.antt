use Rattle.std.proofs.Common.{◌≡◌, [], ◌∷◌, ◌++◌, take, flat_map}
use Rattle.example_forward.specs.Shell.{quote, in_quotes}
use Rattle.example_forward.proofs.shell.quoted.Given as goal

abbrev pub invariant-loop-byte : goal.invariant-loop-byte
invariant-loop-byte l = l.bytes.items ≡ (quote ∷ []) ++ flat_map in_quotes (take l.byte-index l.word)
