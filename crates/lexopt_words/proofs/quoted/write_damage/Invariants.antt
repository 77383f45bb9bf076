use Rattle.std.proofs.Common.{take, flat_map}
use Rattle.std.specs.Fmt.{HasWritten, IsPlainFormatter}
use Rattle.lexopt_spec.specs.Text.{byte_escape}
use Rattle.lexopt_words.proofs.quoted.write_damage.Given as goal

abbrev pub invariant-loop-byte : goal.invariant-loop-byte
invariant-loop-byte g l =
    IsPlainFormatter l.fn.f
    → HasWritten g.W.Write.write_str_gives l.fn.f (flat_map byte_escape (take l.byte-index l.piece)) l.f
