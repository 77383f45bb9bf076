use Rattle.std.proofs.Common.{suc, take, codes}
use Rattle.std.specs.List.{join_by}
use Rattle.std.specs.Fmt.{HasWritten, IsPlainFormatter}
use Rattle.lexopt_spec.specs.Text.{quoted}
use Rattle.lexopt_items.proofs.text.write_words.Given as goal

abbrev pub invariant-loop-word : goal.invariant-loop-word
invariant-loop-word g l =
    IsPlainFormatter l.fn.f
    → HasWritten g.W.Write.write_str_gives l.fn.f (join_by quoted (codes ", ") (take (suc l.word-index) l.words)) l.f
