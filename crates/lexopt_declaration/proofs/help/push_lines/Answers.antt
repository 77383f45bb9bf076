use Rattle.std.proofs.Common.{arith}
use Rattle.lexopt_options_spec.proofs.Wrapping.{written_start, written_next}
use Rattle.lexopt_declaration.proofs.help.push_lines.Goals as goal

pub loop-word-init : goal.loop-word-init
loop-word-init c = written_start _ _ _ _ _ _ _ c.columns.ensures.count c.saturating_sub-room.ensures c.in_ok-push_str.ensures.bytes

pub loop-word-preserved : goal.loop-word-preserved
loop-word-preserved c = written_next _ _ _ _ _ _ _ _ _ _ _ (omega arith) c.loop-word.invariant c.in_ok-room.ensures.text c.in_ok-room.ensures.room
