use Rattle.lexopt_line_spec.specs.Bound.{bound}
use Rattle.lexopt_options.specs.Reading.{HasRead}
use Rattle.lexopt_options.proofs.read.read_keys.Given as goal

abbrev pub invariant-loop-index : goal.invariant-loop-index
invariant-loop-index g l = HasRead l.options l.begins l.initial.parser l.parser l.read.count l.read.seen.items l.read.parsed.items

abbrev pub decreases-loop-index : goal.decreases-loop-index
decreases-loop-index g l = bound l.parser
