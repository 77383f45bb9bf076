use Rattle.std.proofs.Common.{◌≡◌, ◌++◌, ◌+◌, length}
use Rattle.lexopt_options.proofs.rest.add_left.Given as goal

abbrev pub invariant-loop-asked : goal.invariant-loop-asked
invariant-loop-asked l =
    (l.words.items ++ l.left.parser.now.words ≡ l.fn.words.items ++ l.fn.left.parser.now.words)
    × (length l.left.parser.now.words + l._asked ≡ l.count)
