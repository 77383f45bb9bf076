use Rattle.std.proofs.Common.{◌≡◌, take}
use Rattle.lexopt_spell.specs.Models.{continues, word_bytes}
use Rattle.lexopt_spell.specs.Words.{pushed}
use Rattle.lexopt_spell.proofs.words.push.Given as goal

abbrev pub invariant-loop-other : goal.invariant-loop-other
invariant-loop-other l = l.words.items ≡ pushed (continues l.fn.word) l.fn.words.items (word_bytes l.fn.word) (take l.other-index l.more)
