use Rattle.std.proofs.Common.{refl}
use Rattle.lexopt_spec.specs.Steps.{word_left}
use Rattle.lexopt_base.proofs.parser.Parser.read_positional.Goals as goal

pub returns-in-Some : goal.returns-in-Some
returns-in-Some c = word_left c.in-Some.word c.take_word.new.self.words c.in-Some.ensures.0 refl c.in-Some.ensures.1
