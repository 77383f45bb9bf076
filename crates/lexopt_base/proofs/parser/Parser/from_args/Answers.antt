use Rattle.std.proofs.Common.{ap, ◌∙◌}
use Rattle.lexopt_spec.specs.UnreadLine.{fresh}
use Rattle.lexopt_base.specs.KeptWords.{Kept}
use Rattle.lexopt_base.proofs.parser.Parser.from_args.Goals as goal

pub returns-clause-ok : goal.returns-clause-ok
returns-clause-ok g c =
    (c.in_ok-words.words.items, c.in_ok-words.ensures, c.unread.ensures ∙ ap (λ (k : Kept). fresh k.left) c.new.ensures)
