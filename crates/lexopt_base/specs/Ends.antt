-- The line that a parser has once the result of `next` is no longer borrowed.
use Rattle.std.specs.Prelude.{Result, Option}
use Rattle.std.specs.Borrow.{Fml, MutBor}
use Rattle.std.specs.Io.BufRead.{Rests}
use Rattle.lexopt_spec.specs.UnreadLine.{UnreadLine}
use Rattle.lexopt_spec.specs.Steps.{Next}
use Rattle.lexopt_base.specs.Replies.{RepliesWith, next_reply}
use Rattle.lexopt_words.specs.declared.error.Arg.{Arg}
use Rattle.lexopt_words.specs.declared.error.Error.{Error}
use Rattle.lexopt_base.specs.contracts.parser.Parser.{the_row}

-- the line is the one that `next` leaves when it returns this result
abbrev pub LineAfterNext : MutBor UnreadLine → Result (Option Arg) Error → Fml
LineAfterNext parser result = Rests the_row parser (RepliesWith Next parser.now (next_reply result))
