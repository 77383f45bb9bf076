-- `unfolding computing` unfolds the definitions that worked examples compute with.
use Rattle.std.specs.Fmt.{digits}
use Rattle.std.specs.Str.{chars, is_utf8}
use lib.Utf8.{encode}
use Rattle.lexopt_spec.specs.Pieces.{pieces_up_to}
use Rattle.lexopt_line_spec.specs.Table.{kind}
use Rattle.lexopt_line_spec.proofs.SpellerTables.{spelled_from}

unfoldable pub computing : Unit {0}
unfolding pieces_up_to digits encode chars is_utf8 kind spelled_from
computing = tt
