use Rattle.std.proofs.Common.{ap, ◌∙◌}
use Rattle.std.proofs.lemmas.Str.{IsUtf8-from_is_utf8, is_utf8-from_IsUtf8}
use Rattle.std.specs.Cmp.{both_ways}
use Rattle.std.specs.Str.{is_utf8}
use Rattle.lexopt_base.proofs.parser.is_text.Goals as goal

pub returns : goal.returns
returns c =
    let bytes = c.as_bytes.result.now in
    both_ways c.is_utf8.result (is_utf8 bytes) (λ is. is_utf8-from_IsUtf8 bytes (c.is_utf8.ensures.0 is)) (λ is. c.is_utf8.ensures.1 (IsUtf8-from_is_utf8 bytes is))
    ∙ ap is_utf8 c.as_bytes.ensures
