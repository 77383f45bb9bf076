use Rattle.std.proofs.Common.{Option, ℕ, encode_utf8, string_bytes, ap, sym}
use Rattle.lexopt_spec.specs.Pieces.{shown}
use Rattle.lexopt_words.proofs.Texts.{added}
use Rattle.lexopt_words.proofs.codepoint.push_shown.Goals as goal

pub returns-in-None : goal.returns-in-None
unfolding lib.Utf8.encode
returns-in-None c =
    added c.push_str.result (string_bytes c.args.text.now) _ _ _ c.push_str.ensures.bytes (ap (λ (o : Option ℕ). encode_utf8 (shown o)) (sym c.in-None.is))
