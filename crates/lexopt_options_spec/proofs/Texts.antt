-- The characters of a text.
use Rattle.lexopt_options_spec.proofs.Common.{◌≡◌, ℕ, List, sym, ap, ◌∙◌, IsUtf8, chars, lossy_characters, encoded}
use Rattle.std.proofs.lemmas.Str.{chars-encodes}

-- the lossy characters of UTF-8 are its characters
pub text_characters : (bs : List ℕ) → IsUtf8 bs → lossy_characters bs ≡ chars bs
text_characters bs utf8 =
    ap lossy_characters (sym utf8.1.1) ∙ encoded utf8.0 utf8.1.0 ∙ sym (ap chars (sym utf8.1.1) ∙ chars-encodes utf8.0 utf8.1.0)
