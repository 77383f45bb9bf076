-- The options that lines of a script name.
use Rattle.std.proofs.Common.{◌≡◌, ℕ, List, ◌∷◌, Some, None, IsUtf8, true, false, Bool, sym, refl}
use Rattle.std.proofs.lemmas.Str.{IsUtf8-from_is_utf8, is_utf8-from_IsUtf8}
use Rattle.std.specs.Str.{is_utf8}
use Rattle.lexopt_line_spec.specs.Table.{long}
use Rattle.lexopt_calls.specs.Script.{option_named}

not_utf8 : (bs : List ℕ) (b : Bool) → b ≡ is_utf8 bs → (IsUtf8 bs → ⊥) → is_utf8 bs ≡ false
not_utf8 bs true is other = absurd (other (IsUtf8-from_is_utf8 bs (sym is)))
not_utf8 bs false is other = sym is

pub named_utf8 : (text name : List ℕ) → text ≡ 0x2D ∷ 0x2D ∷ name → IsUtf8 name → Some (long name) ≡ option_named text
named_utf8 text name is utf8 = rw is (rw (is_utf8-from_IsUtf8 name utf8) refl)

pub not_named : (text name : List ℕ) → text ≡ 0x2D ∷ 0x2D ∷ name → (IsUtf8 name → ⊥) → None ≡ option_named text
not_named text name is other = rw is (rw (not_utf8 name (is_utf8 name) refl other) refl)
