-- Texts that are not keywords.
use Rattle.std.proofs.Common.{◌≡◌, ◌≢◌, ℕ, ◌==◌, true, false, List, Option, Some, None, IsUtf8, codes, refl, sym, subst}
use Rattle.std.specs.Cmp.Lexicographic.{pointwise, same_text}
use Rattle.std.specs.Str.{chars, is_utf8}
use lib.Utf8.{encode}
use Rattle.std.proofs.lemmas.Bool.{false_from_ne_true}
use Rattle.std.proofs.lemmas.Str.{IsUtf8-from_is_utf8}
use Rattle.lexopt_calls.specs.Script.{bad, meaning_by_keyword}

other : {bytes text : List ℕ} → bytes ≢ text → pointwise ◌==◌ bytes text ≡ false
other {bytes} {text} differ = false_from_ne_true (pointwise ◌==◌ bytes text) (λ same. differ (same_text bytes text (sym same)))

-- a keyword that takes no text, or no keyword at all, makes a line with a text bad
pub takes_no_text : (keyword text : List ℕ) → keyword ≢ codes "w" → keyword ≢ codes "values" → keyword ≢ codes "raw" → keyword ≢ codes "try" → keyword ≢ codes "t"
    → keyword ≢ codes "topt" → keyword ≢ codes "tmany" → bad ≡ meaning_by_keyword keyword (Some text)
takes_no_text keyword text no_w no_values no_raw no_try no_t no_topt no_tmany =
    rw (other no_w, other no_values, other no_raw, other no_try, other no_t, other no_topt, other no_tmany) refl

not_this : {bytes : List ℕ} → (IsUtf8 bytes → ⊥) → (text : List ℕ) → is_utf8 text ≡ true → bytes ≢ text
not_this damaged text utf8 same = damaged (subst IsUtf8 (sym same) (IsUtf8-from_is_utf8 text utf8))

-- bytes that are not UTF-8 are not a keyword
pub damaged_keyword : (keyword : List ℕ) (text : Option (List ℕ)) → (IsUtf8 keyword → ⊥) → bad ≡ meaning_by_keyword keyword text
unfolding is_utf8 chars encode
damaged_keyword keyword None damaged =
    let no = not_this damaged in
    rw (
      other (no (codes "") refl),
      other (no (codes "next") refl),
      other (no (codes "value") refl),
      other (no (codes "optional") refl),
      other (no (codes "on") refl),
      other (no (codes "off") refl),
      other (no (codes "items") refl),
      other (no (codes "w") refl),
    )
    refl
damaged_keyword keyword (Some text) damaged =
    let no = not_this damaged in
    takes_no_text keyword text (no (codes "w") refl) (no (codes "values") refl) (no (codes "raw") refl) (no (codes "try") refl) (no (codes "t") refl)
    (no (codes "topt") refl) (no (codes "tmany") refl)
