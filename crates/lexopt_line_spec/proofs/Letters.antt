-- The bytes that represent a character are the first piece.
use Rattle.std.proofs.Common.{◌≡◌, ◌≢◌, ℕ, ◌<◌, ◌≤◌, List, [], ◌++◌, length, take, drop, Option, Some, None, encode_utf8, refl, sym, ap, subst, ◌∙◌, arith, inl, inr}
use Rattle.std.proofs.lemmas.List.{take-append-drop, length-take-le}
use Rattle.std.proofs.Math.Seq.{drop-append_seam}
use Rattle.std.specs.Char.{IsScalar}
use Rattle.bstr.specs.Utf8.{Decoded, decoded, good}
use Rattle.bstr.proofs.lemmas.PieceLemmas.{piece-bounds}
use Rattle.bstr.proofs.lemmas.EncodeLemmas.{decoded-encode}
use Rattle.lexopt_spec.specs.Pieces.{IsDamage, IsFirstPiece, first_piece, after_first_piece, shown, replacement}
use Rattle.lexopt_line_spec.specs.Spelling.{damaged}
use Rattle.lexopt_spec.proofs.Fronts.{decoded_is_first, first_is_decoded, damage_some}

-- these bytes, with those after them, are read as the character `c`
pub record IsRead (c : ℕ) (bytes following : List ℕ) : Type 0 where
  pub some : bytes ++ following ≢ []
  pub is : shown (first_piece (bytes ++ following)).char ≡ c
  pub after : after_first_piece (bytes ++ following) ≡ following

no_bytes : (bs : List ℕ) → 0 < length bs → bs ≢ []
no_bytes bs some none = let e : length bs ≡ 0 = ap length none in omega arith

read_by : (bytes following : List ℕ) (char : Option ℕ) → bytes ++ following ≢ [] → (decoded (bytes ++ following)).size ≡ length bytes
    → (decoded (bytes ++ following)).char ≡ char → IsRead (shown char) bytes following
read_by bytes following char some size is = record {
  some = some;
  is = ap shown is;
  after = ap (λ n. drop n (bytes ++ following)) size ∙ drop-append_seam bytes following;
}

pub exact_read : (c : ℕ) (bytes following : List ℕ) → IsScalar c → bytes ≡ encode_utf8 c → IsRead c bytes following
exact_read c bytes following scalar is =
    let read : decoded (bytes ++ following) ≡ good c (length bytes) =
    ap (λ l. decoded (l ++ following)) is ∙ decoded-encode c following scalar ∙ ap (λ l. good c (length l)) (sym is) in
    let char : (decoded (bytes ++ following)).char ≡ Some c = ap (λ (p : Decoded). p.char) read in
    read_by bytes following (Some c)
    (λ none. let e : (decoded []).char ≡ Some c = sym (ap (λ l. (decoded l).char) none) ∙ char in cc)
    (ap (λ (p : Decoded). p.size) read) char

damage_read : (bytes following : List ℕ) → IsDamage (bytes ++ following) (length bytes) → IsRead replacement bytes following
damage_read bytes following is =
    let first = first_is_decoded (bytes ++ following) (length bytes) None is in
    read_by bytes following None (no_bytes (bytes ++ following) (damage_some (bytes ++ following) (length bytes) is.within is.longest)) (sym first.0) (sym first.1)

pub letter_read : (c : ℕ) (bytes following : List ℕ) → damaged.character c bytes following → IsRead c bytes following
letter_read c bytes following (inl exact) = exact_read c bytes following exact.0 exact.1
letter_read c bytes following (inr damage) = subst (λ (x : ℕ). IsRead x bytes following) (sym damage.0) (damage_read bytes following damage.1)

-- the first piece of some bytes represents the character that is read
pub record IsLetter (bs : List ℕ) : Type 0 where
  pub whole : (first_piece bs).bytes ++ after_first_piece bs ≡ bs
  pub letter : damaged.character (shown (first_piece bs).char) (first_piece bs).bytes (after_first_piece bs)

stands : (bs bytes following : List ℕ) (n : ℕ) (char : Option ℕ) → bytes ++ following ≡ bs → bytes ≡ take n bs → n ≤ length bs → IsFirstPiece bs n char
    → damaged.character (shown char) bytes following
stands bs bytes following n (Some c) whole is within first = inl (first.scalar, is ∙ first.encodes)
stands bs bytes following n None whole is within first =
    inr (refl, subst (λ (l : List ℕ). IsDamage l (length bytes)) (sym whole) (subst (λ (m : ℕ). IsDamage bs m) (sym (ap length is ∙ length-take-le n bs within)) first))

pub read_letter : (bs : List ℕ) → 0 < length bs → IsLetter bs
read_letter bs some =
    let whole = take-append-drop (decoded bs).size bs in
    record {
      whole = whole;
      letter = stands bs (take (decoded bs).size bs) (drop (decoded bs).size bs) (decoded bs).size (decoded bs).char whole refl
          (piece-bounds bs some).2 (decoded_is_first bs (decoded bs) some refl);
    }
