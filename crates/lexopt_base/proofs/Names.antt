-- The lossy text of a name that is UTF-8 is the name itself.
use Rattle.std.proofs.Common.{◌≡◌, ℕ, zero, suc, List, [], ◌∷◌, ◌++◌, map, None, Some, Result, Ok, Err, OnOk, is_ok, if◌then◌else◌, IsUtf8, encode_utf8_all, refl, ap, ◌∙◌, sym, drop}
use Rattle.std.specs.declared.alloc.AllocError.{AllocError}
use Rattle.bstr.specs.Utf8.{decoded, pieces_from, or_replacement}
use Rattle.bstr.proofs.lemmas.EncodeLemmas.{lossy_chars-utf8}
use Rattle.lexopt_spec.specs.Pieces.{Piece, pieces_up_to, lossy, shown}

shown_is : (c : _) → shown c ≡ or_replacement c
shown_is c = elim c as (λ o. shown o ≡ or_replacement o) [ None ↦ refl | Some x ↦ refl ]

same_characters : (most : ℕ) (bs : List ℕ) → map (λ p. shown p.char) (pieces_up_to most bs) ≡ map (λ p. or_replacement p.char) (pieces_from most bs)
unfolding pieces_up_to pieces_from
same_characters zero bs = refl
same_characters (suc most) [] = refl
same_characters (suc most) (b ∷ bs) = ap (λ c. c ∷ map (λ (p : Piece). shown p.char) (pieces_up_to most (drop (decoded (b ∷ bs)).size (b ∷ bs)))) (shown_is (decoded (b ∷ bs)).char)
    ∙ ap (λ cs. or_replacement (decoded (b ∷ bs)).char ∷ cs) (same_characters most (drop (decoded (b ∷ bs)).size (b ∷ bs)))

pub whole_name : (bs : List ℕ) → IsUtf8 bs → lossy bs ≡ bs
whole_name bs utf8 = ap encode_utf8_all (same_characters _ bs) ∙ lossy_chars-utf8 bs utf8

-- if a name that is UTF-8 is pushed onto an empty text, the text is that name
pub kept_whole : (r : Result (Unit {0}) AllocError) (empty text name new : List ℕ) → empty ≡ [] → new ≡ (if is_ok r then empty ++ text else empty)
    → text ≡ name → IsUtf8 name → OnOk r (new ≡ lossy name)
kept_whole (Ok u) empty text name new none is same utf8 = is ∙ ap (λ l. l ++ text) none ∙ same ∙ sym (whole_name name utf8)
kept_whole (Err e) empty text name new none is same utf8 = tt
