-- Numbers in scripts.
use Rattle.std.proofs.Common.{◌≡◌, ◌≢◌, ◌<◌, ◌≤◌, ◌^◌, ◌==◌, ◌&&◌, ℕ, Bool, true, false, nat_le, List, [], ◌∷◌, length, get_or, Some, None, Result, Ok, Err, MatchResult, IsUtf8, if◌then◌else◌, refl, sym, ap, subst, ◌∙◌, arith, true≢false}
use Rattle.std.specs.Str.{all_ascii_digits}
use Rattle.std.specs.Str.Parse.{ParsesUnsigned, IsNumeral, digits_value, without_leading_plus}
use Rattle.std.specs.Result.{result_ok}
use Rattle.std.specs.List.{starts_with}
use Rattle.std.proofs.lemmas.Fmt.{IsAscii-from_digits}
use Rattle.std.proofs.lemmas.Str.{IsUtf8-from_ascii}
use Rattle.std.proofs.lemmas.Str.Parse.{IsNumeralModel, numerals_by_value, tells_all_ascii_digits, digits_value_short, without_leading_plus_none}
use Rattle.lexopt_calls.specs.Script.{number}
use borrow.Author.Tests.{leb-true, le-leb}

model : IsNumeralModel (λ ds. all_ascii_digits ds ≡ true) (digits_value 10)
model = numerals_by_value (λ ds. all_ascii_digits ds ≡ true) tells_all_ascii_digits

none_of : (a b c : Bool) (n : ℕ) → (a ≡ true → b ≡ true → c ≡ true → ⊥) → (if a && (b && c) then Some n else None) ≡ None
none_of true true true n other = absurd (other refl refl refl)
none_of true true false n other = refl
none_of true false c n other = refl
none_of false b c n other = refl

some_of : (a b c : Bool) (n : ℕ) → a ≡ true → b ≡ true → c ≡ true → (if a && (b && c) then Some n else None) ≡ Some n
some_of a b c n is_a is_b is_c = rw (is_a, is_b, is_c) refl

-- bytes that are not UTF-8 are not a number
pub no_text : (bs : List ℕ) → (IsUtf8 bs → ⊥) → number bs ≡ None
no_text bs other =
    none_of (nat_le 1 (length bs)) (nat_le (length bs) 9) (all_ascii_digits bs) (digits_value 10 bs)
    (λ a b digits. other (IsUtf8-from_ascii bs (IsAscii-from_digits bs (model.to bs digits))))

no_plus : (bs : List ℕ) → starts_with ◌==◌ bs (43 ∷ []) ≡ false → get_or bs 0 0 ≢ 43
no_plus [] other is = omega arith
no_plus (b ∷ bs) other is = let e : starts_with ◌==◌ (b ∷ bs) (43 ∷ []) ≡ true = rw is refl in true≢false (sym e ∙ other)

parsed : {E : Type 0} (bs : List ℕ) (r : Result ℕ E) → length bs ≤ 9 → without_leading_plus bs ≡ bs → ParsesUnsigned 64 10 bs r → result_ok r ≡ number bs
parsed bs (Ok n) short same parses =
    let numeral = subst (λ l. IsNumeral 10 l) same parses.0.0 in
    let some = some_of (nat_le 1 (length bs)) (nat_le (length bs) 9) (all_ascii_digits bs) (digits_value 10 bs) (le-leb 1 (length bs) numeral.0) (le-leb (length bs) 9 short)
    (model.from bs numeral.1) in
    ap Some (parses.1 ∙ ap (digits_value 10) same) ∙ sym some
parsed bs (Err e) short same parses =
    sym (none_of (nat_le 1 (length bs)) (nat_le (length bs) 9) (all_ascii_digits bs) (digits_value 10 bs) (λ one nine digits.
    let least : 1 ≤ length bs = leb-true 1 (length bs) one in
    let below = digits_value_short model bs 9 digits short in
    let fits : digits_value 10 bs < 2 ^ 64 = omega arith in
    parses ((subst (λ l. IsNumeral 10 l) (sym same) (least, model.to bs digits)), subst (λ l. digits_value 10 l < 2 ^ 64) (sym same) fits)))

-- a text of at most nine bytes without a plus at its front is read as its number
pub number_read : {E : Type 0} (bs : List ℕ) (r : Result ℕ E) → length bs ≤ 9 → starts_with ◌==◌ bs (43 ∷ []) ≡ false → ParsesUnsigned 64 10 bs r → result_ok r ≡ number bs
number_read bs r short other parses = parsed bs r short (without_leading_plus_none bs (no_plus bs other)) parses

-- ---- results, by their variant

pub is_value : {T E : Type 0} (P : T → Type 0) (Q : E → Type 0) (r : Result T E) (x : T) → MatchResult r P Q → result_ok r ≡ Some x → P x
is_value P Q (Ok y) x met is = let same : y ≡ x = cc in subst P same met
is_value P Q (Err e) x met is = let none : None ≡ Some x = is in cc

pub is_error : {T E : Type 0} (P : T → Type 0) (R : Type 0) (Q : E → Type 0) (r : Result T E) → MatchResult r P (λ e. R × Q e) → result_ok r ≡ None → R
is_error P R Q (Ok y) met is = let some : Some y ≡ None = is in cc
is_error P R Q (Err e) met is = met.0
