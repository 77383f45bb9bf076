-- The booleans of the speller decide the propositions that they are named after.
use Rattle.std.proofs.Common.{◌≡◌, ◌≢◌, ℕ, zero, suc, ◌<◌, ◌≤◌, ◌==◌, ◌||◌, not, Bool, true, false, map, List, [], ◌∷◌, ◌++◌, length, Some, None, encode_utf8, encode_utf8_all, refl, sym, ap, subst, ◌∙◌, arith, inl, inr, true≢false}
use Rattle.std.proofs.lemmas.Bool.{eq-eqb, eqb-true, ne_eqb, or_parts}
use Rattle.std.proofs.lemmas.Str.{encode_ascii, encode_same}
use Rattle.std.proofs.lemmas.List.Folds.{list_any_at, list_any-append}
use Rattle.std.proofs.lemmas.List.Sums.{AllPass-from_list_all, list_all-from_AllPass}
use Rattle.std.specs.List.{All, list_any, list_all, Contains}
use Rattle.std.specs.Char.{IsScalar}
use Rattle.std.specs.Str.{IsUtf8}
use lib.Utf8.{scalar}
use Rattle.bstr.specs.Utf8.{Decoded, decoded}
use Rattle.bstr.proofs.lemmas.EncodeLemmas.{decoded-encode}
use Rattle.lexopt_spec.specs.Pieces.{first_piece, after_first_piece, shown, replacement, lossy, lossy_characters}
use Rattle.lexopt_spec.specs.UnreadLine.{dash, equals, BeginsWith, IsPlain, is_plain}
use Rattle.lexopt_line_spec.specs.Spelling.{damaged}
use Rattle.lexopt_spec.proofs.PieceSteps.{pieces-nil}
use Rattle.lexopt_line_spec.proofs.Exact.{contains_first, contains_more, others_of}
use Rattle.lexopt_line_spec.proofs.Letters.{read_letter}
use Rattle.lexopt_line_spec.proofs.Names.{characters, letter_scalar, shorter, step}
use Rattle.lexopt_spec.proofs.PlainFronts.{plain_holds, plain_passes}

-- ---- plain words

-- a word that is not plain begins with a dash
pub dashed : (w : List ℕ) → is_plain false w ≡ false → BeginsWith dash w
dashed [] is = absurd (true≢false is)
dashed (b ∷ []) is = absurd (true≢false is)
dashed (b ∷ c ∷ cs) is = not_other (b == dash) refl is
  where
    not_other : (t : Bool) → (b == dash) ≡ t → not t ≡ false → b ≡ dash
    not_other true same h = eqb-true b dash same
    not_other false same h = absurd (true≢false h)

pub all_plain : (ws : List (List ℕ)) → list_all (is_plain false) ws ≡ true → All (IsPlain false) ws
all_plain ws are = λ k d within. plain_holds false _ (AllPass-from_list_all (is_plain false) ws are k d within)

pub all_pass : (ws : List (List ℕ)) → All (IsPlain false) ws → list_all (is_plain false) ws ≡ true
all_pass ws are = list_all-from_AllPass (is_plain false) ws (λ k d within. plain_passes false _ (are k d within))

-- ---- names

abbrev pub has_equals : List ℕ → Bool
has_equals name = list_any (λ b. b == equals) name

pub no_equals : (name : List ℕ) → has_equals name ≡ false → ¬ Contains name equals
no_equals name none has = true≢false (sym (list_any_at (λ b. b == equals) name has.0 equals has.1 (eq-eqb _ equals has.2)) ∙ none)

pub none_passes : (name : List ℕ) → ¬ Contains name equals → has_equals name ≡ false
none_passes [] none = refl
none_passes (b ∷ bs) none =
    ap (λ x. x || has_equals bs) (ne_eqb b equals (λ is. none (subst (λ x. Contains (x ∷ bs) equals) (sym is) (contains_first bs))))
    ∙ none_passes bs (λ has. none (contains_more b bs has))

-- ---- characters

cut : (bs : List ℕ) → BeginsWith dash bs → bs ≡ dash ∷ others_of bs
cut [] begins = absurd begins
cut (b ∷ bs) begins = ap (λ x. x ∷ bs) begins

-- a character whose bytes begin with a dash is a dash
pub dash_first : (c : ℕ) (after : List ℕ) → BeginsWith dash (encode_utf8 c ++ after) → c ≡ dash
dash_first c after begins =
    let bytes = encode_utf8 c ++ after in
    (encode_same c dash after (others_of bytes) (cut bytes begins ∙ ap (λ l. l ++ others_of bytes) (sym (encode_ascii dash (omega arith))))).0

pub dash_begins : (c : ℕ) (after : List ℕ) → c ≡ dash → BeginsWith dash (encode_utf8 c ++ after)
dash_begins c after is =
    subst (λ (x : ℕ). BeginsWith dash (encode_utf8 x ++ after)) (sym is)
    (subst (λ (l : List ℕ). BeginsWith dash (l ++ after)) (sym (encode_ascii dash (omega arith))) refl)

pub some_bytes : (c : ℕ) (after : List ℕ) → IsScalar c → encode_utf8 c ++ after ≢ []
some_bytes c after scalar none =
    let read : (decoded []).char ≡ Some c = ap (λ l. (decoded l).char) (sym none) ∙ ap (λ (p : Decoded). p.char) (decoded-encode c after scalar) in
    let e : None ≡ Some c = read in cc

-- ---- the bytes that represent a character or a name

-- bytes that represent a dash begin with one
pub letter_dash : (c : ℕ) (bytes after : List ℕ) → damaged.character c bytes after → c ≡ dash → BeginsWith dash (bytes ++ after)
letter_dash c bytes after (inl is) same = subst (λ (l : List ℕ). BeginsWith dash (l ++ after)) (sym is.1) (dash_begins c after same)
letter_dash c bytes after (inr is) same = absurd (let e : replacement ≡ dash = sym is.0 ∙ same in omega arith)

-- a character has an `=` only if the bytes that represent it have one
letter_none : (c : ℕ) (bytes after : List ℕ) → damaged.character c bytes after → has_equals bytes ≡ false → has_equals (encode_utf8 c) ≡ false
unfolding lib.Utf8.encode
letter_none c bytes after (inl is) none = ap has_equals (sym is.1) ∙ none
letter_none c bytes after (inr is) none = ap (λ x. has_equals (encode_utf8 x)) is.0

lossy_none : (n : ℕ) (bs : List ℕ) → length bs ≤ n → has_equals bs ≡ false → has_equals (lossy bs) ≡ false
lossy_none n [] le none = ap (λ ps. has_equals (encode_utf8_all (map (λ p. shown p.char) ps))) pieces-nil
lossy_none zero (b ∷ bs) le none = absurd (omega arith)
lossy_none (suc n) (b ∷ bs) le none =
    let all = b ∷ bs in
    let some : 0 < length all = omega arith in
    let letter = read_letter all some in
    let c = shown (first_piece all).char in
    let later = after_first_piece all in
    let both : (has_equals (first_piece all).bytes || has_equals later) ≡ false =
    sym (list_any-append (λ b. b == equals) (first_piece all).bytes later) ∙ ap has_equals letter.whole ∙ none in
    ap (λ cs. has_equals (encode_utf8_all cs)) (step all some)
    ∙ list_any-append (λ b. b == equals) (encode_utf8 c) (lossy later)
    ∙ ap (λ x. x || has_equals (lossy later)) (letter_none c (first_piece all).bytes later letter.letter (or_parts _ _ both).0)
    ∙ lossy_none n later (shorter all n some le) (or_parts _ _ both).1

pub lossy_text : (bs : List ℕ) → IsUtf8 (lossy bs)
lossy_text bs = (lossy_characters bs, (characters (length bs) bs (omega arith), refl))

pub lossy_free : (bs : List ℕ) → ¬ Contains bs equals → has_equals (lossy bs) ≡ false
lossy_free bs none = lossy_none (length bs) bs (omega arith) (none_passes bs none)

pub lossy_some : (bs : List ℕ) → bs ≢ [] → lossy bs ≢ []
lossy_some [] some = absurd (some refl)
lossy_some (b ∷ bs) some = λ nil.
    let within : 0 < length (b ∷ bs) = omega arith in
    let letter = read_letter (b ∷ bs) within in
    some_bytes (shown (first_piece (b ∷ bs)).char) (lossy (after_first_piece (b ∷ bs))) (letter_scalar _ _ _ letter.letter)
    (sym (ap encode_utf8_all (step (b ∷ bs) within)) ∙ nil)
