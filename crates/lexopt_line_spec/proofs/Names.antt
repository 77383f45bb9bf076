-- The words that spell items, and the words that show them.
use Rattle.std.proofs.Common.{◌≡◌, ◌≢◌, ℕ, zero, suc, ◌<◌, ◌≤◌, Bool, true, List, [], ◌∷◌, ◌++◌, length, map, Option, Some, None, encode_utf8, encode_utf8_all, refl, sym, ap, subst, ◌∙◌, arith, inl, inr, ⊎_elim, length-drop}
use Rattle.std.proofs.lemmas.Bool.{and_parts}
use Rattle.std.specs.Str.{IsUtf8}
use Rattle.std.specs.List.{Contains}
use lib.Utf8.{scalar, scalars}
use Rattle.bstr.specs.Utf8.{decoded}
use Rattle.bstr.proofs.lemmas.PieceLemmas.{piece-bounds}
use Rattle.lexopt_spec.specs.Pieces.{first_piece, after_first_piece, shown, replacement, lossy, lossy_characters}
use Rattle.lexopt_line_spec.specs.Table.{Name, short, long, Item, option, positional, Kind, many, flag, one, optional, several, kind, Table}
use Rattle.lexopt_line_spec.specs.Spelling as spelling
use Rattle.lexopt_line_spec.specs.Spelling.{Letters, exact, damaged, After, Completes, no_value, no_optional, attached_optional, joined_optional, joined_several, attached_several, several_words, attached_value, joined_value, next_word, Cluster, flag_first, last_option, Group, cluster, Line, no_words, plain_word, group, separator, Spells, Shows, IsWholeName, HaveNames, HaveWholeNames}
use Rattle.lexopt_spec.proofs.PieceSteps.{pieces-nil, pieces-step}
use Rattle.lexopt_line_spec.proofs.Letters.{exact_read, read_letter}

-- ---- UTF-8 and its characters

pub step : (bs : List ℕ) → 0 < length bs → lossy_characters bs ≡ shown (first_piece bs).char ∷ lossy_characters (after_first_piece bs)
step bs some = ap (map (λ p. shown p.char)) (pieces-step bs some)

pub some_bytes : (bs : List ℕ) → bs ≢ [] → 0 < length bs
some_bytes [] some = absurd (some refl)
some_bytes (b ∷ bs) some = omega arith

-- the characters of UTF-8
pub encoded : (cs : List ℕ) → scalars cs ≡ true → lossy_characters (encode_utf8_all cs) ≡ cs
encoded [] is = ap (map (λ p. shown p.char)) pieces-nil
encoded (c ∷ cs) is =
    let scalar_and = and_parts (scalar c) (scalars cs) is in
    let read = exact_read c (encode_utf8 c) (encode_utf8_all cs) scalar_and.0 refl in
    step (encode_utf8_all (c ∷ cs)) (some_bytes (encode_utf8_all (c ∷ cs)) read.some)
    ∙ ap (λ x. x ∷ lossy_characters (after_first_piece (encode_utf8_all (c ∷ cs)))) read.is
    ∙ ap (λ l. c ∷ lossy_characters l) read.after
    ∙ ap (λ l. c ∷ l) (encoded cs scalar_and.1)

pub shorter : (bs : List ℕ) (n : ℕ) → 0 < length bs → length bs ≤ suc n → length (after_first_piece bs) ≤ n
shorter bs n some le = let bounds = piece-bounds bs some in let left = length-drop (decoded bs).size bs in omega arith

joined : (c : ℕ) (cs : List ℕ) → scalar c ≡ true → scalars cs ≡ true → scalars (c ∷ cs) ≡ true
joined c cs a b = rw a b

pub letter_scalar : (c : ℕ) (bytes after : List ℕ) → damaged.character c bytes after → scalar c ≡ true
letter_scalar c bytes after (inl is) = is.0
letter_scalar c bytes after (inr is) = subst (λ (x : ℕ). scalar x ≡ true) (sym is.0) refl

-- lossy text has only characters
pub characters : (n : ℕ) (bs : List ℕ) → length bs ≤ n → scalars (lossy_characters bs) ≡ true
characters n [] le = ap (λ ps. scalars (map (λ p. shown p.char) ps)) pieces-nil
characters zero (b ∷ bs) le = absurd (omega arith)
characters (suc n) (b ∷ bs) le =
    let some : 0 < length (b ∷ bs) = omega arith in
    let letter = read_letter (b ∷ bs) some in
    ap scalars (step (b ∷ bs) some) ∙ joined (shown (first_piece (b ∷ bs)).char) (lossy_characters (after_first_piece (b ∷ bs))) (letter_scalar _ _ _ letter.letter)
    (characters n (after_first_piece (b ∷ bs)) (shorter (b ∷ bs) n some le))

pub contains_first : (c : ℕ) (cs : List ℕ) → Contains (c ∷ cs) c
contains_first c cs = (0, omega arith, refl)

contains_more : (c x : ℕ) (cs : List ℕ) → Contains cs c → Contains (x ∷ cs) c
contains_more c x cs has = (suc has.0, omega (arith, has.1), has.2)

-- bytes that have no U+FFFD in their lossy text are UTF-8
undamaged : (n : ℕ) (bs : List ℕ) → length bs ≤ n → ¬ Contains (lossy_characters bs) replacement → encode_utf8_all (lossy_characters bs) ≡ bs
undamaged n [] le none = ap (λ ps. encode_utf8_all (map (λ p. shown p.char) ps)) pieces-nil
undamaged zero (b ∷ bs) le none = absurd (omega arith)
undamaged (suc n) (b ∷ bs) le none =
    let all = b ∷ bs in
    let some : 0 < length all = omega arith in
    let letter = read_letter all some in
    let c = shown (first_piece all).char in
    let later = after_first_piece all in
    let split = step all some in
    let none_later : ¬ Contains (lossy_characters later) replacement =
    λ has. none (subst (λ (l : List ℕ). Contains l replacement) (sym split) (contains_more replacement c (lossy_characters later) has)) in
    let first : (first_piece all).bytes ≡ encode_utf8 c = ⊎_elim
    (λ is. is.1)
    (λ is. absurd (none (subst (λ (l : List ℕ). Contains l replacement) (sym split)
    (subst (λ (x : ℕ). Contains (x ∷ lossy_characters later) replacement) (sym is.0) (contains_first replacement (lossy_characters later))))))
    letter.letter in
    ap encode_utf8_all split ∙ ap (λ l. encode_utf8 c ++ l) (undamaged n later (shorter all n some le) none_later)
    ∙ ap (λ l. l ++ later) (sym first) ∙ letter.whole

name_exact : (name bytes : List ℕ) → lossy bytes ≡ name → ¬ Contains (lossy_characters name) replacement → IsUtf8 name × (bytes ≡ name)
name_exact name bytes is none =
    let cs = lossy_characters bytes in
    let scalars_are = characters (length bytes) bytes (omega arith) in
    let same : lossy_characters name ≡ cs = ap lossy_characters (sym is) ∙ encoded cs scalars_are in
    ((cs, (scalars_are, is)), sym (undamaged (length bytes) bytes (omega arith) (subst (λ (l : List ℕ). ¬ Contains l replacement) same none)) ∙ is)

name_damaged : (name bytes : List ℕ) → IsUtf8 name → bytes ≡ name → lossy bytes ≡ name
name_damaged name bytes utf8 is =
    ap lossy (is ∙ sym utf8.1.1) ∙ ap encode_utf8_all (encoded utf8.0 utf8.1.0) ∙ utf8.1.1

-- ---- from one set of letters to another

pub record Carries (A B : Letters) (P : Name → Type 0) : Type 0 where
  pub characters : (c : ℕ) (bytes after : List ℕ) → P (short c) → A.character c bytes after → B.character c bytes after
  pub names : (name bytes : List ℕ) → P (long name) → A.name name bytes → B.name name bytes

named : (P : Name → Type 0) (name : Name) (value : Option (List ℕ)) (item : Item) (others : List Item) → item ≡ option name value → HaveNames P (item ∷ others) → P name
named P name value item others is have = (subst (λ (x : Item). HaveNames P (x ∷ others)) is have).0

completes_named : (P : Name → Type 0) (k : Kind) (name : Name) (after : After) (words left : List (List ℕ)) (item : Item) (others : List Item)
    → Completes k name after words item left → HaveNames P (item ∷ others) → P name
completes_named P flag name after words left item others (no_value b i l) have = named P name None item others i have
completes_named P one name after words left item others (attached_value v b i l) have = named P name (Some v) item others i have
completes_named P one name after words left item others (joined_value v b i l) have = named P name (Some v) item others i have
completes_named P one name after words left item others (next_word w b i l) have = named P name (Some w) item others i have
completes_named P optional name after words left item others (no_optional b i l) have = named P name None item others i have
completes_named P optional name after words left item others (attached_optional v b i l) have = named P name (Some v) item others i have
completes_named P optional name after words left item others (joined_optional v b i l) have = named P name (Some v) item others i have
completes_named P several name after words left item others (joined_several v b i l) have = (subst (λ (x : Item). HaveNames P (x ∷ others)) i have).0
completes_named P several name after words left item others (attached_several v f b g i) have = (subst (λ (x : Item). HaveNames P (x ∷ others)) i have).0
completes_named P several name after words left item others (several_words f b g some i) have = (subst (λ (x : Item). HaveNames P (x ∷ others)) i have).0

cluster_carried : (A B : Letters) (P : Name → Type 0) → Carries A B P → (t : Table) (short_equals : Bool) (words left : List (List ℕ)) (bytes : List ℕ) (items : List Item)
    → Cluster A t short_equals words left bytes items → HaveNames P items → Cluster B t short_equals words left bytes items
cluster_carried A B P carries t short_equals words left bytes items (flag_first c character others more letter k no_mark spelled) have =
    flag_first c character others more (carries.characters c character others have.0 letter) k no_mark
    (cluster_carried A B P carries t short_equals words left others more spelled have.1)
cluster_carried A B P carries t short_equals words left bytes items (last_option c character others after item letter ends completes) have =
    last_option c character others after item
    (carries.characters c character others (completes_named P (kind t (short c)) (short c) after words left item [] completes have) letter) ends completes

group_carried : (A B : Letters) (P : Name → Type 0) → Carries A B P → (t : Table) (short_equals : Bool) (words : List (List ℕ)) (items : List Item) (left : List (List ℕ))
    → Group A t short_equals words items left → HaveNames P items → Group B t short_equals words items left
group_carried A B P carries t short_equals words items left (cluster bytes others are other spelled) have =
    cluster bytes others are other (cluster_carried A B P carries t short_equals others left bytes items spelled have)
group_carried A B P carries t short_equals words items left (spelling.long_option text bytes name after item others are is none letters completes item_is) have =
    spelling.long_option text bytes name after item others are is none
    (carries.names name bytes (completes_named P (kind t (long name)) (long name) after others left item [] completes (subst (HaveNames P) item_is have)) letters) completes item_is

names_split : (P : Name → Type 0) (xs ys : List Item) → HaveNames P (xs ++ ys) → HaveNames P xs × HaveNames P ys
names_split P [] ys have = (tt, have)
names_split P (option name value ∷ xs) ys have = let more = names_split P xs ys have.1 in ((have.0, more.0), more.1)
names_split P (many name values ∷ xs) ys have = let more = names_split P xs ys have.1 in ((have.0, more.0), more.1)
names_split P (positional word ∷ xs) ys have = names_split P xs ys have

line_carried : (A B : Letters) (P : Name → Type 0) → Carries A B P → (t : Table) (short_equals : Bool) (words : List (List ℕ)) (items : List Item)
    → Line A t short_equals words items → HaveNames P items → Line B t short_equals words items
line_carried A B P carries t short_equals words items no_words have = no_words
line_carried A B P carries t short_equals words items (plain_word w ws others plain line) have =
    plain_word w ws others plain (line_carried A B P carries t short_equals ws others line have)
line_carried A B P carries t short_equals words items (group ws left front others first line) have =
    let names = names_split P front others have in
    group ws left front others (group_carried A B P carries t short_equals ws front left first names.0) (line_carried A B P carries t short_equals left others line names.1)
line_carried A B P carries t short_equals words items (separator ws) have = separator ws

-- ---- words spell what they show, if names are whole; and they show what they spell

pub shown_spells : (t : Table) (short_equals : Bool) (words : List (List ℕ)) (items : List Item) → Shows t short_equals words items → HaveWholeNames items → Spells t short_equals words items
shown_spells t short_equals words items shows whole = line_carried damaged exact IsWholeName
    (record {
      characters = λ c bytes after other letter. ⊎_elim (λ is. is) (λ is. absurd (other is.0)) letter;
      names = λ name bytes none is. name_exact name bytes is none;
    })
    t short_equals words items shows whole

any_names : (items : List Item) → HaveNames (λ name. Unit {0}) items
any_names [] = tt
any_names (option name value ∷ items) = (tt, any_names items)
any_names (many name values ∷ items) = (tt, any_names items)
any_names (positional word ∷ items) = any_names items

pub spelled_shows : (t : Table) (short_equals : Bool) (words : List (List ℕ)) (items : List Item) → Spells t short_equals words items → Shows t short_equals words items
spelled_shows t short_equals words items spells = line_carried exact damaged (λ name. Unit {0})
    (record { characters = λ c bytes after any is. inl is; names = λ name bytes any is. name_damaged name bytes is.0 is.1 })
    t short_equals words items spells (any_names items)
