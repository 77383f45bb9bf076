-- Damage in worked examples: what is shown as U+FFFD, and words that spell nothing.
use Rattle.std.proofs.Common.{◌≡◌, ◌≢◌, ℕ, Bool, false, List, [], ◌∷◌, ◌++◌, Some, None, encode_utf8, encode_utf8_all, length, refl, sym, ap, subst, ◌∙◌, arith, inr, true≢false, cond}
use Rattle.std.proofs.lemmas.Bool.{and_parts, ne_eqb}
use lib.Utf8.{scalar, scalars}
use Rattle.std.specs.Char.{IsScalar}
use Rattle.std.specs.Str.{IsUtf8}
use Rattle.bstr.specs.Utf8.{Decoded, bad, decoded}
use Rattle.bstr.proofs.lemmas.EncodeLemmas.{decoded-encode}
use Rattle.lexopt_spec.specs.Pieces.{replacement}
use Rattle.lexopt_spec.specs.UnreadLine.{dash, equals, BeginsWith, IsPlain}
use Rattle.lexopt_line_spec.specs.Table.{Item, Table}
use Rattle.lexopt_line_spec.specs.Spelling as spelling
use Rattle.lexopt_line_spec.specs.Spelling.{exact, damaged, After, Cluster, flag_first, last_option, Group, cluster, Line, no_words, plain_word, group, IsLong, name_alone, name_and_value}
use Rattle.lexopt_spec.proofs.PlainFronts.{plain_passes}
use Rattle.lexopt_spec.proofs.Fronts.{decoded_is_first}

-- a damaged piece, with these bytes after it, is shown as U+FFFD
pub damage_of : (b : ℕ) (bs after : List ℕ) → decoded (b ∷ bs ++ after) ≡ bad (length (b ∷ bs)) → damaged.character replacement (b ∷ bs) after
damage_of b bs after is = inr (refl, decoded_is_first (b ∷ bs ++ after) (bad (length (b ∷ bs))) (omega arith) is)

-- no UTF-8 begins with FF
ff_is_damage : (bs : List ℕ) → (decoded (0xFF ∷ bs)).char ≡ None
ff_is_damage bs = ap (λ (t : Bool). (cond t (bad 0) (bad 1)).char) (ne_eqb (length (0xFF ∷ bs)) 0 (omega arith))

ff_no_character : (c : ℕ) (bytes after bs : List ℕ) → IsScalar c → bytes ≡ encode_utf8 c → bytes ++ after ≡ 0xFF ∷ bs → ⊥
ff_no_character c bytes after bs scalar is all =
    let read : (decoded (0xFF ∷ bs)).char ≡ Some c =
    ap (λ l. (decoded l).char) (sym all ∙ ap (λ l. l ++ after) is) ∙ ap (λ (p : Decoded). p.char) (decoded-encode c after scalar) in
    let e : None ≡ Some c = sym (ff_is_damage bs) ∙ read in cc

ff_no_text : (bs : List ℕ) → IsUtf8 (0xFF ∷ bs) → ⊥
ff_no_text bs ([], (scalars_are, is)) = let e : [] ≡ 0xFF ∷ bs = is in cc
ff_no_text bs (c ∷ cs, (scalars_are, is)) = ff_no_character c (encode_utf8 c) (encode_utf8_all cs) bs (and_parts (scalar c) (scalars cs) scalars_are).0 refl is

ff_no_cluster : (t : Table) (short_equals : Bool) (words left : List (List ℕ)) (bytes bs : List ℕ) (items : List Item) → bytes ≡ 0xFF ∷ bs → Cluster exact t short_equals words left bytes items → ⊥
ff_no_cluster t short_equals words left bytes bs items is (flag_first c character others more letter k no_mark spelled) = ff_no_character c character others bs letter.0 letter.1 is
ff_no_cluster t short_equals words left bytes bs items is (last_option c character others after item letter ends completes) = ff_no_character c character others bs letter.0 letter.1 is

ff_no_name : (text bytes bs : List ℕ) (after : After) → text ≡ 0xFF ∷ bs → IsLong text bytes after → IsUtf8 bytes → ⊥
ff_no_name text bytes bs after is (name_alone one same none) utf8 = ff_no_text bs (subst IsUtf8 (sym same ∙ is) utf8)
ff_no_name text [] bs after is (name_and_value v same marked) utf8 = let e : equals ∷ v ≡ 0xFF ∷ bs = sym same ∙ is in let f : equals ≡ 0xFF = cc in absurd (omega arith)
ff_no_name text (b ∷ more) bs after is (name_and_value v same marked) utf8 =
    let e : b ∷ (more ++ equals ∷ v) ≡ 0xFF ∷ bs = sym same ∙ is in
    let f : b ≡ 0xFF = cc in
    ff_no_text more (subst (λ (x : ℕ). IsUtf8 (x ∷ more)) f utf8)

-- no item is spelled by a word that begins with a dash and FF
ff_no_group : (t : Table) (short_equals : Bool) (words others left : List (List ℕ)) (items : List Item) (bs : List ℕ) → words ≡ (dash ∷ 0xFF ∷ bs) ∷ others → Group exact t short_equals words items left → ⊥
ff_no_group t short_equals words others left items bs is (cluster bytes rest are other spelled) =
    let e : (dash ∷ bytes) ∷ rest ≡ (dash ∷ 0xFF ∷ bs) ∷ others = sym are ∙ is in
    let same : bytes ≡ 0xFF ∷ bs = cc in
    ff_no_cluster t short_equals rest left bytes bs items same spelled
ff_no_group t short_equals words others left items bs is (spelling.long_option text bytes name after item rest are cut none letters completes item_is) =
    let e : (dash ∷ dash ∷ text) ∷ rest ≡ (dash ∷ 0xFF ∷ bs) ∷ others = sym are ∙ is in
    let same : dash ≡ 0xFF = cc in
    absurd (omega arith)

-- nor by one that begins with two dashes and FF
ff_no_long : (t : Table) (short_equals : Bool) (words others left : List (List ℕ)) (items : List Item) (bs : List ℕ) → words ≡ (dash ∷ dash ∷ 0xFF ∷ bs) ∷ others
    → Group exact t short_equals words items left → ⊥
ff_no_long t short_equals words others left items bs is (cluster bytes rest are other spelled) =
    let e : (dash ∷ bytes) ∷ rest ≡ (dash ∷ dash ∷ 0xFF ∷ bs) ∷ others = sym are ∙ is in
    let same : bytes ≡ dash ∷ 0xFF ∷ bs = cc in
    other (subst (BeginsWith dash) (sym same) refl)
ff_no_long t short_equals words others left items bs is (spelling.long_option text bytes name after item rest are cut none letters completes item_is) =
    let e : (dash ∷ dash ∷ text) ∷ rest ≡ (dash ∷ dash ∷ 0xFF ∷ bs) ∷ others = sym are ∙ is in
    let same : text ≡ 0xFF ∷ bs = cc in
    ff_no_name text bytes bs after same cut (subst IsUtf8 (sym letters.1) letters.0)

-- a line whose first word is an option is spelled by a group
option_line : (t : Table) (short_equals : Bool) (words : List (List ℕ)) (items : List Item) (w : List ℕ) (others : List (List ℕ)) → words ≡ w ∷ others
    → ¬ IsPlain false w → w ≢ dash ∷ dash ∷ []
    → ((left : List (List ℕ)) (front : List Item) → Group exact t short_equals words front left → ⊥) → Line exact t short_equals words items → ⊥
option_line t short_equals words items w others is plain separator none no_words = let e : [] ≡ w ∷ others = is in cc
option_line t short_equals words items w others is plain separator none (plain_word word more rest word_plain line) =
    let e : word ∷ more ≡ w ∷ others = is in
    let same : word ≡ w = cc in
    plain (subst (IsPlain false) same word_plain)
option_line t short_equals words items w others is plain separator none (group all left front rest first line) = none left front first
option_line t short_equals words items w others is plain separator none (spelling.separator rest) =
    let e : (dash ∷ dash ∷ []) ∷ rest ≡ w ∷ others = is in
    let same : dash ∷ dash ∷ [] ≡ w = cc in
    separator (sym same)

pub ff_not_spelled : (t : Table) (short_equals : Bool) (others : List (List ℕ)) (bs : List ℕ) (items : List Item) → Line exact t short_equals ((dash ∷ 0xFF ∷ bs) ∷ others) items → ⊥
ff_not_spelled t short_equals others bs items line = option_line t short_equals ((dash ∷ 0xFF ∷ bs) ∷ others) items (dash ∷ 0xFF ∷ bs) others refl
    (λ plain. true≢false (sym (plain_passes false (dash ∷ 0xFF ∷ bs) plain)))
    (λ is. let e : dash ∷ 0xFF ∷ bs ≡ dash ∷ dash ∷ [] = is in let same : 0xFF ≡ dash = cc in absurd (omega arith))
    (λ left front first. ff_no_group t short_equals ((dash ∷ 0xFF ∷ bs) ∷ others) others left front bs refl first) line

pub ff_name_not_spelled : (t : Table) (short_equals : Bool) (others : List (List ℕ)) (bs : List ℕ) (items : List Item) → Line exact t short_equals ((dash ∷ dash ∷ 0xFF ∷ bs) ∷ others) items → ⊥
ff_name_not_spelled t short_equals others bs items line = option_line t short_equals ((dash ∷ dash ∷ 0xFF ∷ bs) ∷ others) items (dash ∷ dash ∷ 0xFF ∷ bs) others refl
    (λ plain. true≢false (sym (plain_passes false (dash ∷ dash ∷ 0xFF ∷ bs) plain)))
    (λ is. let e : dash ∷ dash ∷ 0xFF ∷ bs ≡ dash ∷ dash ∷ [] = is in cc)
    (λ left front first. ff_no_long t short_equals ((dash ∷ dash ∷ 0xFF ∷ bs) ∷ others) others left front bs refl first) line
