-- Options that can be declared together can occur in legal lines.
use Rattle.std.proofs.Common.{◌≡◌, ◌≢◌, ◌==◌, ◌&&◌, encode_utf8, ℕ, zero, suc, Bool, true, false, not, List, [], ◌∷◌, ◌++◌, slice_get, Some, refl, sym, ap, subst, ◌∙◌, arith}
use Rattle.std.specs.List.{Contains}
use Rattle.std.proofs.lemmas.Bool.{and_from, eq-eqb, eqb-true, or_left, or_right}
use Rattle.std.proofs.lemmas.Option.{same_Some}
use Rattle.std.specs.Char.{IsScalar}
use Rattle.lexopt_spec.specs.Pieces.{lossy_characters}
use Rattle.lexopt_spec.specs.UnreadLine.{dash, BeginsWith}
use Rattle.lexopt_line_spec.specs.Table.{Name, short, long}
use Rattle.lexopt_line_spec.specs.Spelling.{no_words, separator}
use Rattle.lexopt_line_spec.proofs.Names.{encoded}
use Rattle.lexopt_line_spec.proofs.SpellerTests.{dash_first}
use Rattle.lexopt_options_spec.specs.Completion.{AreText, IsOpen, IsOption, IsText, spelling}
use Rattle.lexopt_options_spec.specs.Declaration.{Declaration, Declared, accepts, are_listable, has_name, index_of, is_sound}
use Rattle.lexopt_options_spec.specs.Legal.{AreApart, Parsed, option, several, positional, Means, are_same, clash, exclude, exclusive_at, is_option, most, occurs}
use Rattle.lexopt_options_spec.proofs.Listed.{list_good, value_fits, value_for}
use Rattle.lexopt_options_spec.proofs.Sound.{IsGoodName, found, good}
use Rattle.lexopt_options_spec.proofs.Occurs.{AreNamed, can_occur}
use Rattle.lexopt_laws.proofs.AnyWords.{none_filled}
use Rattle.lexopt_options_spec.proofs.Taken.{zero_within}
use Rattle.lexopt_laws.proofs.WorkedOpen.{open_of}

at_index : (options : List Declared) (o : Declared) → Contains options o → (i : ℕ) × (slice_get options i ≡ Some o)
at_index [] o (n, below, same) = absurd (omega arith)
at_index (p ∷ options) o (zero, below, same) = (0, ap (λ x. Some x) same)
at_index (p ∷ options) o (suc n, below, same) =
    let rest = at_index options o (n, omega arith, same) in
    (suc rest.0, rest.1)

pub some_value : (options : List Declared) (o : Declared) → is_sound options ≡ true → Contains options o → (value : List ℕ) × (accepts o.words value ≡ true)
some_value options o sound there =
    let here = at_index options o there in
    (value_for o.words, value_fits o.words (list_good options here.0 o sound here.1))

named : (options : List Declared) → ((o : Declared) → Contains options o → (n : Name) × (has_name n o ≡ true)) → AreNamed options
named [] names = tt
named (o ∷ options) names =
    (names o (0, omega arith, refl), named options (λ p has. names p (suc has.0, (let below = has.1 in omega arith), has.2)))

is_one : (i : ℕ) (s : Parsed) → IsOption i s → is_option i s ≡ true
is_one i (option j value) is = eq-eqb j i is
is_one i (several j values) is = eq-eqb j i is
is_one i (positional word) is = absurd is

among : (i : ℕ) (before : List Parsed) (s : Parsed) (later : List Parsed) → is_option i s ≡ true → occurs i (before ++ s ∷ later) ≡ true
among i [] s later is = or_left (is_option i s) (occurs i later) is
among i (b ∷ before) s later is = or_right (is_option i b) (occurs i (before ++ s ∷ later)) (among i before s later is)

-- nothing was read yet
open_first : (d : Declaration) → IsOpen d [] []
open_first d = open_of [] no_words (separator []) refl (zero_within (most d.positionals))

-- ---- an option has one spelling

tail_same : (b : ℕ) (xs ys : List ℕ) → b ∷ xs ≡ b ∷ ys → xs ≡ ys
tail_same b xs ys is = cc

head_same : (x y : ℕ) (xs ys : List ℕ) → x ∷ xs ≡ y ∷ ys → x ≡ y
head_same x y xs ys is = cc

one_character : (c : ℕ) → IsScalar c → lossy_characters (encode_utf8 c ++ []) ≡ c ∷ []
one_character c is = encoded (c ∷ []) (and_from _ _ is refl)

no_dashes : (c : ℕ) (name : List ℕ) → c ≢ dash → spelling (short c) ≡ spelling (long name) → ⊥
no_dashes c name other is =
    let same : encode_utf8 c ≡ dash ∷ name = tail_same dash (encode_utf8 c) (dash ∷ name) is in
    other (dash_first c [] (subst (λ l. BeginsWith dash (l ++ [])) (sym same) refl))

one_spelling : (name other : Name) → IsText name → IsText other → IsGoodName name → IsGoodName other → spelling name ≡ spelling other → name ≡ other
one_spelling (short c) (short e) text also good fine is =
    let same : encode_utf8 c ≡ encode_utf8 e = tail_same dash (encode_utf8 c) (encode_utf8 e) is in
    ap short (head_same c e [] [] (sym (one_character c text) ∙ ap (λ l. lossy_characters (l ++ [])) same ∙ one_character e also))
one_spelling (short c) (long name) text also good fine is = absurd (no_dashes c name good.0 is)
one_spelling (long name) (short e) text also good fine is = absurd (no_dashes e name fine.0 (sym is))
one_spelling (long name) (long n) text also good fine is = ap long (tail_same dash name n (tail_same dash (dash ∷ name) (dash ∷ n) is))

-- ---- a line with an option

-- one option alone excludes no other that is there
alone : (options : List Declared) (i : ℕ) → AreApart options (λ k. i == k)
alone options i = λ a b. by a b (i == a) refl (i == b) refl
  where
    none : (b : Bool) → (b && false) ≡ false
    none true = refl
    none false = refl

    by : (a b : ℕ) (one : Bool) → (i == a) ≡ one → (other : Bool) → (i == b) ≡ other → clash options (λ k. i == k) a b ≡ false
    by a b false is other too = rw is (none (exclude options a b))
    by a b true is false too = rw (is, too) (none (exclude options a b))
    by a b true is true too =
        ap (λ (same : Bool). (not same && are_same (exclusive_at options a) (exclusive_at options b)) && ((i == a) && (i == b))) (eq-eqb b a (sym (eqb-true i b too) ∙ eqb-true i a is))

pub in_a_line : (d : Declaration) (name : Name) (i : ℕ) → is_sound d.options ≡ true → are_listable d.positionals ≡ true → AreText d.options → ((o : Declared) → Contains d.options o → (n : Name) × (has_name n o ≡ true))
    → index_of d.options name ≡ Some i → (words : List (List ℕ)) × (l : List Parsed) × Means d words l × (occurs i l ≡ true)
in_a_line d name i sound good_lists text names declared =
    let made = can_occur d [] [] name i sound text (named d.options names) (open_first d) refl (none_filled d.positionals good_lists) declared (text name (found (has_name name) d.options i declared)) in
    let possible = made.0 in
    let other = text possible.name (found (has_name possible.name) d.options possible.index possible.declared) in
    let same = one_spelling name possible.name (text name (found (has_name name) d.options i declared)) other (good d.options name i sound declared)
    (good d.options possible.name possible.index sound possible.declared) possible.spelled in
    let index = same_Some possible.index i (sym possible.declared ∙ ap (index_of d.options) (sym same) ∙ declared) in (
      spelling name ∷ possible.rest,
      possible.before ++ possible.parsed ∷ possible.later,
      record { whole = possible.line_means; apart = made.3 (alone d.options i) },
      among i possible.before possible.parsed possible.later (is_one i possible.parsed (subst (λ j. IsOption j possible.parsed) index possible.is)),
    )
