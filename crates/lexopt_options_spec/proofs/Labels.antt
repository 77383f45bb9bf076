-- Words spell each form that a label shows.
use Rattle.lexopt_options_spec.proofs.Common.{eq-eqb, and_parts, eqb-false, not-true, All-cons, All-nil, Any-from_list_any, IsScalar, replacement, dash, equals, BeginsWith, IsPlain, IsText}
use Rattle.std.proofs.Common.{◌≡◌, ◌≢◌, ℕ, ◌<◌, ◌==◌, ◌&&◌, not, Bool, true, false, cond, List, [], ◌∷◌, ◌++◌, Option, Some, None, codes, encode_utf8, get_or-take, length-take-le, take, suc, zero, lit<, refl, sym, ap, subst, ◌∙◌, arith, inr, true≢false}
use Rattle.std.specs.Prelude.{Contains}
use Rattle.std.specs.List.{All}
use Rattle.std.proofs.lemmas.Str.{IsUtf8-append, IsUtf8-from_ascii}
use Rattle.std.specs.Str.{IsAscii, IsUtf8}
use Rattle.lexopt_line_spec.specs.Table.{short, long, Name, Item, many, option, Kind, flag, one, optional, several, Table, kind}
use Rattle.lexopt_line_spec.specs.Spelling.{After, nothing, attached, joined, no_value, joined_value, next_word, no_optional, attached_optional, joined_optional, several_words, Completes, last_option, IsAfterLast, nothing_more, a_value, IsLong, name_alone, name_and_value, cluster, long_option, no_words, group, Spells}
use Rattle.lexopt_line_spec.proofs.SpellerTests.{dash_first, no_equals}
use Rattle.lexopt_options_spec.specs.Declaration.{Declared, all_names, has_name, table, Reason, is_blank_or_control, blank_or_control_in_name, dash_name, empty_name, equals_in_name, replacement_in_name, bad_placeholder, bad_label, has, is_placeholder, short_fault, long_fault, name_fault, placeholder_fault, label_fault, have_flag, is_flag, is_nothing, is_plain_flag, is_sound, Beside, a_flag, negation, name_beside, negated}
use Rattle.lexopt_options_spec.specs.Declaration as besides
use Rattle.lexopt_options_spec.specs.Help.{LabelForm, short_flag, short_one, short_optional, short_optional_value, short_several, long_flag, long_one, long_optional, long_optional_value, long_several, flag_beside, negated_flag, short_word, long_word, HasTextNames}
use Rattle.lexopt_options_spec.proofs.Tables.{kind_of_name, long_named, short_named}
use Rattle.lexopt_options_spec.proofs.FaultLemmas.{IsFaultless, faultless_at, passes}
use Rattle.lexopt_options_spec.proofs.Sound.{names_fine}

-- ---- what a sound declaration means for one option

-- an option of a sound list, by its place
pub at_place : (options : List Declared) (o : Declared) → is_sound options ≡ true → (there : Contains options o) → IsFaultless (take there.0 options) o
at_place options o sound there = subst (λ x. IsFaultless (take there.0 options) x) there.2 (faultless_at options there.0 o sound there.1)

name_good : (options : List Declared) (o : Declared) → is_sound options ≡ true → Contains options o → (name : Name) → has_name name o ≡ true → name_fault name ≡ None
name_good options o sound there name has = names_fine (all_names o) name (at_place options o sound there).names has

no_dash : (c : ℕ) → short_fault c ≡ None → c ≢ dash
no_dash c fine is =
    let e : Some dash_name ≡ None = sym (ap (λ b. cond b (Some dash_name) (cond (c == replacement) (Some replacement_in_name) (cond (is_blank_or_control c) (Some blank_or_control_in_name) None))) (eq-eqb c dash is)) ∙ fine in cc

some_name : (name : List ℕ) → long_fault name ≡ None → name ≢ []
some_name [] fine is = let e : Some empty_name ≡ None = fine in cc
some_name (b ∷ bs) fine is = cc

free : (b : Bool) (rest : Option Reason) → cond b (Some equals_in_name) rest ≡ None → b ≡ false
free true rest e = let f : Some equals_in_name ≡ None = e in cc
free false rest e = refl

no_equals_in : (name : List ℕ) → long_fault name ≡ None → ¬ Contains name equals
no_equals_in [] fine = absurd (some_name [] fine refl)
no_equals_in (b ∷ bs) fine = no_equals (b ∷ bs) (free (has equals (b ∷ bs)) _ fine)

-- a text that can be a placeholder
record IsValue (value : List ℕ) : Type 0 where
  some : value ≢ []
  no_option : ¬ BeginsWith dash value
  no_mark : ¬ BeginsWith equals value

is_value : (value : List ℕ) → is_placeholder value ≡ true → IsValue value
is_value [] e = absurd (true≢false (sym e))
is_value (b ∷ bs) e =
    let parts = and_parts (not (b == dash)) (not (b == equals)) e in
    record { some = λ is. cc; no_option = eqb-false b dash (not-true _ parts.0); no_mark = eqb-false b equals (not-true _ parts.1) }

value_of : (k : Kind) (value : List ℕ) → placeholder_fault k value ≡ None → k ≢ flag → IsValue value
value_of flag value fine some = absurd (some refl)
value_of k value fine some = is_value value (passes (is_placeholder value) bad_placeholder fine)

one_plain : (word : List ℕ) → IsPlain false word → All (IsPlain false) (word ∷ [])
one_plain word plain = All-cons (IsPlain false) word [] plain (All-nil (IsPlain false))

-- ---- a line with only one option

-- a character, with these bytes after it in its word
short_parsed : (t : Table) (e : Bool) (c : ℕ) (value : List ℕ) (others : List (List ℕ)) (after : After) (item : Item) → IsScalar c → c ≢ dash → IsAfterLast e value after
    → Completes (kind t (short c)) (short c) after others item [] → Spells t e (short_word c value ∷ others) (item ∷ [])
short_parsed t e c value others after item scalar other behind done =
    group (short_word c value ∷ others) [] (item ∷ []) []
    (cluster (encode_utf8 c ++ value) others refl (λ begins. other (dash_first c value begins)) (last_option c (encode_utf8 c) value after item (scalar, refl) behind done))
    no_words

-- a name, with this after it in its word
long_parsed : (t : Table) (e : Bool) (name text : List ℕ) (others : List (List ℕ)) (after : After) (item : Item) → IsUtf8 name → ¬ Contains name equals → IsLong text name after
    → Completes (kind t (long name)) (long name) after others item [] → Spells t e ((dash ∷ dash ∷ text) ∷ others) (item ∷ [])
long_parsed t e name text others after item utf8 clean behind done =
    group ((dash ∷ dash ∷ text) ∷ others) [] (item ∷ []) [] (long_option text name name after item others refl behind clean (utf8, refl) done refl) no_words

-- the name of a negation is text
no_text : (name : List ℕ) → IsUtf8 name → IsUtf8 (negated name)
no_text name text = IsUtf8-append (codes "no-") name (IsUtf8-from_ascii (codes "no-") ascii) text
  where
    ascii : IsAscii (codes "no-")
    ascii zero = lit< tt
    ascii (suc zero) = lit< tt
    ascii (suc (suc zero)) = lit< tt
    ascii (suc (suc (suc i))) = lit< tt

-- the word that spells a flag
abbrev word_of : Name → List ℕ
word_of (short c) = short_word c []
word_of (long name) = long_word name

flag_spelled : (t : Table) (e : Bool) (name : Name) → IsText name → name_fault name ≡ None → kind t name ≡ flag → Spells t e (word_of name ∷ []) (option name None ∷ [])
flag_spelled t e (short c) text good is =
    short_parsed t e c [] [] nothing _ text (no_dash c good) (nothing_more refl refl)
    (subst (λ k. Completes k (short c) nothing [] (option (short c) None) []) (sym is) (no_value refl refl refl))
flag_spelled t e (long name) text good is =
    long_parsed t e name name [] nothing _ text (no_equals_in name good) (name_alone (some_name name good) refl refl)
    (subst (λ k. Completes k (long name) nothing [] (option (long name) None) []) (sym is) (no_value refl refl refl))

-- the flag that a label shows is among the options before
pub flag_there : (before : List Declared) (b : Beside) (name : Name) → b ≢ besides.nothing → label_fault before b (Some name) ≡ None → have_flag before (Some name) ≡ true
flag_there before besides.nothing name some none = absurd (some refl)
flag_there before b name some none = passes _ bad_label none

is_a_flag : (k : Kind) → is_flag k ≡ true → k ≡ flag
is_a_flag flag is = refl
is_a_flag k is = absurd (true≢false (sym is))

-- ---- the forms

module _ (options : List Declared) (o : Declared) (e : Bool) (sound : is_sound options ≡ true) (there : Contains options o) (texts : HasTextNames o) where
  fine : (name : Name) → has_name name o ≡ true → name_fault name ≡ None
  fine = name_good options o sound there

  short_kind : (c : ℕ) (k : Kind) → o.short_name ≡ Some c → o.kind ≡ k → kind (table options) (short c) ≡ k
  short_kind c k named is = kind_of_name options o sound there (short c) (short_named o c named) ∙ is

  long_kind : (name : List ℕ) (k : Kind) → o.long_name ≡ Some name → o.kind ≡ k → kind (table options) (long name) ≡ k
  long_kind name k named is = kind_of_name options o sound there (long name) (long_named o name named) ∙ is

  value : (k : Kind) → o.kind ≡ k → k ≢ flag → IsValue o.placeholder
  value k is some = value_of o.kind o.placeholder (at_place options o sound there).value (λ none. some (sym is ∙ none))

  -- a character, and what comes after it
  short_form : (c : ℕ) (k : Kind) (bytes : List ℕ) (others : List (List ℕ)) (after : After) (item : Item) → o.short_name ≡ Some c → o.kind ≡ k → IsAfterLast e bytes after
      → Completes k (short c) after others item [] → Spells (table options) e (short_word c bytes ∷ others) (item ∷ [])
  short_form c k bytes others after item named is behind done =
      short_parsed (table options) e c bytes others after item (texts.short_scalar c named) (no_dash c (fine (short c) (short_named o c named))) behind
      (subst (λ (x : Kind). Completes x (short c) after others item []) (sym (short_kind c k named is)) done)

  -- a long name, and what comes after it
  long_form : (name : List ℕ) (k : Kind) (text : List ℕ) (others : List (List ℕ)) (after : After) (item : Item) → o.long_name ≡ Some name → o.kind ≡ k → IsLong text name after
      → Completes k (long name) after others item [] → Spells (table options) e ((dash ∷ dash ∷ text) ∷ others) (item ∷ [])
  long_form name k text others after item named is behind done =
      long_parsed (table options) e name text others after item (texts.long_text name named) (no_equals_in name (fine (long name) (long_named o name named))) behind
      (subst (λ (x : Kind). Completes x (long name) after others item []) (sym (long_kind name k named is)) done)

  alone : (name : List ℕ) → o.long_name ≡ Some name → IsLong name name nothing
  alone name named = name_alone (some_name name (fine (long name) (long_named o name named))) refl refl

  attached_here : (k : Kind) → o.kind ≡ k → k ≢ flag → IsAfterLast e o.placeholder (attached o.placeholder)
  attached_here k is some = let v = value k is some in a_value v.some (λ mark. v.no_mark mark.1) refl

  only_value : {name : Name} → o.kind ≡ several → Completes several name nothing (o.placeholder ∷ []) (many name (o.placeholder ∷ [])) []
  only_value is =
      several_words (o.placeholder ∷ []) refl
      (record { words_are = refl; plain = one_plain o.placeholder (inr (inr ((value several is (λ same. cc)).no_option))); longest = λ none. none }) (λ same. cc) refl

  -- the flag that the label shows
  flag_form : (name : Name) → name_beside o.beside o.short_name o.long_name ≡ Some name → o.beside ≢ besides.nothing → IsText name → Spells (table options) e (word_of name ∷ []) (option name None ∷ [])
  flag_form name is some text =
      let before = take there.0 options in
      let among = flag_there before o.beside name some (subst (λ n. label_fault before o.beside n ≡ None) is (at_place options o sound there).label) in
      let found = Any-from_list_any (λ q. is_plain_flag q && has_name name q) before among in
      let parts = and_parts (is_plain_flag found.1) (has_name name found.1) found.4 in
      let plain = and_parts (is_flag found.1.kind) (is_nothing found.1.beside) parts.0 in
      let less : found.0 < there.0 = (let all = length-take-le there.0 options (omega (arith, there.1)) in omega (arith, found.2, all)) in
      let within : Contains options found.1 = (found.0, omega (arith, there.1, less), sym (get_or-take there.0 options found.0 found.1 less) ∙ found.3) in
      flag_spelled (table options) e name text (name_good options found.1 sound within name parts.1) (kind_of_name options found.1 sound within name parts.1 ∙ is_a_flag found.1.kind plain.0)

  pub form_spelled : (shown : List ℕ) (words : List (List ℕ)) (item : Item) → LabelForm o shown words item → Spells (table options) e words (item ∷ [])
  form_spelled shown words item (short_flag c named is) =
      short_form c flag [] [] nothing _ named is (nothing_more refl refl) (no_value refl refl refl)
  form_spelled shown words item (short_one c named is) =
      short_form c one [] (o.placeholder ∷ []) nothing _ named is (nothing_more refl refl) (next_word o.placeholder refl refl refl)
  form_spelled shown words item (short_optional c named is) =
      short_form c optional [] [] nothing _ named is (nothing_more refl refl) (no_optional refl refl refl)
  form_spelled shown words item (short_optional_value c named is) =
      short_form c optional o.placeholder [] (attached o.placeholder) _ named is (attached_here optional is (λ same. cc)) (attached_optional o.placeholder refl refl refl)
  form_spelled shown words item (short_several c named is) =
      short_form c several [] (o.placeholder ∷ []) nothing _ named is (nothing_more refl refl)
      (only_value is)
  form_spelled shown words item (long_flag name named is) =
      long_form name flag name [] nothing _ named is (alone name named) (no_value refl refl refl)
  form_spelled shown words item (long_one name named is) =
      long_form name one (name ++ equals ∷ o.placeholder) [] (joined o.placeholder) _ named is (name_and_value o.placeholder refl refl) (joined_value o.placeholder refl refl refl)
  form_spelled shown words item (long_optional name named is) =
      long_form name optional name [] nothing _ named is (alone name named) (no_optional refl refl refl)
  form_spelled shown words item (long_optional_value name named is) =
      long_form name optional (name ++ equals ∷ o.placeholder) [] (joined o.placeholder) _ named is (name_and_value o.placeholder refl refl) (joined_optional o.placeholder refl refl refl)
  form_spelled shown words item (long_several name named is) =
      long_form name several name (o.placeholder ∷ []) nothing _ named is (alone name named) (only_value is)
  form_spelled shown words item (flag_beside c name is none named) =
      flag_form (short c) (rw (is, none, named) refl) (λ same. cc) (texts.beside_scalar c is)
  form_spelled shown words item (negated_flag name is named) =
      flag_form (long (negated name)) (rw (is, named) refl) (λ same. cc) (no_text name (texts.long_text name named))
