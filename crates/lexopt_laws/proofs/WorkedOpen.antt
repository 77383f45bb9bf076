-- What can come after short lines.
use Rattle.std.proofs.Common.{Bool, not, ◌≡◌, ℕ, ◌==◌, ◌||◌, true, false, List, [], ◌∷◌, ◌++◌, filter, map, Some, None, codes, refl, sym, ap, subst, ◌∙◌, true≢false, lit≤}
use Rattle.std.specs.Prelude.{Contains}
use Rattle.std.specs.Char.{IsScalar}
use Rattle.std.specs.Str.{IsUtf8, is_utf8}
use Rattle.std.specs.List.{list_any}
use Rattle.std.specs.Cmp.Lexicographic.{pointwise}
use Rattle.std.proofs.Math.Bool.{or-false}
use Rattle.std.proofs.lemmas.Bool.{eqb-true, not-true}
use Rattle.std.proofs.lemmas.List.Folds.{list_any_at}
use Rattle.std.proofs.lemmas.Str.{is_utf8-from_IsUtf8, IsUtf8-from_is_utf8}
use Rattle.lexopt_spec.specs.UnreadLine.{dash}
use Rattle.lexopt_line_spec.specs.Table as spec
use Rattle.lexopt_line_spec.specs.Table.{Item, Name, short, long, kind}
use Rattle.lexopt_line_spec.specs.Spelling.{Spells, nothing, no_value, next_word, no_optional, several_words, nothing_more, no_words, separator}
use Rattle.lexopt_line_spec.proofs.Computing.{computing}
use Rattle.lexopt_line_spec.proofs.Worked.{last_of, cluster_line, plain_front_is, some}
use Rattle.lexopt_options_spec.specs.Declaration.{Declaration, Declared, all_names, has_name, is_name, is_one_of, table}
use Rattle.lexopt_options_spec.specs.Legal.{Parsed, exclude, occurs, option, several, parsed_item, positional_count, most, IsWithin}
use Rattle.lexopt_options_spec.specs.Completion.{AreText, CanOccur, Completes, IsOpen, IsText, Spelled, is_free, is_offered, spellings, spellings_if, texts}
use Rattle.lexopt_options_spec.proofs.Offered.{completes_offered, occurs_offered}
use Rattle.lexopt_options_spec.proofs.Sound.{either}
use Rattle.lexopt_options_spec.proofs.Occurs.{AreNamed}
use Rattle.lexopt_options_spec.proofs.Tables.{name_is, pointwise_refl}
use Rattle.lexopt_options_spec.proofs.Fronts.{one_front}
use Rattle.lexopt_laws.specs.Sample as samples
use Rattle.lexopt_laws.specs.Sample.{exclusive_sample, hiding_options, hiding_sample, sample, sample_options, named, verbose, output, backup, mode}
use Rattle.lexopt_laws.proofs.WorkedMeans.{front_of}

-- ---- names that are text

-- the names of this option are text
abbrev pub HasText : Declared → Type 0
HasText o = (name : Name) → has_name name o ≡ true → IsText name

-- the names of all options are text
abbrev pub AllText : List Declared → Type 0
AllText [] = Unit {0}
AllText (o ∷ os) = HasText o × AllText os

pub all_text : (os : List Declared) → AllText os → AreText os
all_text [] text name is = absurd (true≢false (sym is))
all_text (o ∷ os) text name is =
    either (has_name name o) (list_any (has_name name) os) (IsText name) is (λ here. text.0 name here) (λ later. all_text os text.1 name later)

pub text_of : (o : Declared) (c : ℕ) (name : List ℕ) → all_names o ≡ short c ∷ long name ∷ [] → IsScalar c → is_utf8 name ≡ true → HasText o
text_of o c name are scalar text = λ n is.
    either (is_name n (short c)) (is_name n (long name) || false) (IsText n) (sym (ap (λ l. is_one_of l n) are) ∙ is)
    (λ here. subst IsText (name_is n (short c) here) scalar)
    (λ later. subst IsText (name_is n (long name) (sym (or-false (is_name n (long name))) ∙ later)) (IsUtf8-from_is_utf8 name text))

long_text_of : (o : Declared) (name : List ℕ) → all_names o ≡ long name ∷ [] → is_utf8 name ≡ true → HasText o
long_text_of o name are text = λ n is.
    subst IsText (name_is n (long name) (sym (or-false (is_name n (long name))) ∙ sym (ap (λ l. is_one_of l n) are) ∙ is)) (IsUtf8-from_is_utf8 name text)

pub sample_text : AreText sample_options
unfolding computing
sample_text = all_text sample_options (
  text_of verbose 0x76 (codes "verbose") refl refl refl,
  (
    text_of output 0x6F (codes "output") refl refl refl,
    (text_of backup 0x62 (codes "backup") refl refl refl, (text_of samples.exclude 0x78 (codes "exclude") refl refl refl, tt)),
  ),
)

-- each has a name
pub sample_named : AreNamed sample_options
unfolding computing
sample_named = ((short 0x76, refl), ((short 0x6F, refl), ((short 0x62, refl), ((short 0x78, refl), tt))))

pub hiding_text : AreText hiding_options
unfolding computing
hiding_text = all_text hiding_options (text_of (record output { hidden = true }) 0x6F (codes "output") refl refl refl, (text_of verbose 0x76 (codes "verbose") refl refl refl, tt))

pub hiding_named : AreNamed hiding_options
unfolding computing
hiding_named = ((short 0x6F, refl), ((short 0x76, refl), tt))

pub no_utf8 : (bs : List ℕ) → is_utf8 bs ≡ false → IsUtf8 bs → ⊥
no_utf8 bs is text = true≢false (sym (is_utf8-from_IsUtf8 bs text) ∙ is)

-- ---- open lines

pub open_of : {d : Declaration} {words : List (List ℕ)} {l : List Parsed} (items : List Item) → Spells (table d.options) d.short_equals words items
    → Spells (table d.options) d.short_equals (words ++ (dash ∷ dash ∷ []) ∷ []) items → map (parsed_item d.options) items ≡ map (λ s. Some s) l → IsWithin (positional_count l) (most d.positionals)
    → IsOpen d words l
open_of items spelled more parsed within = record { front = front_of items spelled parsed within; with_separator = front_of items more parsed within }

pub at_the_start : IsOpen (sample [] true) [] []
at_the_start = open_of [] no_words (separator []) refl (lit≤ tt)

pub at_the_start_otherwise : IsOpen (sample [] false) [] []
at_the_start_otherwise = open_of [] no_words (separator []) refl (lit≤ tt)

pub before_hidden : IsOpen hiding_sample [] []
before_hidden = open_of [] no_words (separator []) refl (lit≤ tt)

pub before_a_positional : IsOpen (sample (mode ∷ []) true) [] []
before_a_positional = open_of [] no_words (separator []) refl (lit≤ tt)

-- `-v`
pub after_a_flag : IsOpen (sample [] true) (codes "-v" ∷ []) (option 0 None ∷ [])
unfolding kind computing
after_a_flag = open_of (spec.option (short 0x76) None ∷ []) (cluster_line (codes "v") _ refl (last_of 0x76 [] nothing _ refl (nothing_more refl refl) (no_value refl refl refl)) no_words)
    (cluster_line (codes "v") _ refl (last_of 0x76 [] nothing _ refl (nothing_more refl refl) (no_value refl refl refl)) (separator [])) refl (lit≤ tt)

-- `-b`
pub after_an_optional_value : IsOpen (sample [] true) (codes "-b" ∷ []) (option 2 None ∷ [])
unfolding kind computing
after_an_optional_value = open_of (spec.option (short 0x62) None ∷ [])
    (cluster_line (codes "b") _ refl (last_of 0x62 [] nothing _ refl (nothing_more refl refl) (no_optional refl refl refl)) no_words)
    (cluster_line (codes "b") _ refl (last_of 0x62 [] nothing _ refl (nothing_more refl refl) (no_optional refl refl refl)) (separator [])) refl (lit≤ tt)

-- `-o f`
pub after_a_value : IsOpen (sample [] true) (codes "-o" ∷ codes "f" ∷ []) (option 1 (Some (codes "f")) ∷ [])
unfolding kind computing
after_a_value = open_of (spec.option (short 0x6F) (Some (codes "f")) ∷ [])
    (cluster_line (codes "o") _ refl (last_of 0x6F [] nothing _ refl (nothing_more refl refl) (next_word (codes "f") refl refl refl)) no_words)
    (cluster_line (codes "o") _ refl (last_of 0x6F [] nothing _ refl (nothing_more refl refl) (next_word (codes "f") refl refl refl)) (separator [])) refl (lit≤ tt)

-- `-x a`
pub after_several_values : IsOpen (sample [] true) (codes "-x" ∷ codes "a" ∷ []) (several 3 (codes "a" ∷ []) ∷ [])
unfolding kind computing
after_several_values = open_of (spec.many (short 0x78) (codes "a" ∷ []) ∷ [])
    (cluster_line (codes "x") _ refl (last_of 0x78 [] nothing _ refl (nothing_more refl refl) (several_words (codes "a" ∷ []) refl (plain_front_is _ [] refl refl) (some _ _) refl)) no_words)
    (cluster_line (codes "x") _ refl
    (last_of 0x78 [] nothing _ refl (nothing_more refl refl) (several_words (codes "a" ∷ []) refl (plain_front_is _ (codes "--" ∷ []) refl refl) (some _ _) refl)) (separator []))
    refl (lit≤ tt)

-- ---- spellings

not_listed : (s : List ℕ) (xs : List (List ℕ)) → list_any (λ w. pointwise ◌==◌ w s) xs ≡ false → Contains xs s → ⊥
not_listed s xs is (i, within, same) =
    let P : List ℕ → Type 0 = λ w. pointwise ◌==◌ w s ≡ true in
    true≢false (sym (list_any_at (λ w. pointwise ◌==◌ w s) xs i s within (subst P (sym same) (pointwise_refl s))) ∙ is)

-- no other spelling can come next
pub not_offered : (d : Declaration) (words : List (List ℕ)) (s : List ℕ) → list_any (λ o. pointwise ◌==◌ o.text s) (spellings d.options) ≡ false → CanOccur d words s → ⊥
not_offered d words s none possible =
    let (own, (i, within, here), same) = occurs_offered d words s possible in
    let P : Spelled → Type 0 = λ o. pointwise ◌==◌ o.text s ≡ true in
    true≢false (sym (list_any_at (λ o. pointwise ◌==◌ o.text s) (spellings d.options) i own within (subst P (sym here) (subst (λ t. pointwise ◌==◌ t s ≡ true) (sym same) (pointwise_refl s)))) ∙ none)

-- nor does one complete that is not offered, if its option passes a test
not_completed_by : (d : Declaration) (words : List (List ℕ)) (typed s : List ℕ) (passes : ℕ → Bool) → list_any (λ w. pointwise ◌==◌ w s) (texts (filter (is_offered typed) (spellings_if passes d.options))) ≡ false
    → (completes : Completes d words typed s) → passes completes.possible.index ≡ true → ⊥
not_completed_by d words typed s passes none completes is = not_listed s (texts (filter (is_offered typed) (spellings_if passes d.options))) none (completes_offered d words typed s passes completes is)

pub not_completed : (d : Declaration) (words : List (List ℕ)) (typed s : List ℕ) → list_any (λ w. pointwise ◌==◌ w s) (texts (filter (is_offered typed) (spellings_if (λ i. true) d.options))) ≡ false → Completes d words typed s → ⊥
not_completed d words typed s none completes = not_completed_by d words typed s (λ i. true) none completes refl

-- ---- options that exclude each other

pub exclusive_text : AreText exclusive_sample.options
unfolding computing
exclusive_text = all_text exclusive_sample.options (
  text_of (record verbose { exclusive = Some (codes "telling") }) 0x76 (codes "verbose") refl refl refl,
  (text_of output 0x6F (codes "output") refl refl refl, (long_text_of (record (named (codes "quiet")) { exclusive = Some (codes "telling") }) (codes "quiet") refl refl, tt)),
)

pub exclusive_named : AreNamed exclusive_sample.options
unfolding computing
exclusive_named = ((short 0x76, refl), ((short 0x6F, refl), ((long (codes "quiet"), refl), tt)))

-- `-v`
pub exclusive_open : IsOpen exclusive_sample (codes "-v" ∷ []) (option 0 None ∷ [])
unfolding kind computing
exclusive_open = open_of (spec.option (short 0x76) None ∷ []) (cluster_line (codes "v") _ refl (last_of 0x76 [] nothing _ refl (nothing_more refl refl) (no_value refl refl refl)) no_words)
    (cluster_line (codes "v") _ refl (last_of 0x76 [] nothing _ refl (nothing_more refl refl) (no_value refl refl refl)) (separator [])) refl (lit≤ tt)

-- an option that the first one does not exclude is free where that was typed
pub free_of_first : (options : List Declared) (i : ℕ) → is_free options (0 ∷ []) i ≡ true → (k : ℕ) → occurs k (option 0 None ∷ []) ≡ true → exclude options k i ≡ false
free_of_first options i free k there =
    subst (λ j. exclude options j i ≡ false) (eqb-true 0 k (sym (or-false (0 == k)) ∙ there)) (sym (or-false (exclude options 0 i)) ∙ not-true _ free)

-- where the first option was typed, no option completes that it excludes
pub not_beside : (typed s : List ℕ) → list_any (λ w. pointwise ◌==◌ w s) (texts (filter (is_offered typed) (spellings_if (is_free exclusive_sample.options (0 ∷ [])) exclusive_sample.options))) ≡ false → Completes exclusive_sample (codes "-v" ∷ []) typed s → ⊥
not_beside typed s none completes =
    let d = exclusive_sample in
    let before : completes.possible.before ≡ option 0 None ∷ [] = one_front d (codes "-v" ∷ []) completes.possible.before (option 0 None ∷ []) completes.possible.words_say exclusive_open.front in
    not_completed_by d (codes "-v" ∷ []) typed s (is_free d.options (0 ∷ [])) none completes
    (ap not (or-false (exclude d.options 0 completes.possible.index) ∙ completes.apart 0 (ap (occurs 0) before)))
