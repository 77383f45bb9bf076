-- Where an option can come.
use Rattle.lexopt_options_spec.proofs.Common.{and_from, eq-eqb, false≢true, or_right, append-nil, get_or_from_slice_get, slice_get_within, ◌≡◌, ◌≢◌, ◌<◌, ◌≤◌, ◌+◌, ◌==◌, ◌||◌, is_none, unwrap_or, ℕ, zero, suc, Bool}
use Rattle.lexopt_options_spec.proofs.Common.{true, false, List, [], ◌∷◌, ◌++◌, map, length, slice_get, slice_index_or, Some, None, encode_utf8, refl, sym, ap, subst, ◌∙◌, arith, inr, length-append}
use Rattle.lexopt_options_spec.proofs.Common.{option_map, dash, BeginsWith, IsPlain, IsNormalIn, Name, short, long, Item, Kind, flag, one, optional, several, kind, Table, Declaration, Declared}
use Rattle.lexopt_options_spec.proofs.Common.{has_name, index_of, is_sound, table, AreTaken, least, CanBeTaken, IsScalar}
use Rattle.lexopt_line_spec.specs.Table as spec
use Rattle.lexopt_line_spec.specs.Spelling as lines
use Rattle.lexopt_line_spec.specs.Spelling.{exact, nothing, Completes, no_value, no_optional, next_word, several_words, Group, cluster, last_option, nothing_more, name_alone, Line, group, separator}
use Rattle.lexopt_line_spec.proofs.SpellerTests.{dash_first, some_bytes}
use Rattle.lexopt_line_spec.proofs.SpellerSound.{not_plain}
use Rattle.lexopt_options_spec.specs.Legal.{AreApart, Parsed, option, several, positional, parsed_item, positional_count, positional_words, most, IsWithin, MeansFront, accepts_at, are_accepted, is_required, occurs, refused_value}
use Rattle.lexopt_options_spec.specs.Legal as legal
use Rattle.lexopt_options_spec.specs.Completion.{spelling, AreText, IsOption, IsOpen, IsText, CanOccur}
use Rattle.std.proofs.Math.Bool.{or-false}
use Rattle.std.proofs.lemmas.Bool.{ne_eqb}
use Rattle.std.proofs.lemmas.List.Folds.{list_any-append}
use Rattle.lexopt_options_spec.proofs.Apart.{not_demanded, same_clash}
use Rattle.lexopt_options_spec.proofs.Fronts.{same_parsed}
use Rattle.lexopt_options_spec.proofs.Lists.{both_are, first_same}
use Rattle.lexopt_options_spec.proofs.Listed.{accepted_append, accepted_front, accepts_here, list_good, one_accepted, single_accepted, value_fits, value_for, value_plain}
use Rattle.lexopt_options_spec.proofs.Sound.{IsGoodName, found, good, option_there}
use Rattle.lexopt_options_spec.proofs.Tables.{index_there, kind_of_name}
use Rattle.lexopt_options_spec.proofs.Taken.{AreFilled, can_be_taken, words_append, words_count, words_same}
use Rattle.lexopt_options_spec.proofs.OpenLines.{Parts, open_to_the_end, past_separator, dashes, parts}

-- ---- words that are not values

encoded_some : (c : ℕ) → IsScalar c → encode_utf8 c ≢ []
encoded_some c scalar none = some_bytes c [] scalar (ap (λ (l : List ℕ). l ++ []) none)

not_normal : (name : Name) → IsText name → (rest : List (List ℕ)) → ¬ IsNormalIn false (spelling name ∷ rest)
not_normal (short c) is rest = not_plain (encode_utf8 c) (encoded_some c is)
not_normal (long name) is rest = not_plain (dash ∷ name) (λ same. let e : dash ∷ name ≡ [] = same in cc)

pub dashes_calm : (rest : List (List ℕ)) → ¬ IsNormalIn false (dashes ∷ rest)
dashes_calm rest = not_plain (dash ∷ []) (λ same. let e : dash ∷ [] ≡ [] = same in cc)

-- ---- a single option, with this word as its value

values_of : Kind → List ℕ → List (List ℕ)
values_of one v = v ∷ []
values_of several v = v ∷ []
values_of k v = []

item_for : Kind → List ℕ → Name → Item
item_for one v name = spec.option name (Some v)
item_for several v name = spec.many name (v ∷ [])
item_for k v name = spec.option name None

one_plain : (v : List ℕ) → ¬ BeginsWith dash v → (k : ℕ) (d : List ℕ) → k < 1 → IsPlain false (slice_index_or (v ∷ []) k d)
one_plain v plain zero d within = inr (inr plain)
one_plain v plain (suc k) d within = absurd (omega arith)

completed : (k : Kind) (v : List ℕ) (name : Name) (tail : List (List ℕ)) → ¬ BeginsWith dash v → ¬ IsNormalIn false tail → Completes k name nothing (values_of k v ++ tail) (item_for k v name) tail
unfolding values_of item_for
completed flag v name tail plain calm = no_value refl refl refl
completed one v name tail plain calm = next_word v refl refl refl
completed optional v name tail plain calm = no_optional refl refl refl
completed several v name tail plain calm =
    several_words (v ∷ []) refl (record { words_are = refl; plain = one_plain v plain; longest = calm }) (λ none. let e : v ∷ [] ≡ [] = none in cc) refl

spelled_group : (t : Table) (on : Bool) (name : Name) (v : List ℕ) (tail : List (List ℕ)) → IsText name → IsGoodName name → ¬ BeginsWith dash v → ¬ IsNormalIn false tail
    → Group exact t on (spelling name ∷ values_of (kind t name) v ++ tail) (item_for (kind t name) v name ∷ []) tail
spelled_group t on (short c) v tail text is plain calm =
    cluster (encode_utf8 c ++ []) (values_of (kind t (short c)) v ++ tail) (ap (λ (l : List ℕ). (dash ∷ l) ∷ values_of (kind t (short c)) v ++ tail) (sym (append-nil (encode_utf8 c))))
    (λ begins. is.0 (dash_first c [] begins))
    (last_option c (encode_utf8 c) [] nothing (item_for (kind t (short c)) v (short c)) (text, refl) (nothing_more refl refl) (completed (kind t (short c)) v (short c) tail plain calm))
spelled_group t on (long name) v tail text is plain calm =
    lines.long_option name name name nothing (item_for (kind t (long name)) v (long name)) (values_of (kind t (long name)) v ++ tail) refl (name_alone is.0 refl refl) is.1 (text, refl)
    (completed (kind t (long name)) v (long name) tail plain calm) refl

-- the option, and then a line
spelled_line : (t : Table) (on : Bool) (name : Name) (v : List ℕ) (tail : List (List ℕ)) (items : List Item) → IsText name → IsGoodName name → ¬ BeginsWith dash v → ¬ IsNormalIn false tail → Line exact t on tail items
    → Line exact t on (spelling name ∷ values_of (kind t name) v ++ tail) (item_for (kind t name) v name ∷ items)
spelled_line t on name v tail items text is plain calm line =
    group (spelling name ∷ values_of (kind t name) v ++ tail) tail (item_for (kind t name) v name ∷ []) items (spelled_group t on name v tail text is plain calm) line

-- ---- what is read of the option

parsed_for : ℕ → Kind → List ℕ → Parsed
parsed_for i one v = option i (Some v)
parsed_for i several v = several i (v ∷ [])
parsed_for i k v = option i None

is_parsed : (options : List Declared) (name : Name) (i : ℕ) (k : Kind) (v : List ℕ) → index_of options name ≡ Some i → parsed_item options (item_for k v name) ≡ Some (parsed_for i k v)
unfolding item_for parsed_for
is_parsed options name i one v found = ap (option_map (λ j. option j (Some v))) found
is_parsed options name i several v found = ap (option_map (λ j. several j (v ∷ []))) found
is_parsed options name i k v found = ap (option_map (λ j. option j None)) found

is_option : (i : ℕ) (k : Kind) (v : List ℕ) → IsOption i (parsed_for i k v)
unfolding parsed_for
is_option i one v = refl
is_option i k v = refl

words_none : (i : ℕ) (s : Parsed) (l : List Parsed) → IsOption i s → positional_words (s ∷ l) ≡ positional_words l
words_none i (positional w) l is = absurd is
words_none i s l is = refl

occurs_once : (i : ℕ) (s : Parsed) (l : List Parsed) → IsOption i s → occurs i (s ∷ l) ≡ true
occurs_once i (positional w) l is = absurd is
occurs_once i s l is = ap (λ b. b || occurs i l) (eq-eqb _ i is)

-- its option accepts the value
accepted_one : (options : List Declared) (i : ℕ) (k : Kind) (v : List ℕ) → accepts_at options i v ≡ true → refused_value options (parsed_for i k v) ≡ None
unfolding parsed_for
accepted_one options i one v is = one_accepted options i v is
accepted_one options i several v is = single_accepted options i v is
accepted_one options i k v is = refl

accepted_more : (options : List Declared) (i : ℕ) (k : Kind) (v : List ℕ) (l : List Parsed) → accepts_at options i v ≡ true → are_accepted options l ≡ true → are_accepted options (parsed_for i k v ∷ l) ≡ true
accepted_more options i k v l is rest = and_from _ _ (ap is_none (accepted_one options i k v is)) rest

occurs_later : (i : ℕ) (s : Parsed) (l : List Parsed) → occurs i l ≡ true → occurs i (s ∷ l) ≡ true
occurs_later i s l is = or_right (legal.is_option i s) _ is

occurs_after : (i : ℕ) (l m : List Parsed) → occurs i m ≡ true → occurs i (l ++ m) ≡ true
occurs_after i [] m is = is
occurs_after i (s ∷ l) m is = occurs_later i s (l ++ m) (occurs_after i l m is)

is_own : (i j : ℕ) (k : Kind) (v : List ℕ) → legal.is_option j (parsed_for i k v) ≡ (i == j)
unfolding parsed_for
is_own i j one v = refl
is_own i j several v = refl
is_own i j k v = refl

-- ---- the required options

-- each of these options has a name
abbrev pub AreNamed : List Declared → Type 0
AreNamed [] = Unit {0}
AreNamed (o ∷ os) = ((name : Name) × (has_name name o ≡ true)) × AreNamed os

words_accepted : (options : List Declared) (words : List (List ℕ)) → are_accepted options (map positional words) ≡ true
words_accepted options [] = refl
words_accepted options (w ∷ ws) = words_accepted options ws

words_said : (options : List Declared) (words : List (List ℕ)) → map (parsed_item options) (map spec.positional words) ≡ map (λ s. Some s) (map positional words)
words_said options [] = refl
words_said options (w ∷ ws) = ap (λ l. Some (positional w) ∷ l) (words_said options ws)

-- words for the required options of these, whose first has this index, then the separator and these
-- words; and what they mean
record RequiredEnd (options : List Declared) (on : Bool) (i : ℕ) (os : List Declared) (more : List (List ℕ)) : Type 0 where
  words : List (List ℕ)
  items : List Item
  parsed : List Parsed
  calm : ¬ IsNormalIn false words
  line : Line exact (table options) on words items
  are : map (parsed_item options) items ≡ map (λ s. Some s) parsed
  own_words : positional_words parsed ≡ more
  occur : (j : ℕ) → is_required os j ≡ true → occurs (i + j) parsed ≡ true
  accepted : are_accepted options parsed ≡ true
  only : (j : ℕ) → is_required options j ≡ false → occurs j parsed ≡ false

none_occurs : (j : ℕ) (words : List (List ℕ)) → occurs j (map positional words) ≡ false
none_occurs j [] = refl
none_occurs j (w ∷ ws) = none_occurs j ws

required_end : (options : List Declared) (on : Bool) (i : ℕ) (os : List Declared) → AreNamed os → is_sound options ≡ true → AreText options → ((j : ℕ) → slice_get os j ≡ slice_get options (i + j)) → (more : List (List ℕ))
    → RequiredEnd options on i os more
required_end options on i [] named sound text same more = record {
  words = dashes ∷ more;
  items = map spec.positional more;
  parsed = map positional more;
  calm = dashes_calm more;
  line = separator more;
  are = words_said options more;
  own_words = words_same more;
  occur = λ j is. absurd (false≢true is);
  accepted = words_accepted options more;
  only = λ j free. none_occurs j more;
}
required_end options on i (o ∷ os) named sound text same more =
    go o.required refl (required_end options on (suc i) os named.1 sound text (λ j. same (suc j) ∙ ap (slice_get options) (omega arith)) more)
  where
    name : Name
    name = named.0.0

    v : List ℕ
    v = value_for o.words

    -- the first, and those after it
    each : (l : List Parsed) → (o.required ≡ true → occurs i l ≡ true) → ((j : ℕ) → is_required os j ≡ true → occurs (suc i + j) l ≡ true) → (j : ℕ) → is_required (o ∷ os) j ≡ true → occurs (i + j) l ≡ true
    each l first others zero is = subst (λ n. occurs n l ≡ true) (omega arith) (first is)
    each l first others (suc j) is = subst (λ n. occurs n l ≡ true) (omega arith) (others j is)

    go : (b : Bool) → o.required ≡ b → RequiredEnd options on (suc i) os more → RequiredEnd options on i (o ∷ os) more
    go false is rest = record {
      words = rest.words;
      items = rest.items;
      parsed = rest.parsed;
      calm = rest.calm;
      line = rest.line;
      are = rest.are;
      own_words = rest.own_words;
      occur = each rest.parsed (λ needed. absurd (false≢true (sym is ∙ needed))) rest.occur;
      accepted = rest.accepted;
      only = rest.only;
    }
    go true is rest =
        let at : slice_get options i ≡ Some o = ap (slice_get options) (omega arith) ∙ sym (same 0) in
        let within = slice_get_within options i o at in
        let here = get_or_from_slice_get options i o o at in
        let index = index_there options name i o sound within (ap (has_name name) here ∙ named.0.1) in
        let listed = list_good options i o sound at in
        let utf8 = text name (found (has_name name) options i index) in
        let own : Parsed = parsed_for i o.kind v in
        record {
          words = spelling name ∷ values_of o.kind v ++ rest.words;
          items = item_for o.kind v name ∷ rest.items;
          parsed = own ∷ rest.parsed;
          calm = not_normal name utf8 (values_of o.kind v ++ rest.words);
          line = subst (λ (k : Kind). Line exact (table options) on (spelling name ∷ values_of k v ++ rest.words) (item_for k v name ∷ rest.items)) (kind_of_name options o sound (i, within, here) name named.0.1)
              (spelled_line (table options) on name v rest.words rest.items utf8 (good options name i sound index) (value_plain o.words listed) rest.calm rest.line);
          are = both_are (parsed_item options) (item_for o.kind v name ∷ []) rest.items (own ∷ []) rest.parsed (ap (λ s. s ∷ []) (is_parsed options name i o.kind v index)) rest.are;
          own_words = words_none i own rest.parsed (is_option i o.kind v) ∙ rest.own_words;
          occur = each (own ∷ rest.parsed) (λ needed. occurs_once i own rest.parsed (is_option i o.kind v)) (λ j needed. occurs_later (suc i + j) own rest.parsed (rest.occur j needed));
          accepted = accepted_more options i o.kind v rest.parsed (accepts_here options i o v at (value_fits o.words listed)) rest.accepted;
          only = λ j free.
              let demanded : is_required options i ≡ true = ap (λ x. unwrap_or (option_map (λ p. p.required) x) false) at ∙ is in
              ap (λ b. b || occurs j rest.parsed) (is_own i j o.kind v ∙ ne_eqb i j (λ same. false≢true (sym free ∙ ap (is_required options) (sym same) ∙ demanded))) ∙ rest.only j free;
        }

-- ---- where an option can come, each declared option can

pub longer : {X : Type 0} (l : List X) (x : X) (m : List X) → l ++ x ∷ m ≢ l
longer l x m is = let e = ap length is in let f = length-append l (x ∷ m) in absurd (omega (arith, e, f))

-- what words mean if all words that come after them are positionals
later_positionals : (d : Declaration) (words more : List (List ℕ)) (l all : List Parsed) (means : MeansFront d words l) → Line exact (table d.options) d.short_equals (words ++ more) (means.items ++ map spec.positional more)
    → (whole : MeansFront d (words ++ more) all) → all ≡ l ++ map positional more
later_positionals d words more l all means line whole =
    same_parsed d (words ++ more) all (l ++ map positional more) whole.items (means.items ++ map spec.positional more) whole.spelled line whole.parsed
    (both_are (parsed_item d.options) means.items (map spec.positional more) l (map positional more) means.parsed (words_said d.options more))

-- more words come after words after which an option can come
goes_on : (d : Declaration) (words : List (List ℕ)) (l : List Parsed) → (is : IsOpen d words l) → (more : List (List ℕ)) (later : List Item) → ¬ IsNormalIn false more → Line exact (table d.options) d.short_equals more later
    → Line exact (table d.options) d.short_equals (words ++ more) (is.front.items ++ later)
goes_on d words l is = go (parts exact (table d.options) d.short_equals words is.front.items is.front.spelled)
  where
    go : Parts exact (table d.options) d.short_equals words is.front.items → (more : List (List ℕ)) (later : List Item) → ¬ IsNormalIn false more → Line exact (table d.options) d.short_equals more later
        → Line exact (table d.options) d.short_equals (words ++ more) (is.front.items ++ later)
    go (open_to_the_end opens) = opens
    go (past_separator some later) = absurd (longer l (positional dashes) [] (sym (later_positionals d words (dashes ∷ []) l l is.front (later (dashes ∷ [])) is.with_separator)))

pub can_occur : (d : Declaration) (words : List (List ℕ)) (l : List Parsed) (name : Name) (i : ℕ) → is_sound d.options ≡ true → AreText d.options → AreNamed d.options → IsOpen d words l
    → are_accepted d.options l ≡ true → AreFilled d.positionals (positional_words l) → index_of d.options name ≡ Some i → IsText name
    → (possible : CanOccur d words (spelling name)) × (possible.before ≡ l) × (possible.index ≡ i) × (AreApart d.options (λ k. occurs k l || (i == k)) → AreApart d.options (λ k. occurs k (possible.before ++ possible.parsed ∷ possible.later)))
can_occur d words l name i sound utf8 names is accepted filled found text =
    let t = table d.options in
    let k = kind t name in
    let here = option_there d.options name i found in
    let o = here.0 in
    let v = value_for o.words in
    let listed = list_good d.options i o sound here.1 in
    let more_words = filled.more in
    let named = good d.options name i sound found in
    let end = required_end d.options d.short_equals 0 d.options names sound utf8 (λ j. ap (slice_get d.options) (omega arith)) more_words in
    let own : Parsed = parsed_for i k v in
    let rest = values_of k v ++ end.words in
    let all_words : positional_words (l ++ own ∷ end.parsed) ≡ positional_words l ++ more_words =
    words_append l (own ∷ end.parsed) ∙ ap (λ ws. positional_words l ++ ws) (words_none i own end.parsed (is_option i k v) ∙ end.own_words) in
    let counted : positional_count (l ++ own ∷ end.parsed) ≡ length (positional_words l ++ more_words) =
    sym (words_count (l ++ own ∷ end.parsed)) ∙ ap length all_words in (
      record {
        name = name;
        index = i;
        declared = found;
        spelled = refl;
        before = l;
        parsed = own;
        later = end.parsed;
        rest = rest;
        is = is_option i k v;
        words_say = is.front;
        line_means = record {
          front = record {
            items = is.front.items ++ item_for k v name ∷ end.items;
            spelled = goes_on d words l is (spelling name ∷ rest) (item_for k v name ∷ end.items) (not_normal name text rest)
                (spelled_line t d.short_equals name v end.words end.items text named (value_plain o.words listed) end.calm end.line);
            parsed = both_are (parsed_item d.options) is.front.items (item_for k v name ∷ end.items) l (own ∷ end.parsed) is.front.parsed
                (both_are (parsed_item d.options) (item_for k v name ∷ []) end.items (own ∷ []) end.parsed (ap (λ s. s ∷ []) (is_parsed d.options name i k v found)) end.are);
            within = subst (λ m. IsWithin m (most d.positionals)) (sym counted) filled.within;
          };
          enough = subst (λ m. least d.positionals ≤ m) (sym counted) filled.enough;
          complete = λ j needed. occurs_after j l (own ∷ end.parsed) (occurs_later j own end.parsed (subst (λ m. occurs m end.parsed ≡ true) (omega arith) (end.occur j needed)));
          accepted = accepted_append d.options l (own ∷ end.parsed) accepted (accepted_more d.options i k v end.parsed (accepts_here d.options i o v here.1 (value_fits o.words listed)) end.accepted);
          taken = subst (AreTaken d.positionals) (sym all_words) filled.taken;
        };
      },
      refl,
      refl,
      λ apart a b.
          same_clash d.options (λ m. occurs m (l ++ own ∷ end.parsed)) (λ m. occurs m l || (i == m)) (λ m some.
          list_any-append (legal.is_option m) l (own ∷ end.parsed)
          ∙ ap (λ c. occurs m l || (c || occurs m end.parsed)) (is_own i m k v)
          ∙ ap (λ c. occurs m l || ((i == m) || c)) (end.only m (not_demanded d.options m sound some)) ∙ ap (λ c. occurs m l || c) (or-false (i == m))) a b
          ∙ apart a b,
    )

-- ---- where no option can come, no declared option can

same_later : (l : List Parsed) (s : Parsed) (ss ts : List Parsed) → l ++ s ∷ ss ≡ l ++ ts → s ∷ ss ≡ ts
same_later [] s ss ts is = is
same_later (x ∷ l) s ss ts is = same_later l s ss ts (first_same x x (l ++ s ∷ ss) (l ++ ts) is).1

no_positional : (i : ℕ) (s : Parsed) (ss : List Parsed) (w : List ℕ) (ws : List (List ℕ)) → IsOption i s → s ∷ ss ≡ map positional (w ∷ ws) → ⊥
no_positional i s ss w ws is same =
    let e : s ≡ positional w = (first_same s (positional w) ss (map positional ws) same).0 in subst (IsOption i) e is

-- the words before the spelling are accepted, with some more words
pub occurs_taken : (d : Declaration) (words : List (List ℕ)) (s : List ℕ) → (possible : CanOccur d words s) → CanBeTaken d.positionals (positional_words possible.before)
occurs_taken d words s possible =
    let later : List Parsed = possible.parsed ∷ possible.later in
    let all = words_append possible.before later in
    let front = possible.line_means.front in
    can_be_taken d.positionals (positional_words possible.before) (positional_words later)
    (subst (λ n. IsWithin n (most d.positionals)) (sym (words_count (possible.before ++ later)) ∙ ap length all) front.within)
    (subst (AreTaken d.positionals) all possible.line_means.taken)

-- the values before the spelling are accepted
pub occurs_accepted : (d : Declaration) (words : List (List ℕ)) (s : List ℕ) → (possible : CanOccur d words s) → are_accepted d.options possible.before ≡ true
occurs_accepted d words s possible = accepted_front d.options possible.before (possible.parsed ∷ possible.later) possible.line_means.accepted

pub occurs_open : (d : Declaration) (words : List (List ℕ)) (s : List ℕ) → (possible : CanOccur d words s) → IsOpen d words possible.before
occurs_open d words s possible = go (parts exact (table d.options) d.short_equals words possible.words_say.items possible.words_say.spelled)
  where
    t : Table
    t = table d.options

    go : Parts exact (table d.options) d.short_equals words possible.words_say.items → IsOpen d words possible.before
    go (open_to_the_end opens) = record {
      front = possible.words_say;
      with_separator = record {
        items = possible.words_say.items ++ [];
        spelled = opens (dashes ∷ []) [] (dashes_calm []) (separator []);
        parsed = ap (map (parsed_item d.options)) (append-nil possible.words_say.items) ∙ possible.words_say.parsed;
        within = possible.words_say.within;
      };
    }
    go (past_separator some later) =
        absurd (no_positional possible.index possible.parsed possible.later s possible.rest possible.is
        (same_later possible.before possible.parsed possible.later (map positional (s ∷ possible.rest))
        (later_positionals d words (s ∷ possible.rest) possible.before _ possible.words_say (later (s ∷ possible.rest)) possible.line_means.front)))
