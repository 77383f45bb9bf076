-- The reading of a line under a declaration stops at one mistake.
use Rattle.std.proofs.Common.{◌≡◌, ◌<◌, ◌≤◌, ℕ, ◌+◌, suc, true, List, [], ◌∷◌, ◌++◌, map, Option, Some, None, refl, sym, ap, subst, ◌∙◌, arith}
use Rattle.std.proofs.lemmas.Bool.{eqb-true, false≢true}
use Rattle.std.proofs.lemmas.Option.{same_Some}
use Rattle.std.specs.Option.{option_map}
use Rattle.lexopt_spec.specs.UnreadLine.{Tail, UnreadLine, IsLine}
use Rattle.lexopt_spec.specs.Steps as steps
use Rattle.lexopt_spec.specs.Steps.{Reply, Next}
use Rattle.lexopt_spec.specs.Runs.{next}
use Rattle.lexopt_line_spec.specs.Table as spec
use Rattle.lexopt_line_spec.specs.Table.{Item, Name, short, long, kind}
use Rattle.lexopt_line_spec.specs.Readings.{IsReading, ReadsItems, item_after, items_of_replies, option_reply, start}
use Rattle.lexopt_line_spec.specs.Speller.{IsOf}
use Rattle.lexopt_line_spec.proofs.Calls.{call_same}
use Rattle.lexopt_line_spec.proofs.ItemsRead.{one_line_left, option_given, says_items}
use Rattle.lexopt_line_spec.proofs.OneReading.{option_reading, some_reading, no_other_reading}
use Rattle.lexopt_line_spec.proofs.ReadingSteps.{says_positional, reads_last, reads_refused}
use Rattle.lexopt_line_spec.proofs.RunAccounts.{step_line}
use Rattle.lexopt_options_spec.specs.Declaration.{Declaration, Declared, index_of, table}
use Rattle.lexopt_options_spec.specs.Legal as legal
use Rattle.lexopt_options_spec.specs.Legal.{Parsed, parsed_item, positional, positional_count, positional_words, most, IsWithin, are_accepted, is_option, is_required, occurs, refused_value}
use Rattle.lexopt_options_spec.specs.Places.{AreTaken, IsNotTaken, least}
use Rattle.lexopt_options_spec.specs.Stops.{Mistake, unknown_option, unexpected_value, missing_value, invalid_value, unexpected_argument, invalid_argument, missing_argument, missing_option, exclusive_options, IsFirstClash, IsFirstMissing, Stops, not_declared, value_of_flag, no_value, not_accepted, one_too_many, too_few, not_taken, not_complete, not_apart, StopsAt}
use Rattle.lexopt_options_spec.proofs.Lists.{first_same, split, first_none, first_is, same_somes, count_append}
use Rattle.lexopt_options_spec.proofs.Taken.{not_both, one_refused}
use Rattle.lexopt_options_spec.proofs.Fronts.{above, item_of, not_refused, undeclared}
use Rattle.lexopt_laws.proofs.Clashes.{one_first_clash}
use Rattle.lexopt_laws.proofs.Missing.{one_first_missing}

-- ---- the unread line where a reading stops

-- this was read to the end, and a positional or an option is missing, a word is not accepted, or two
-- options exclude each other
pub data IsMissing (d : Declaration) (l : List Parsed) (m : Mistake) : Type 0 where
  lacks_argument : m ≡ missing_argument (positional_count l) → positional_count l < least d.positionals → IsMissing d l m
  refuses_word : (index : ℕ) (word : List ℕ) → m ≡ invalid_argument index word → least d.positionals ≤ positional_count l → IsNotTaken d.positionals (positional_words l) index word → IsMissing d l m
  lacks_option : (index : ℕ) → m ≡ missing_option index → least d.positionals ≤ positional_count l → AreTaken d.positionals (positional_words l) → IsFirstMissing d.options l index → IsMissing d l m
  excludes_option : (index other : ℕ) → m ≡ exclusive_options index other → least d.positionals ≤ positional_count l → AreTaken d.positionals (positional_words l) → ((i : ℕ) → is_required d.options i ≡ true → occurs i l ≡ true)
      → IsFirstClash d.options (λ i. occurs i l) index other → IsMissing d l m

-- after this was read, the unread line gives these items and then this reply, so this is the
-- mistake
pub data Left (d : Declaration) (l : List Parsed) (m : Mistake) (final : Reply) (items : List Item) : Type 0 where
  undeclared_first : (name : Name) (tail : Tail) (item : Item) (rest : List Item) → m ≡ unknown_option name tail → items ≡ item ∷ rest → IsOf name item → index_of d.options name ≡ None → Left d l m final items
  flag_value : (option value : List ℕ) → m ≡ unexpected_value option value → final ≡ steps.unexpected option value → items ≡ [] → Left d l m final items
  valueless : (name : Name) (index : ℕ) (option : List ℕ) → m ≡ missing_value index option → final ≡ steps.missing (Some option) → items ≡ spec.option name None ∷ []
      → index_of d.options name ≡ Some index → Left d l m final items
  refused_first : (item : Item) (s : Parsed) (index : ℕ) (value : List ℕ) (rest : List Item) → m ≡ invalid_value index value → items ≡ item ∷ rest → parsed_item d.options item ≡ Some s
      → is_option index s ≡ true → refused_value d.options s ≡ Some value → Left d l m final items
  no_room : (word : List ℕ) (rest : List Item) → m ≡ unexpected_argument word → items ≡ spec.positional word ∷ rest → most d.positionals ≡ Some (positional_count l) → Left d l m final items
  at_end : IsMissing d l m → final ≡ steps.end → items ≡ [] → Left d l m final items

pub record IsLeft (d : Declaration) (l : List Parsed) (u : UnreadLine) (m : Mistake) : Type 0 where
  pub final : Reply
  pub items : List Item
  pub reading : IsReading (table d.options) u final items
  pub left : Left d l m final items

-- one thing that is read is one item
pub one_item : (options : List Declared) (items : List Item) (s : Parsed) → map (parsed_item options) items ≡ map (λ s. Some s) (s ∷ []) → (item : Item) × (items ≡ item ∷ []) × (parsed_item options item ≡ Some s)
one_item options [] s is = absurd (let e : [] ≡ Some s ∷ [] = is in cc)
one_item options (x ∷ []) s is = (x, refl, (first_same (parsed_item options x) (Some s) [] [] is).0)
one_item options (x ∷ y ∷ items) s is =
    let rest = (first_same (parsed_item options x) (Some s) (parsed_item options y ∷ map (parsed_item options) items) [] is).1 in
    absurd (let e : parsed_item options y ∷ map (parsed_item options) items ≡ [] = rest in cc)

pub left_of : (d : Declaration) (l : List Parsed) (u : UnreadLine) (m : Mistake) → IsLine u → Stops d l u m → IsLeft d l u m
left_of d l u m line (not_declared name v step none) =
    let r = option_reading (table d.options) u v name (step_line next u (option_reply name) v line step) step in record {
      final = r.0;
      items = item_after name r.1 ∷ items_of_replies r.1;
      reading = r.2;
      left = undeclared_first name v.tail (item_after name r.1) (items_of_replies r.1) refl refl (item_of name r.1) none;
    }
left_of d l u m line (value_of_flag option value v step) = record {
  final = steps.unexpected option value;
  items = [];
  reading = reads_last (table d.options) u v (steps.unexpected option value) tt step;
  left = flag_value option value refl refl refl;
}
left_of d l u m line (no_value (short c) index option call v w step found due takes) = record {
  final = steps.missing (Some option);
  items = spec.option (short c) None ∷ [];
  reading = reads_refused (table d.options) u v w (short c) (kind (table d.options) (short c)) call (steps.missing (Some option)) refl due tt step takes;
  left = valueless (short c) index option refl refl refl found;
}
left_of d l u m line (no_value (long n) index option call v w step found due takes) = record {
  final = steps.missing (Some option);
  items = spec.option (long n) None ∷ [];
  reading = reads_refused (table d.options) u v w (long n) (kind (table d.options) (long n)) call (steps.missing (Some option)) refl due tt step takes;
  left = valueless (long n) index option refl refl refl found;
}
left_of d l u m line (not_accepted s index value v read option refused) =
    let r = some_reading (table d.options) v read.line in
    let one = one_item d.options read.items s read.parsed in record {
      final = r.0;
      items = read.items ++ r.1;
      reading = says_items (table d.options) u v read.items read.read r.0 r.1 r.2;
      left = refused_first one.0 s index value r.1 refl (ap (λ l. l ++ r.1) one.1) one.2 option refused;
    }
left_of d l u m line (one_too_many word v step limit) =
    let r = some_reading (table d.options) v (step_line next u (steps.positional word) v line step) in record {
      final = r.0;
      items = spec.positional word ∷ r.1;
      reading = says_positional (table d.options) u v word step r.0 r.1 r.2;
      left = no_room word r.1 refl refl limit;
    }
left_of d l u m line (too_few v step few) = record {
  final = steps.end;
  items = [];
  reading = reads_last (table d.options) u v steps.end tt step;
  left = at_end (lacks_argument refl few) refl refl;
}
left_of d l u m line (not_taken index word v step enough unfit) = record {
  final = steps.end;
  items = [];
  reading = reads_last (table d.options) u v steps.end tt step;
  left = at_end (refuses_word index word refl enough unfit) refl refl;
}
left_of d l u m line (not_complete index v step enough taken first) = record {
  final = steps.end;
  items = [];
  reading = reads_last (table d.options) u v steps.end tt step;
  left = at_end (lacks_option index refl enough taken first) refl refl;
}
left_of d l u m line (not_apart index other v step enough taken complete first) = record {
  final = steps.end;
  items = [];
  reading = reads_last (table d.options) u v steps.end tt step;
  left = at_end (excludes_option index other refl enough taken complete first) refl refl;
}

-- ---- two lists, each in two parts

pub data Compared (xs ys ms ns : List Item) : Type 0 where
  same : xs ≡ ys → ms ≡ ns → Compared xs ys ms ns
  shorter : (x : Item) (rest : List Item) → ys ≡ xs ++ x ∷ rest → ms ≡ x ∷ rest ++ ns → Compared xs ys ms ns
  longer : (x : Item) (rest : List Item) → xs ≡ ys ++ x ∷ rest → ns ≡ x ∷ rest ++ ms → Compared xs ys ms ns

head_same : (x y : Item) (xs ys : List Item) → x ∷ xs ≡ y ∷ ys → (x ≡ y) × (xs ≡ ys)
head_same x y xs ys is = (cc, cc)

pub compared : (xs ys ms ns : List Item) → xs ++ ms ≡ ys ++ ns → Compared xs ys ms ns
compared [] [] ms ns is = same refl is
compared [] (y ∷ ys) ms ns is = shorter y ys refl is
compared (x ∷ xs) [] ms ns is = longer x xs refl (sym is)
compared (x ∷ xs) (y ∷ ys) ms ns is =
    let parts = head_same x y (xs ++ ms) (ys ++ ns) is in
    elim (compared xs ys ms ns parts.1) [
      | same front back ↦ same (ap (λ l. x ∷ l) front ∙ ap (λ z. z ∷ ys) parts.0) back
      | shorter z rest front back ↦ shorter z rest (ap (λ l. y ∷ l) front ∙ ap (λ w. w ∷ (xs ++ z ∷ rest)) (sym parts.0)) back
      | longer z rest front back ↦ longer z rest (ap (λ l. x ∷ l) front ∙ ap (λ w. w ∷ (ys ++ z ∷ rest)) parts.0) back
    ]

-- ---- two stops

-- a missing value does not stop a reading that gives nothing
no_missing : (d : Declaration) (l : List Parsed) (m : Mistake) (final : Reply) (items : List Item) (option : List ℕ) → final ≡ steps.missing (Some option) → items ≡ [] → Left d l m final items → ⊥
no_missing d l m final items option is none (undeclared_first name tail item rest m_is are of undeclared) = let e : [] ≡ item ∷ rest = sym none ∙ are in cc
no_missing d l m final items option is none (flag_value o value m_is final_is are) = let e : steps.missing (Some option) ≡ steps.unexpected o value = sym is ∙ final_is in cc
no_missing d l m final items option is none (valueless name index o m_is final_is are found) = let e : [] ≡ spec.option name None ∷ [] = sym none ∙ are in cc
no_missing d l m final items option is none (refused_first item s index value rest m_is are parsed of refused) = let e : [] ≡ item ∷ rest = sym none ∙ are in cc
no_missing d l m final items option is none (no_room word rest m_is are limit) = let e : [] ≡ spec.positional word ∷ rest = sym none ∙ are in cc
no_missing d l m final items option is none (at_end lacks final_is are) = let e : steps.missing (Some option) ≡ steps.end = sym is ∙ final_is in cc

no_items : (k a : List Item) → k ++ a ≡ [] → a ≡ []
no_items [] a is = is
no_items (x ∷ k) a is = absurd (let e : x ∷ (k ++ a) ≡ [] = is in cc)

-- nothing is read after a mistake
pub not_shorter : (d : Declaration) (l k : List Parsed) (m : Mistake) (final : Reply) (xs ms ns : List Item) (x : Item) (rest : List Item)
    → map (parsed_item d.options) xs ≡ map (λ s. Some s) l → map (parsed_item d.options) (xs ++ x ∷ rest) ≡ map (λ s. Some s) k → IsWithin (positional_count k) (most d.positionals)
    → are_accepted d.options k ≡ true → ms ≡ x ∷ rest ++ ns → Left d l m final ms → ((option : List ℕ) → final ≡ steps.missing (Some option) → ns ≡ [] → ⊥) → ⊥
not_shorter d l k m final xs ms ns x rest parsed more within accepted is (undeclared_first name tail item others m_is are of none) other =
    let later = split (parsed_item d.options) xs (x ∷ rest) l k parsed more in
    let first = head_same x item (rest ++ ns) others (sym is ∙ are) in
    first_none (parsed_item d.options) x rest later.later (ap (parsed_item d.options) first.0 ∙ undeclared d.options name item of none) later.are
not_shorter d l k m final xs ms ns x rest parsed more within accepted is (flag_value option value m_is final_is are) other = let e : x ∷ (rest ++ ns) ≡ [] = sym is ∙ are in cc
not_shorter d l k m final xs ms ns x rest parsed more within accepted is (valueless name index option m_is final_is are found) other =
    let first = head_same x (spec.option name None) (rest ++ ns) [] (sym is ∙ are) in
    other option final_is (no_items rest ns first.1)
not_shorter d l k m final xs ms ns x rest parsed more within accepted is (refused_first item s index value others m_is are means of refused) other =
    let later = split (parsed_item d.options) xs (x ∷ rest) l k parsed more in
    let first = head_same x item (rest ++ ns) others (sym is ∙ are) in
    let one = first_is (parsed_item d.options) x s rest later.later (ap (parsed_item d.options) first.0 ∙ means) later.are in
    not_refused d.options l s one.0 value (subst (λ z. are_accepted d.options z ≡ true) (later.all_are ∙ ap (λ z. l ++ z) one.1) accepted) refused
not_shorter d l k m final xs ms ns x rest parsed more within accepted is (no_room word others m_is are limit) other =
    let later = split (parsed_item d.options) xs (x ∷ rest) l k parsed more in
    let first = head_same x (spec.positional word) (rest ++ ns) others (sym is ∙ are) in
    let one = first_is (parsed_item d.options) x (positional word) rest later.later (ap (parsed_item d.options) first.0) later.are in
    let count : positional_count k ≡ positional_count l + suc (positional_count one.0) =
    ap positional_count later.all_are ∙ count_append l later.later ∙ ap (λ s. positional_count l + positional_count s) one.1 ∙ ap (λ i. positional_count l + i) (omega arith) in
    above (positional_count l) (positional_count one.0) (most d.positionals) limit (subst (λ i. IsWithin i (most d.positionals)) count within)
not_shorter d l k m final xs ms ns x rest parsed more within accepted is (at_end lacks final_is are) other = let e : x ∷ (rest ++ ns) ≡ [] = sym is ∙ are in cc

one_name : (name other : Name) (item : Item) → IsOf name item → IsOf other item → name ≡ other
one_name name other (spec.option n value) is too = sym is ∙ too
one_name name other (spec.many n values) is too = sym is ∙ too
one_name name other (spec.positional word) is too = absurd is

no_name : (name : Name) (word : List ℕ) (item : Item) → item ≡ spec.positional word → IsOf name item → ⊥
no_name name word item is of = subst (IsOf name) is of

-- a positional is not an option
no_option : (word : List ℕ) (index : ℕ) (s : Parsed) → Some (positional word) ≡ Some s → is_option index s ≡ true → ⊥
no_option word index s is of = false≢true (ap (is_option index) (same_Some (positional word) s is) ∙ of)

-- an option without a value has no refused value
none_refused : (options : List Declared) (name : Name) (s : Parsed) (value : List ℕ) → parsed_item options (spec.option name None) ≡ Some s → refused_value options s ≡ Some value → ⊥
none_refused options name s value parsed refused = go (index_of options name) parsed
  where
    go : (index : Option ℕ) → option_map (λ i. legal.option i None) index ≡ Some s → ⊥
    go None is = let e : None ≡ Some s = is in cc
    go (Some i) is = let e : None ≡ Some value = ap (refused_value options) (same_Some (legal.option i None) s is) ∙ refused in cc

-- an option has one index
one_option : (i j : ℕ) (s : Parsed) → is_option i s ≡ true → is_option j s ≡ true → i ≡ j
one_option i j (legal.option k value) is too = sym (eqb-true k i is) ∙ eqb-true k j too
one_option i j (legal.several k values) is too = sym (eqb-true k i is) ∙ eqb-true k j too
one_option i j (positional word) is too = absurd (false≢true is)

-- a line that was read to its end has only one mistake
same_missing : (d : Declaration) (l : List Parsed) (m n : Mistake) → IsMissing d l m → IsMissing d l n → m ≡ n
same_missing d l m n (lacks_argument m_is few) (lacks_argument n_is few2) = m_is ∙ sym n_is
same_missing d l m n (lacks_argument m_is few) (refuses_word index2 word2 n_is enough2 unfit2) = absurd (omega arith)
same_missing d l m n (lacks_argument m_is few) (lacks_option index2 n_is enough2 taken2 first2) = absurd (omega arith)
same_missing d l m n (lacks_argument m_is few) (excludes_option index2 other2 n_is enough2 taken2 complete2 first2) = absurd (omega arith)
same_missing d l m n (refuses_word index word m_is enough unfit) (lacks_argument n_is few2) = absurd (omega arith)
same_missing d l m n (refuses_word index word m_is enough unfit) (refuses_word index2 word2 n_is enough2 unfit2) =
    let same = one_refused d.positionals (positional_words l) index index2 word word2 unfit unfit2 in
    m_is ∙ ap (λ i. invalid_argument i word) same.0 ∙ ap (invalid_argument index2) same.1 ∙ sym n_is
same_missing d l m n (refuses_word index word m_is enough unfit) (lacks_option index2 n_is enough2 taken2 first2) =
    absurd (not_both d.positionals (positional_words l) index word unfit taken2)
same_missing d l m n (refuses_word index word m_is enough unfit) (excludes_option index2 other2 n_is enough2 taken2 complete2 first2) =
    absurd (not_both d.positionals (positional_words l) index word unfit taken2)
same_missing d l m n (lacks_option index m_is enough taken first) (lacks_argument n_is few2) = absurd (omega arith)
same_missing d l m n (lacks_option index m_is enough taken first) (refuses_word index2 word2 n_is enough2 unfit2) =
    absurd (not_both d.positionals (positional_words l) index2 word2 unfit2 taken)
same_missing d l m n (lacks_option index m_is enough taken first) (lacks_option index2 n_is enough2 taken2 first2) = m_is ∙ ap missing_option (one_first_missing d.options l index index2 first first2) ∙ sym n_is
same_missing d l m n (lacks_option index m_is enough taken first) (excludes_option index2 other2 n_is enough2 taken2 complete2 first2) = absurd (false≢true (sym first.absent ∙ complete2 index first.here))
same_missing d l m n (excludes_option index other m_is enough taken complete first) (lacks_argument n_is few2) = absurd (omega arith)
same_missing d l m n (excludes_option index other m_is enough taken complete first) (refuses_word index2 word2 n_is enough2 unfit2) =
    absurd (not_both d.positionals (positional_words l) index2 word2 unfit2 taken)
same_missing d l m n (excludes_option index other m_is enough taken complete first) (lacks_option index2 n_is enough2 taken2 first2) = absurd (false≢true (sym first2.absent ∙ complete index2 first2.here))
same_missing d l m n (excludes_option index other m_is enough taken complete first) (excludes_option index2 other2 n_is enough2 taken2 complete2 first2) =
    let same = one_first_clash d.options (λ i. occurs i l) index other index2 other2 first first2 in
    m_is ∙ ap (λ i. exclusive_options i other) same.0 ∙ ap (exclusive_options index2) same.1 ∙ sym n_is

-- the rest of the word of an undeclared option is the same
abbrev SameTails : Mistake → Mistake → Type 0
SameTails m n = (name : Name) (tail other : Tail) → m ≡ unknown_option name tail → n ≡ unknown_option name other → tail ≡ other

named_tail : (name other : Name) (tail left : Tail) → unknown_option name tail ≡ unknown_option other left → (name ≡ other) × (tail ≡ left)
named_tail name other tail left is = (cc, cc)

tail_left : (d : Declaration) (l : List Parsed) (u : UnreadLine) (m : Mistake) (name : Name) (tail : Tail) → Stops d l u m → m ≡ unknown_option name tail
    → (v : UnreadLine) × Next u (option_reply name) v × (v.tail ≡ tail)
tail_left d l u m name tail (not_declared other v step none) is =
    let same = named_tail other name v.tail tail is in (v, subst (λ x. Next u (option_reply x) v) same.0 step, same.1)
tail_left d l u m name tail (value_of_flag option value v step) is = let e : unexpected_value option value ≡ unknown_option name tail = is in absurd (cc)
tail_left d l u m name tail (no_value other index option call v w step found due takes) is = let e : missing_value index option ≡ unknown_option name tail = is in absurd (cc)
tail_left d l u m name tail (not_accepted s index value v read option refused) is = let e : invalid_value index value ≡ unknown_option name tail = is in absurd (cc)
tail_left d l u m name tail (one_too_many word v step limit) is = let e : unexpected_argument word ≡ unknown_option name tail = is in absurd (cc)
tail_left d l u m name tail (too_few v step few) is = let e : missing_argument (positional_count l) ≡ unknown_option name tail = is in absurd (cc)
tail_left d l u m name tail (not_taken index word v step enough unfit) is = let e : invalid_argument index word ≡ unknown_option name tail = is in absurd (cc)
tail_left d l u m name tail (not_complete index v step enough taken first) is = let e : missing_option index ≡ unknown_option name tail = is in absurd (cc)
tail_left d l u m name tail (not_apart index other v step enough taken complete first) is = let e : exclusive_options index other ≡ unknown_option name tail = is in absurd (cc)

same_tails : (d : Declaration) (l k : List Parsed) (u : UnreadLine) (m n : Mistake) → Stops d l u m → Stops d k u n → SameTails m n
same_tails d l k u m n stops again = λ name tail other is too.
    let one = tail_left d l u m name tail stops is in
    let two = tail_left d k u n name other again too in
    let lines = (call_same next u (option_reply name) (option_reply name) one.0 two.0 (option_given u one.0 name one.1) (option_given u two.0 name two.1)).1 in
    sym one.2 ∙ ap (λ (v : UnreadLine). v.tail) lines ∙ two.2

-- at one place there is only one mistake
same_left : (d : Declaration) (l : List Parsed) (m n : Mistake) (final : Reply) (ms ns : List Item) → SameTails m n → ms ≡ ns → Left d l m final ms → Left d l n final ns → m ≡ n
same_left d l m n final ms ns tails is (undeclared_first name tail item rest m_is are of none) (undeclared_first name2 tail2 item2 rest2 n_is are2 of2 none2) =
    let first = head_same item item2 rest rest2 (sym are ∙ is ∙ are2) in
    let names = one_name name name2 item2 (subst (IsOf name) first.0 of) of2 in
    m_is ∙ ap (λ x. unknown_option x tail) names ∙ ap (unknown_option name2) (tails name2 tail tail2 (m_is ∙ ap (λ x. unknown_option x tail) names) n_is) ∙ sym n_is
same_left d l m n final ms ns tails is (undeclared_first name tail item rest m_is are of none) (flag_value option2 value2 n_is final_is2 are2) = let e : item ∷ rest ≡ [] = sym are ∙ is ∙ are2 in cc
same_left d l m n final ms ns tails is (undeclared_first name tail item rest m_is are of none) (valueless name2 index2 option2 n_is final_is2 are2 found2) =
    let first = head_same item (spec.option name2 None) rest [] (sym are ∙ is ∙ are2) in
    let same_name = one_name name name2 (spec.option name2 None) (subst (IsOf name) first.0 of) refl in
    absurd (let e : None ≡ Some index2 = sym none ∙ ap (index_of d.options) same_name ∙ found2 in cc)
same_left d l m n final ms ns tails is (undeclared_first name tail item rest m_is are of none) (refused_first item2 s2 index2 value2 rest2 n_is are2 said2 of2 refused2) =
    let first = head_same item item2 rest rest2 (sym are ∙ is ∙ are2) in
    absurd (let e : None ≡ Some s2 = sym (undeclared d.options name item of none) ∙ ap (parsed_item d.options) first.0 ∙ said2 in cc)
same_left d l m n final ms ns tails is (undeclared_first name tail item rest m_is are of none) (no_room word2 rest2 n_is are2 limit2) =
    let first = head_same item (spec.positional word2) rest rest2 (sym are ∙ is ∙ are2) in absurd (no_name name word2 item first.0 of)
same_left d l m n final ms ns tails is (undeclared_first name tail item rest m_is are of none) (at_end lacks2 final_is2 are2) = let e : item ∷ rest ≡ [] = sym are ∙ is ∙ are2 in cc
same_left d l m n final ms ns tails is (flag_value option value m_is final_is are) (undeclared_first name2 tail2 item2 rest2 n_is are2 of2 none2) = let e : [] ≡ item2 ∷ rest2 = sym are ∙ is ∙ are2 in cc
same_left d l m n final ms ns tails is (flag_value option value m_is final_is are) (flag_value option2 value2 n_is final_is2 are2) =
    let e : steps.unexpected option value ≡ steps.unexpected option2 value2 = sym final_is ∙ final_is2 in cc
same_left d l m n final ms ns tails is (flag_value option value m_is final_is are) (valueless name2 index2 option2 n_is final_is2 are2 found2) =
    let e : [] ≡ spec.option name2 None ∷ [] = sym are ∙ is ∙ are2 in cc
same_left d l m n final ms ns tails is (flag_value option value m_is final_is are) (refused_first item2 s2 index2 value2 rest2 n_is are2 said2 of2 refused2) = let e : [] ≡ item2 ∷ rest2 = sym are ∙ is ∙ are2 in cc
same_left d l m n final ms ns tails is (flag_value option value m_is final_is are) (no_room word2 rest2 n_is are2 limit2) = let e : [] ≡ spec.positional word2 ∷ rest2 = sym are ∙ is ∙ are2 in cc
same_left d l m n final ms ns tails is (flag_value option value m_is final_is are) (at_end lacks2 final_is2 are2) = let e : steps.unexpected option value ≡ steps.end = sym final_is ∙ final_is2 in cc
same_left d l m n final ms ns tails is (valueless name index option m_is final_is are found) (undeclared_first name2 tail2 item2 rest2 n_is are2 of2 none2) =
    let first = head_same (spec.option name None) item2 [] rest2 (sym are ∙ is ∙ are2) in
    let same_name = one_name name2 name (spec.option name None) (subst (IsOf name2) (sym first.0) of2) refl in
    absurd (let e : None ≡ Some index = sym none2 ∙ ap (index_of d.options) same_name ∙ found in cc)
same_left d l m n final ms ns tails is (valueless name index option m_is final_is are found) (flag_value option2 value2 n_is final_is2 are2) =
    let e : spec.option name None ∷ [] ≡ [] = sym are ∙ is ∙ are2 in cc
same_left d l m n final ms ns tails is (valueless name index option m_is final_is are found) (valueless name2 index2 option2 n_is final_is2 are2 found2) =
    let first = head_same (spec.option name None) (spec.option name2 None) [] [] (sym are ∙ is ∙ are2) in
    let same_name : name ≡ name2 = (let e = first.0 in cc) in
    let same_index : index ≡ index2 = (let e : Some index ≡ Some index2 = sym found ∙ ap (index_of d.options) same_name ∙ found2 in cc) in
    let same_option : option ≡ option2 = (let e : steps.missing (Some option) ≡ steps.missing (Some option2) = sym final_is ∙ final_is2 in cc) in
    m_is ∙ ap (λ i. missing_value i option) same_index ∙ ap (missing_value index2) same_option ∙ sym n_is
same_left d l m n final ms ns tails is (valueless name index option m_is final_is are found) (refused_first item2 s2 index2 value2 rest2 n_is are2 said2 of2 refused2) =
    let first = head_same (spec.option name None) item2 [] rest2 (sym are ∙ is ∙ are2) in
    absurd (none_refused d.options name s2 value2 (ap (parsed_item d.options) first.0 ∙ said2) refused2)
same_left d l m n final ms ns tails is (valueless name index option m_is final_is are found) (no_room word2 rest2 n_is are2 limit2) =
    let first = head_same (spec.option name None) (spec.positional word2) [] rest2 (sym are ∙ is ∙ are2) in absurd (let e : spec.option name None ≡ spec.positional word2 = first.0 in cc)
same_left d l m n final ms ns tails is (valueless name index option m_is final_is are found) (at_end lacks2 final_is2 are2) = let e : spec.option name None ∷ [] ≡ [] = sym are ∙ is ∙ are2 in cc
same_left d l m n final ms ns tails is (refused_first item s index value rest m_is are parsed of refused) (undeclared_first name2 tail2 item2 rest2 n_is are2 of2 none2) =
    let first = head_same item item2 rest rest2 (sym are ∙ is ∙ are2) in
    absurd (let e : None ≡ Some s = sym (undeclared d.options name2 item2 of2 none2) ∙ ap (parsed_item d.options) (sym first.0) ∙ parsed in cc)
same_left d l m n final ms ns tails is (refused_first item s index value rest m_is are parsed of refused) (flag_value option2 value2 n_is final_is2 are2) = let e : item ∷ rest ≡ [] = sym are ∙ is ∙ are2 in cc
same_left d l m n final ms ns tails is (refused_first item s index value rest m_is are parsed of refused) (valueless name2 index2 option2 n_is final_is2 are2 found2) =
    let first = head_same item (spec.option name2 None) rest [] (sym are ∙ is ∙ are2) in
    absurd (none_refused d.options name2 s value (ap (parsed_item d.options) (sym first.0) ∙ parsed) refused)
same_left d l m n final ms ns tails is (refused_first item s index value rest m_is are parsed of refused) (refused_first item2 s2 index2 value2 rest2 n_is are2 said2 of2 refused2) =
    let first = head_same item item2 rest rest2 (sym are ∙ is ∙ are2) in
    let same_parsed = same_Some s s2 (sym parsed ∙ ap (parsed_item d.options) first.0 ∙ said2) in
    let same_index = one_option index index2 s2 (subst (λ z. is_option index z ≡ true) same_parsed of) of2 in
    let same_value = same_Some value value2 (sym refused ∙ ap (refused_value d.options) same_parsed ∙ refused2) in
    m_is ∙ ap (λ i. invalid_value i value) same_index ∙ ap (invalid_value index2) same_value ∙ sym n_is
same_left d l m n final ms ns tails is (refused_first item s index value rest m_is are parsed of refused) (no_room word2 rest2 n_is are2 limit2) =
    let first = head_same item (spec.positional word2) rest rest2 (sym are ∙ is ∙ are2) in
    absurd (no_option word2 index s (ap (parsed_item d.options) (sym first.0) ∙ parsed) of)
same_left d l m n final ms ns tails is (refused_first item s index value rest m_is are parsed of refused) (at_end lacks2 final_is2 are2) = let e : item ∷ rest ≡ [] = sym are ∙ is ∙ are2 in cc
same_left d l m n final ms ns tails is (no_room word rest m_is are limit) (undeclared_first name2 tail2 item2 rest2 n_is are2 of2 none2) =
    let first = head_same (spec.positional word) item2 rest rest2 (sym are ∙ is ∙ are2) in absurd (no_name name2 word item2 (sym first.0) of2)
same_left d l m n final ms ns tails is (no_room word rest m_is are limit) (flag_value option2 value2 n_is final_is2 are2) = let e : spec.positional word ∷ rest ≡ [] = sym are ∙ is ∙ are2 in cc
same_left d l m n final ms ns tails is (no_room word rest m_is are limit) (valueless name2 index2 option2 n_is final_is2 are2 found2) =
    let first = head_same (spec.positional word) (spec.option name2 None) rest [] (sym are ∙ is ∙ are2) in absurd (let e : spec.positional word ≡ spec.option name2 None = first.0 in cc)
same_left d l m n final ms ns tails is (no_room word rest m_is are limit) (refused_first item2 s2 index2 value2 rest2 n_is are2 said2 of2 refused2) =
    let first = head_same (spec.positional word) item2 rest rest2 (sym are ∙ is ∙ are2) in
    absurd (no_option word index2 s2 (ap (parsed_item d.options) first.0 ∙ said2) of2)
same_left d l m n final ms ns tails is (no_room word rest m_is are limit) (no_room word2 rest2 n_is are2 limit2) =
    let first = head_same (spec.positional word) (spec.positional word2) rest rest2 (sym are ∙ is ∙ are2) in
    let same_word : word ≡ word2 = (let e = first.0 in cc) in
    m_is ∙ ap unexpected_argument same_word ∙ sym n_is
same_left d l m n final ms ns tails is (no_room word rest m_is are limit) (at_end lacks2 final_is2 are2) = let e : spec.positional word ∷ rest ≡ [] = sym are ∙ is ∙ are2 in cc
same_left d l m n final ms ns tails is (at_end lacks final_is are) (undeclared_first name2 tail2 item2 rest2 n_is are2 of2 none2) = let e : [] ≡ item2 ∷ rest2 = sym are ∙ is ∙ are2 in cc
same_left d l m n final ms ns tails is (at_end lacks final_is are) (flag_value option2 value2 n_is final_is2 are2) = let e : steps.end ≡ steps.unexpected option2 value2 = sym final_is ∙ final_is2 in cc
same_left d l m n final ms ns tails is (at_end lacks final_is are) (valueless name2 index2 option2 n_is final_is2 are2 found2) = let e : [] ≡ spec.option name2 None ∷ [] = sym are ∙ is ∙ are2 in cc
same_left d l m n final ms ns tails is (at_end lacks final_is are) (refused_first item2 s2 index2 value2 rest2 n_is are2 said2 of2 refused2) = let e : [] ≡ item2 ∷ rest2 = sym are ∙ is ∙ are2 in cc
same_left d l m n final ms ns tails is (at_end lacks final_is are) (no_room word2 rest2 n_is are2 limit2) = let e : [] ≡ spec.positional word2 ∷ rest2 = sym are ∙ is ∙ are2 in cc
same_left d l m n final ms ns tails is (at_end lacks final_is are) (at_end lacks2 final_is2 are2) = same_missing d l m n lacks lacks2

-- what was read before a mistake, and what is unread
stops_compared : (d : Declaration) (l k : List Parsed) (m n : Mistake) (final : Reply) (xs ys ms ns : List Item) → map (parsed_item d.options) xs ≡ map (λ s. Some s) l
    → map (parsed_item d.options) ys ≡ map (λ s. Some s) k → IsWithin (positional_count l) (most d.positionals) → IsWithin (positional_count k) (most d.positionals)
    → are_accepted d.options l ≡ true → are_accepted d.options k ≡ true → (xs ≡ ys → SameTails m n) → Left d l m final ms → Left d k n final ns → Compared xs ys ms ns → (l ≡ k) × (m ≡ n)
stops_compared d l k m n final xs ys ms ns parsed too within room accepted taken tails left other (same front back) =
    let lists : l ≡ k = same_somes l k (sym parsed ∙ ap (map (parsed_item d.options)) front ∙ too) in
    (lists, same_left d k m n final ms ns (tails front) back (subst (λ i. Left d i m final ms) lists left) other)
stops_compared d l k m n final xs ys ms ns parsed too within room accepted taken tails left other (shorter x rest front back) =
    absurd (not_shorter d l k m final xs ms ns x rest parsed (subst (λ s. map (parsed_item d.options) s ≡ map (λ s. Some s) k) front too) room taken back left
    (λ option is none. no_missing d k n final ns option is none other))
stops_compared d l k m n final xs ys ms ns parsed too within room accepted taken tails left other (longer x rest front back) =
    absurd (not_shorter d k l n final ys ns ms x rest too (subst (λ s. map (parsed_item d.options) s ≡ map (λ s. Some s) l) front parsed) within accepted back other
    (λ option is none. no_missing d l m final ms option is none left))

pub one_stop : (d : Declaration) (words : List (List ℕ)) (l k : List Parsed) (m n : Mistake) → StopsAt d words l m → StopsAt d words k n → (l ≡ k) × (m ≡ n)
one_stop d words l k m n stops again =
    let t = table d.options in
    let u = start d.short_equals words in
    let left = left_of d l stops.there m stops.read.line stops.stops in
    let other = left_of d k again.there n again.read.line again.stops in
    let both = no_other_reading t u left.final other.final (stops.read.items ++ left.items) (again.read.items ++ other.items)
    (says_items t u stops.there stops.read.items stops.read.read left.final left.items left.reading)
    (says_items t u again.there again.read.items again.read.read other.final other.items other.reading) in
    stops_compared d l k m n left.final stops.read.items again.read.items left.items other.items stops.read.parsed again.read.parsed stops.read.within again.read.within stops.accepted again.accepted tails left.left
    (subst (λ f. Left d k n f other.items) (sym both.0) other.left) (compared stops.read.items again.read.items left.items other.items both.1)
  where
    tails : stops.read.items ≡ again.read.items → SameTails m n
    tails front =
        let line : stops.there ≡ again.there =
        one_line_left (table d.options) (start d.short_equals words) stops.there again.there again.read.items
        (subst (λ (items : List Item). ReadsItems (table d.options) (start d.short_equals words) items stops.there) front stops.read.read) again.read.read in
        same_tails d l k again.there m n (subst (λ (u : UnreadLine). Stops d l u m) line stops.stops) again.stops
