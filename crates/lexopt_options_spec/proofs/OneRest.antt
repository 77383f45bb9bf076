-- Words have one rest, and what is read of them before it is what the front says.
use Rattle.lexopt_options_spec.proofs.Common.{◌≡◌, ◌≢◌, ◌≤◌, ◌+◌, ◌⊎◌, ℕ, Bool, true, false, List, [], ◌∷◌, ◌++◌, length, map, Option, Some, None, refl, sym, ap, subst, ◌∙◌, inl, inr, ⊎_elim}
use Rattle.lexopt_options_spec.proofs.Common.{append-nil, append_assoc, arith, true≢false, false≢true, append_cancel_right, length-append, same_Some, IsLine, IsPlain, TailFits, UnreadLine, dash}
use Rattle.lexopt_options_spec.proofs.Common.{no_tail, Item, Name, Table, kind, IsReading, ReadsFirst, ReadsItems, first_positional, item_after, items_of_replies, option_reply, start, Spells}
use Rattle.lexopt_options_spec.proofs.Common.{next_same, one_line_left, one_more_item, says_items, spelled_shows, no_other_reading, option_reading, some_reading, reads_last, reads_refused}
use Rattle.lexopt_options_spec.proofs.Common.{says_positional, step_line, shown_read, Declaration, Declared, index_of, table, IsWithin, MeansFront, Parsed, are_accepted, counts, is_option, most}
use Rattle.lexopt_options_spec.proofs.Common.{positional_count, parsed_item, Says, IsOfOption, Mistake, ReadsUpTo, Stops, invalid_value, not_declared, value_of_flag, no_value, not_accepted, Next}
use Rattle.lexopt_options_spec.proofs.Common.{NextStep, Reply, after_separator, next_word, no_word_left, reads_separator, word_left, IsOf}
use Rattle.lexopt_spec.specs.Steps as steps
use Rattle.lexopt_spec.specs.Runs as calls
use Rattle.lexopt_line_spec.specs.Table as spec
use Rattle.lexopt_options_spec.specs.Legal as legal
use Rattle.lexopt_options_spec.specs.Rest.{EndsSeparated, HaveNoRest, IsSplit, IsWithoutRest, RestStart, separated, surplus}
use Rattle.lexopt_options_spec.proofs.Cuts.{enough, items_cut}
use Rattle.lexopt_options_spec.proofs.Fronts.{item_of, not_refused, spelled_read, undeclared}
use Rattle.lexopt_options_spec.proofs.Growing.{EndsSo, ended_before, ends_so, items_calm, longer, open_there, separator_last, step_more}
use Rattle.lexopt_options_spec.proofs.Lists.{Later, first_is, first_none, first_same, last_item, not_empty, same_last, split}
use Rattle.lexopt_options_spec.proofs.Occurs.{dashes_calm}
use Rattle.lexopt_options_spec.proofs.OpenLines.{dashes}
use Rattle.lexopt_options_spec.proofs.PastSeparator.{ended_stays, first_stays, items_line, items_stay, named_open, open_before, option_open}
use Rattle.lexopt_options_spec.proofs.ReadItems.{ReadsAll}
use Rattle.lexopt_options_spec.proofs.Rests.{word_is, word_read}
use Rattle.lexopt_options_spec.proofs.Sound.{known}

-- ---- positionals among items

abbrev pub is_word : Item → ℕ
is_word (spec.positional word) = 1
is_word item = 0

-- how many of these items are positionals
abbrev pub count_items : List Item → ℕ
count_items [] = 0
count_items (x ∷ xs) = is_word x + count_items xs

word_counts : (options : List Declared) (x : Item) (s : Parsed) → parsed_item options x ≡ Some s → is_word x ≡ counts s
word_counts options (spec.positional word) s is = ap counts (same_Some (legal.positional word) s is)
word_counts options (spec.option name value) s is = ap counts (known (λ i. legal.option i value) (index_of options name) s is).2
word_counts options (spec.many name values) s is = ap counts (known (λ i. legal.several i values) (index_of options name) s is).2

same_count : (options : List Declared) (items : List Item) (l : List Parsed) → map (parsed_item options) items ≡ map (λ s. Some s) l → count_items items ≡ positional_count l
same_count options [] [] is = refl
same_count options (x ∷ items) (s ∷ l) is =
    let parts = first_same (parsed_item options x) (Some s) (map (parsed_item options) items) (map (λ x. Some x) l) is in
    let one = word_counts options x s parts.0 in
    let others = same_count options items l parts.1 in omega (arith, one, others)
same_count options items l is = cc

-- the last of these items is this positional
last_word : (options : List Declared) (items : List Item) (l : List Parsed) (word : List ℕ) → map (parsed_item options) items ≡ map (λ s. Some s) (l ++ legal.positional word ∷ [])
    → (front : List Item) × (items ≡ front ++ spec.positional word ∷ []) × (map (parsed_item options) front ≡ map (λ s. Some s) l)
last_word options items l word is = let own = last_item (parsed_item options) items l (legal.positional word) is in (own.0, own.2 ∙ ap (λ x. own.0 ++ x ∷ []) (item_is own.1 own.3), own.4)
  where
    word_of : Parsed → List ℕ
    word_of (legal.positional w) = w
    word_of s = []

    item_is : (y : Item) → parsed_item options y ≡ Some (legal.positional word) → y ≡ spec.positional word
    item_is (spec.positional other) same = ap (λ s. spec.positional (word_of s)) (same_Some (legal.positional other) (legal.positional word) same)
    item_is y same = absurd (let e = word_counts options y (legal.positional word) same in omega (arith, e))

-- one list of items begins the other, where a positional comes after the first
begins_other : (xs ys a zs : List Item) (word : List ℕ) → xs ++ spec.positional word ∷ a ≡ ys ++ zs
    → ((k : List Item) × (xs ≡ ys ++ k) × (k ++ spec.positional word ∷ a ≡ zs)) ⊎ ((k : List Item) × (ys ≡ xs ++ spec.positional word ∷ k))
begins_other xs [] a zs word is = inl (xs, refl, is)
begins_other [] (y ∷ ys) a zs word is = inr (ys, ap (λ x. x ∷ ys) (sym (first_same (spec.positional word) y a (ys ++ zs) is).0))
begins_other (x ∷ xs) (y ∷ ys) a zs word is =
    let parts = first_same x y (xs ++ spec.positional word ∷ a) (ys ++ zs) is in
    ⊎_elim (λ rest. inl (rest.0, ap (λ z. z ∷ xs) parts.0 ∙ ap (λ l. y ∷ l) rest.1, rest.2)) (λ rest. inr (rest.0, ap (λ z. z ∷ ys) (sym parts.0) ∙ ap (λ l. x ∷ l) rest.1))
    (begins_other xs ys a zs word parts.1)

counts_append : (xs ys : List Item) → count_items (xs ++ ys) ≡ count_items xs + count_items ys
counts_append [] ys = omega arith
counts_append (x ∷ xs) ys = let rest = counts_append xs ys in omega (arith, rest)

-- ---- the reading of a front

-- the items are read one part after the other
items_split : (t : Table) (u w : UnreadLine) (xs ys : List Item) → ReadsItems t u (xs ++ ys) w → (x : UnreadLine) × ReadsItems t u xs x × ReadsItems t x ys w
items_split t u w [] ys reads = (u, refl, reads)
items_split t u w (x ∷ xs) ys (v, first, others) = let rest = items_split t v w xs ys others in (rest.0, (v, first, rest.1), rest.2)

-- a positional is read by one call
word_first : (t : Table) (u w : UnreadLine) (word : List ℕ) → ReadsFirst t u (spec.positional word) w → NextStep u (steps.positional word) w
word_first t u w word (first_positional other v step) = enough NextStep u (steps.positional word) w step (λ none. cc)

-- before the rest, the line u does not have the separator behind it, where that ends the front
abbrev pub IsBefore : RestStart → UnreadLine → Type 0
IsBefore start u = start ≡ separated → u.ended ≡ false

-- where the front ends: as many positionals were read as there may be, or the separator comes
abbrev pub IsEnd : RestStart → Declaration → List Parsed → UnreadLine → UnreadLine → Type 0
IsEnd surplus d l there after = most d.positionals ≡ Some (positional_count l)
IsEnd separated d l there after = (there.ended ≡ false) × (after.ended ≡ true) × IsWithin (positional_count l) (most d.positionals)

-- the front is read, and then the first word of the rest
pub record SplitRead (start_of : RestStart) (d : Declaration) (words : List (List ℕ)) (l : List Parsed) (word : List ℕ) (more : List (List ℕ)) : Type 0 where
  pub items : List Item
  pub parsed : map (parsed_item d.options) items ≡ map (λ s. Some s) l
  pub there : UnreadLine
  pub reads : ReadsItems (table d.options) (start d.short_equals words) items there
  pub after : UnreadLine
  pub step : NextStep there (steps.positional word) after
  pub left : after.words ≡ more
  pub ends : IsEnd start_of d l there after

some_word : (x z : UnreadLine) (word : List ℕ) → NextStep x (steps.positional word) z → x.words ≢ []
some_word x z word step none = let read = word_read x z word step in not_empty read.before z.words word (sym read.words_are ∙ none)

surplus_read : (d : Declaration) (words front : List (List ℕ)) (word : List ℕ) (more : List (List ℕ)) (split : IsSplit surplus d words front word more) → SplitRead surplus d words split.l word more
surplus_read d words front word more split =
    let t = table d.options in
    let e = d.short_equals in
    let short = front ++ word ∷ [] in
    let own = last_word d.options split.begins.items split.l word split.begins.parsed in
    let items = own.0 in
    let read = spelled_read t e short (items ++ spec.positional word ∷ []) (subst (Spells t e short) own.1 split.begins.spelled) in
    let all = read.1 in
    let parts = items_split t (start e short) all.there items (spec.positional word ∷ []) all.reads in
    let step = word_first t parts.0 all.there word (subst (ReadsFirst t parts.0 (spec.positional word)) (sym parts.2.2) parts.2.1) in
    let cut = items_cut t (start e short) all.there (items ++ spec.positional word ∷ []) [] all.there.words refl all.reads in
    let none = no_words parts.0 all.there read.0 cut.before cut.words_are step (ends_so all.there read.0 all.ends) in
    let whole : short ++ more ≡ words = append_assoc front (word ∷ []) more ∙ sym split.words_are in
    record {
      items = items;
      parsed = own.2;
      there = longer more parts.0;
      reads = subst (λ ws. ReadsItems t (start e ws) items (longer more parts.0)) whole (items_calm t more (start e short) parts.0 items tt (λ empty. absurd (some_word parts.0 all.there word step empty)) parts.1);
      after = longer more all.there;
      step = step_more parts.0 all.there (steps.positional word) more (λ same. cc) step;
      left = ap (λ l. l ++ more) none;
      ends = split.here;
    }
  where
    no_words : (u w v : UnreadLine) (before : List (List ℕ)) → front ++ word ∷ [] ≡ before ++ w.words → NextStep u (steps.positional word) w → EndsSo w v → w.words ≡ []
    no_words u w v before are step (ended_before none ended empty after) = empty
    no_words u w v before are step (open_there none not empty after) = empty
    no_words u w v before are step (separator_last none not one after) =
        let same = (same_last before front (dash ∷ dash ∷ []) word (ap (λ l. before ++ l) (sym one) ∙ sym are)).1 in
        absurd (dashes_calm [] (subst (IsPlain false) (sym same) ((word_read u w word step).plain not)))

-- the words before the separator are read, and no word is left
pub record OpenRead (d : Declaration) (before : List (List ℕ)) (l : List Parsed) : Type 0 where
  pub items : List Item
  pub parsed : map (parsed_item d.options) items ≡ map (λ s. Some s) l
  pub there : UnreadLine
  pub reads : ReadsItems (table d.options) (start d.short_equals before) items there
  pub none : there.tail ≡ no_tail
  pub not : there.ended ≡ false
  pub empty : there.words ≡ []

pub open_read : (d : Declaration) (before : List (List ℕ)) (l : List Parsed) → Says d before l → Says d (before ++ dashes ∷ []) l → OpenRead d before l
open_read d before l own with_separator =
    let t = table d.options in
    let e = d.short_equals in
    let read = spelled_read t e before own.items own.spelled in
    by read.0 read.1 (ends_so read.1.there read.0 read.1.ends)
  where
    t : Table
    t = table d.options

    s : UnreadLine
    s = start d.short_equals before

    -- a word after these is not read as a positional
    never : (u v : UnreadLine) → ReadsItems t (longer (dashes ∷ []) s) own.items u → NextStep u (steps.positional dashes) v → ⊥
    never u v reads step =
        let line = items_line t (longer (dashes ∷ []) s) u own.items tt reads in
        let later = some_reading t v (step_line calls.next u (steps.positional dashes) v line (inl step)) in
        let reading = says_items t (longer (dashes ∷ []) s) u own.items reads later.0 (spec.positional dashes ∷ later.1) (says_positional t u v dashes (inl step) later.0 later.1 later.2) in
        let other = shown_read t d.short_equals (before ++ dashes ∷ []) with_separator.items (spelled_shows t d.short_equals (before ++ dashes ∷ []) with_separator.items with_separator.spelled) in
        let same = no_other_reading t (longer (dashes ∷ []) s) later.0 steps.end (own.items ++ spec.positional dashes ∷ later.1) with_separator.items reading other in
        let a = same_count d.options own.items l own.parsed in
        let b = same_count d.options with_separator.items l with_separator.parsed in
        let c = ap count_items same.1 ∙ b in
        let f = counts_append own.items (spec.positional dashes ∷ later.1) in omega (arith, a, c, f)

    -- with the separator after them the items are read in the same way
    longer_reads : (there : UnreadLine) → ReadsItems t s own.items there → ReadsItems t (longer (dashes ∷ []) s) own.items (longer (dashes ∷ []) there)
    longer_reads there reads = items_calm t (dashes ∷ []) s there own.items tt (λ no_words no_left. dashes_calm []) reads

    by : (after : UnreadLine) (all : ReadsAll t s own.items after) → EndsSo all.there after → OpenRead d before l
    by after all (open_there none not empty is) = record { items = own.items; parsed = own.parsed; there = all.there; reads = all.reads; none = none; not = not; empty = empty }
    by after all (ended_before none ended empty is) =
        absurd (never (longer (dashes ∷ []) all.there) (record all.there { words = [] }) (longer_reads all.there all.reads) (after_separator none ended (word_left dashes [] (ap (λ l. l ++ dashes ∷ []) empty) refl refl)))
    by after all (separator_last none not one is) =
        absurd (never (longer (dashes ∷ []) all.there) (record all.there { words = []; ended = true }) (longer_reads all.there all.reads)
        (next_word none not (reads_separator (dashes ∷ []) (ap (λ l. l ++ dashes ∷ []) one) (word_left dashes [] refl refl refl))))

separated_read : (d : Declaration) (words front : List (List ℕ)) (word : List ℕ) (more : List (List ℕ)) (split : IsSplit separated d words front word more) → SplitRead separated d words split.l word more
separated_read d words front word more split =
    let t = table d.options in
    let e = d.short_equals in
    let here = split.here in
    let read = open_read d here.before split.l here.says (subst (λ ws. Says d ws split.l) here.words_are split.says) in
    let tail = dashes ∷ word ∷ more in
    let whole : here.before ++ tail ≡ words = sym (split.words_are ∙ ap (λ ws. ws ++ word ∷ more) here.words_are ∙ append_assoc here.before (dashes ∷ []) (word ∷ more)) in
    record {
      items = read.items;
      parsed = read.parsed;
      there = longer tail read.there;
      reads = subst (λ ws. ReadsItems t (start e ws) read.items (longer tail read.there)) whole (items_calm t tail (start e here.before) read.there read.items tt (λ no_words no_left. dashes_calm (word ∷ more)) read.reads);
      after = record read.there { words = more; ended = true };
      step = next_word read.none read.not (reads_separator (word ∷ more) (ap (λ l. l ++ tail) read.empty) (word_left word more refl refl refl));
      left = refl;
      ends = (read.not, refl, here.within);
    }

split_read : (start_of : RestStart) (d : Declaration) (words front : List (List ℕ)) (word : List ℕ) (more : List (List ℕ)) (split : IsSplit start_of d words front word more) → SplitRead start_of d words split.l word more
split_read surplus d words front word more split = surplus_read d words front word more split
split_read separated d words front word more split = separated_read d words front word more split

-- the whole line is read so
whole : {start_of : RestStart} (d : Declaration) (words : List (List ℕ)) (l : List Parsed) (word : List ℕ) (more : List (List ℕ)) (read : SplitRead start_of d words l word more)
    → (final : Reply) × (m : List Item) × IsReading (table d.options) (start d.short_equals words) final (read.items ++ spec.positional word ∷ m)
whole d words l word more read =
    let t = table d.options in
    let after = word_read read.there read.after word read.step in
    let later = some_reading t read.after (subst (λ tail. TailFits tail read.after.last read.after.ended) (sym after.none) tt) in
    (later.0, later.1, says_items t (start d.short_equals words) read.there read.items read.reads later.0 (spec.positional word ∷ later.1) (says_positional t read.there read.after word (inl read.step) later.0 later.1 later.2))

-- ---- what is read before the rest is of the front

-- these items are the front, or it goes on with others
record InFront (front : List Item) (word : List ℕ) (read xs : List Item) : Type 0 where
  k : List Item
  m : List Item
  are : front ≡ read ++ k
  items_are : k ++ spec.positional word ∷ m ≡ xs

in_front : (start_of : RestStart) (d : Declaration) (words : List (List ℕ)) (l : List Parsed) (word : List ℕ) (more : List (List ℕ)) (own : SplitRead start_of d words l word more) (before : List Parsed) (u : UnreadLine) (read : ReadsUpTo d (start d.short_equals words) before u)
    → IsBefore start_of u → (final : Reply) (xs : List Item) → IsReading (table d.options) u final xs → InFront own.items word read.items xs
in_front start_of d words l word more own before u read yet final xs reading =
    let t = table d.options in
    let a = whole d words l word more own in
    let same = no_other_reading t (start d.short_equals words) a.0 final (own.items ++ spec.positional word ∷ a.1) (read.items ++ xs) a.2 (says_items t (start d.short_equals words) u read.items read.read final xs reading) in
    ⊎_elim (λ found. record { k = found.0; m = a.1; are = found.1; items_are = found.2 }) (λ longer. absurd (never start_of own yet longer.0 longer.1))
    (begins_other own.items read.items a.1 xs word same.1)
  where
    never : (s : RestStart) (own : SplitRead s d words l word more) → IsBefore s u → (k : List Item) → read.items ≡ own.items ++ spec.positional word ∷ k → ⊥
    never surplus own is_before k are =
        let few : positional_count before ≤ positional_count l = subst (IsWithin (positional_count before)) own.ends read.within in
        let one = same_count d.options own.items l own.parsed in
        let two = same_count d.options read.items before read.parsed in
        let three = ap count_items are ∙ counts_append own.items (spec.positional word ∷ k) in omega (arith, few, one, two, three)
    never separated own is_before k are =
        let t = table d.options in
        let s = start d.short_equals words in
        let parts = items_split t s u own.items (spec.positional word ∷ k) (subst (λ xs. ReadsItems t s xs u) are read.read) in
        let there = one_line_left t s parts.0 own.there own.items parts.1 own.reads in
        let first = parts.2 in
        let step = subst (λ x. NextStep x (steps.positional word) first.0) there (word_first t parts.0 first.0 word first.1) in
        let after = (next_same own.there (steps.positional word) (steps.positional word) first.0 own.after step own.step).1 in
        let line = items_line t s first.0 (own.items ++ spec.positional word ∷ []) tt (one_more_item t s parts.0 first.0 own.items (spec.positional word) parts.1 first.1) in
        true≢false (sym (items_stay t first.0 u k line first.2 (ap (λ (x : UnreadLine). x.ended) after ∙ own.ends.1)) ∙ is_before refl)

-- the front is read so
split_upto : {start_of : RestStart} (d : Declaration) (words : List (List ℕ)) (l : List Parsed) (word : List ℕ) (more : List (List ℕ)) (own : SplitRead start_of d words l word more) → ReadsUpTo d (start d.short_equals words) l own.there
split_upto {start_of} d words l word more own = record {
  items = own.items;
  read = own.reads;
  line = items_line (table d.options) (start d.short_equals words) own.there own.items tt own.reads;
  parsed = own.parsed;
  within = within start_of own;
}
  where
    within : (s : RestStart) (own : SplitRead s d words l word more) → IsWithin (positional_count l) (most d.positionals)
    within surplus own = let enough : positional_count l ≤ positional_count l = omega arith in subst (IsWithin (positional_count l)) (sym own.ends) enough
    within separated own = own.ends.2

split_before : (start_of : RestStart) (d : Declaration) (words : List (List ℕ)) (l : List Parsed) (word : List ℕ) (more : List (List ℕ)) (own : SplitRead start_of d words l word more) → IsBefore start_of own.there
split_before surplus d words l word more own = λ is. cc
split_before separated d words l word more own = λ is. own.ends.0

-- ---- words have one rest

pub one_rest : {start_of : RestStart} (d : Declaration) (words front front2 : List (List ℕ)) (word word2 : List ℕ) (more more2 : List (List ℕ)) → IsSplit start_of d words front word more → IsSplit start_of d words front2 word2 more2 → (front ≡ front2) × (word ∷ more ≡ word2 ∷ more2)
unfolding split_read split_upto
one_rest {start_of} d words front front2 word word2 more more2 one two =
    let t = table d.options in
    let s = start d.short_equals words in
    let first = split_read start_of d words front word more one in
    let second = split_read start_of d words front2 word2 more2 two in
    let a = rest_reading first in
    let b = rest_reading second in
    let there_in = in_front start_of d words two.l word2 more2 second one.l first.there (split_upto d words one.l word more first) (split_before start_of d words one.l word more first) a.0 a.1 a.2 in
    let here_in = in_front start_of d words one.l word more first two.l second.there (split_upto d words two.l word2 more2 second) (split_before start_of d words two.l word2 more2 second) b.0 b.1 b.2 in
    let items : first.items ≡ second.items = same_lists first.items second.items here_in.k there_in.k here_in.are there_in.are in
    let there = one_line_left t s first.there second.there second.items (subst (λ xs. ReadsItems t s xs first.there) items first.reads) second.reads in
    let both = next_same second.there (steps.positional word) (steps.positional word2) first.after second.after (subst (λ u. NextStep u (steps.positional word) first.after) there first.step) second.step in
    let rest = ap (λ w. w ∷ more) (word_is word word2 (sym both.0)) ∙ ap (λ ws. word2 ∷ ws) (sym first.left ∙ ap (λ (v : UnreadLine). v.words) both.1 ∙ second.left) in
    (append_cancel_right front front2 (word2 ∷ more2) (ap (λ r. front ++ r) (sym rest) ∙ sym one.words_are ∙ two.words_are), rest)
  where
    rest_reading : {l : List Parsed} {w : List ℕ} {ws : List (List ℕ)} (own : SplitRead start_of d words l w ws) → (final : Reply) × (xs : List Item) × IsReading (table d.options) own.there final xs
    rest_reading own = some_reading (table d.options) own.there (items_line (table d.options) (start d.short_equals words) own.there own.items tt own.reads)

    same_lists : (xs ys k j : List Item) → xs ≡ ys ++ k → ys ≡ xs ++ j → xs ≡ ys
    same_lists xs ys [] j is too = is ∙ append-nil ys
    same_lists xs ys (x ∷ k) j is too =
        let a = ap length is ∙ length-append ys (x ∷ k) in
        let b = ap length too ∙ length-append xs j in absurd (omega (arith, a, b))

-- ---- what is read before the rest

-- this was read of the words: the front goes on with these items, and then the rest begins
pub record GoesOn (d : Declaration) (before l : List Parsed) (word : List ℕ) (xs : List Item) : Type 0 where
  pub k : List Item
  pub m : List Item
  pub items_are : k ++ spec.positional word ∷ m ≡ xs
  pub later : Later (parsed_item d.options) k before l

goes_on : {start_of : RestStart} (d : Declaration) (words front : List (List ℕ)) (word : List ℕ) (more : List (List ℕ)) (part : IsSplit start_of d words front word more) (before : List Parsed) (u : UnreadLine) → ReadsUpTo d (start d.short_equals words) before u
    → IsBefore start_of u → (final : Reply) (xs : List Item) → IsReading (table d.options) u final xs → GoesOn d before part.l word xs
goes_on {start_of} d words front word more part before u read is_before final xs reading =
    let own = split_read start_of d words front word more part in
    let k = in_front start_of d words part.l word more own before u read is_before final xs reading in
    record { k = k.k; m = k.m; items_are = k.items_are; later = split (parsed_item d.options) read.items k.k before part.l read.parsed (sym (ap (map (parsed_item d.options)) k.are) ∙ own.parsed) }

-- words that are read to their end have no rest
pub ended_alone : {start_of : RestStart} (d : Declaration) (words : List (List ℕ)) (l : List Parsed) (u v : UnreadLine) → ReadsUpTo d (start d.short_equals words) l u → IsBefore start_of u → Next u steps.end v → HaveNoRest start_of d words
ended_alone d words l u v read is_before next front word more part =
    let on = goes_on d words front word more part l u read is_before steps.end [] (reads_last (table d.options) u v steps.end tt next) in not_empty on.k on.m (spec.positional word) on.items_are

-- words with one positional too many, and no separator before it, have none after a separator
pub surplus_alone : (d : Declaration) (words : List (List ℕ)) (l : List Parsed) (u v : UnreadLine) (other : List ℕ) → ReadsUpTo d (start d.short_equals words) l u → Next u (steps.positional other) v → v.ended ≡ false → most d.positionals ≡ Some (positional_count l)
    → HaveNoRest separated d words
surplus_alone d words l u v other read next not full front word more part =
    let t = table d.options in
    let own = split_read separated d words front word more part in
    let step = enough NextStep u (steps.positional other) v next (λ none. cc) in
    let later = some_reading t v (step_line calls.next u (steps.positional other) v read.line next) in
    let k = in_front separated d words part.l word more own l u read (λ _. open_too u.ended refl step) later.0 (spec.positional other ∷ later.1) (says_positional t u v other next later.0 later.1 later.2) in
    by own step k.k k.m later.1 k.are k.items_are
  where
    open_too : (b : Bool) → u.ended ≡ b → NextStep u (steps.positional other) v → u.ended ≡ false
    open_too false is step = is
    open_too true is step = absurd (true≢false (sym (ended_stays u v other step is) ∙ not))

    by : (own : SplitRead separated d words part.l word more) → NextStep u (steps.positional other) v → (k m xs : List Item) → own.items ≡ read.items ++ k → k ++ spec.positional word ∷ m ≡ spec.positional other ∷ xs → ⊥
    by own step [] m xs are items_are =
        let t = table d.options in
        let s = start d.short_equals words in
        let there = one_line_left t s own.there u read.items (subst (λ xs. ReadsItems t s xs own.there) (are ∙ append-nil read.items) own.reads) read.read in
        let after = (next_same u (steps.positional word) (steps.positional other) own.after v (subst (λ x. NextStep x (steps.positional word) own.after) there own.step) step).1 in
        true≢false (sym own.ends.1 ∙ ap (λ (x : UnreadLine). x.ended) after ∙ not)
    by own step (x ∷ k) m xs are items_are =
        let few : positional_count part.l ≤ positional_count l = subst (IsWithin (positional_count part.l)) full own.ends.2 in
        let one = same_count d.options own.items part.l own.parsed in
        let two = same_count d.options read.items l read.parsed in
        let three = ap count_items are ∙ counts_append read.items (x ∷ k) in
        let four = ap is_word (first_same x (spec.positional other) (k ++ spec.positional word ∷ m) xs items_are).0 in omega (arith, few, one, two, three, four)

-- words that are a front themselves have no positional that is one too many
pub front_alone : (d : Declaration) (words : List (List ℕ)) (l : List Parsed) → MeansFront d words l → HaveNoRest surplus d words
front_alone d words l means =
    let read = spelled_read (table d.options) d.short_equals words means.items means.spelled in
    ended_alone {start_of = surplus} d words l read.1.there read.0
    (record { items = means.items; read = read.1.reads; line = items_line (table d.options) (start d.short_equals words) read.1.there means.items tt read.1.reads; parsed = means.parsed; within = means.within }) (λ is. cc) (inl read.1.ends)

pub none_alone : (start_of : RestStart) (d : Declaration) (words : List (List ℕ)) (l : List Parsed) → IsWithoutRest start_of d words → MeansFront d words l → HaveNoRest start_of d words
none_alone surplus d words l alone means = front_alone d words l means
none_alone separated d words l alone means = alone

pub front_begins : {start_of : RestStart} (d : Declaration) (words front : List (List ℕ)) (word : List ℕ) (more : List (List ℕ)) (part : IsSplit start_of d words front word more) (before : List Parsed) (u : UnreadLine) → ReadsUpTo d (start d.short_equals words) before u
    → IsBefore start_of u → (later : List Parsed) × (part.l ≡ before ++ later)
front_begins d words front word more part before u read is_before =
    let r = some_reading (table d.options) u read.line in
    let on = goes_on d words front word more part before u read is_before r.0 r.1 r.2 in (on.later.later, on.later.all_are)

-- the first item is not a positional, so the front goes on with it
first_option : (k m xs : List Item) (word : List ℕ) (x : Item) → is_word x ≡ 0 → k ++ spec.positional word ∷ m ≡ x ∷ xs → (k2 : List Item) × (k ≡ x ∷ k2) × (k2 ++ spec.positional word ∷ m ≡ xs)
first_option [] m xs word x other is = absurd (let e = ap is_word (first_same (spec.positional word) x m xs is).0 in omega (arith, e, other))
first_option (y ∷ k) m xs word x other is = let parts = first_same y x (k ++ spec.positional word ∷ m) xs is in (k, ap (λ z. z ∷ k) parts.0, parts.1)

of_name : (name : Name) (item : Item) → IsOf name item → is_word item ≡ 0
of_name name (spec.positional word) is = absurd is
of_name name item is = refl

items_one : (name : Name) (o : Option (List ℕ)) → items_of_replies (option_reply name ∷ steps.missing o ∷ []) ≡ spec.option name None ∷ []
items_one (spec.short c) o = refl
items_one (spec.long name) o = refl

-- one thing that is read is one item
one_item : (options : List Declared) (items : List Item) (s : Parsed) → map (parsed_item options) items ≡ map (λ x. Some x) (s ∷ []) → (x : Item) × (items ≡ x ∷ []) × (parsed_item options x ≡ Some s)
one_item options [] s are = absurd (let e : [] ≡ Some s ∷ [] = are in cc)
one_item options (x ∷ []) s are = (x, refl, (first_same (parsed_item options x) (Some s) [] [] are).0)
one_item options (x ∷ y ∷ items) s are = absurd (let e : parsed_item options y ∷ map (parsed_item options) items ≡ [] = (first_same (parsed_item options x) (Some s) (parsed_item options y ∷ map (parsed_item options) items) [] are).1 in cc)

not_counted : (s : Parsed) (index : ℕ) → is_option index s ≡ true → counts s ≡ 0
not_counted (legal.positional word) index is = absurd (false≢true is)
not_counted s index is = refl

-- an option is read before the separator
first_item_open : (t : Table) (u w : UnreadLine) (item : Item) → is_word item ≡ 0 → IsLine u → ReadsFirst t u item w → u.ended ≡ false
first_item_open t u w item none line reads = before u.ended refl
  where
    before : (b : Bool) → u.ended ≡ b → u.ended ≡ false
    before false is = is
    before true is = absurd (true≢false (sym (first_stays t u w item line reads is) ∙ option_open t u w item line reads (λ word same. let e = ap is_word same in omega (arith, e, none))))

-- where an option was read last, the separator was not read
pub last_open : (d : Declaration) (s u : UnreadLine) (before : List Parsed) (last : Parsed) → IsLine s → ReadsUpTo d s (before ++ last ∷ []) u → counts last ≡ 0 → u.ended ≡ false
last_open d s u before last line read none =
    let t = table d.options in
    let own = last_item (parsed_item d.options) read.items before last read.parsed in
    let parts = items_split t s u own.0 (own.1 ∷ []) (subst (λ xs. ReadsItems t s xs u) own.2 read.read) in
    let there = items_line t s parts.0 own.0 line parts.1 in
    ap (λ (y : UnreadLine). y.ended) parts.2.2
    ∙ option_open t parts.0 parts.2.0 own.1 there parts.2.1 (λ word same. let f : is_word (spec.positional word) ≡ 0 = sym (ap is_word same) ∙ word_counts d.options own.1 last own.3 ∙ none in omega (arith, f))

-- if an option has this mistake, the words have no rest after options that accept their values
pub mistaken : {start_of : RestStart} (d : Declaration) (words front : List (List ℕ)) (word : List ℕ) (more : List (List ℕ)) (part : IsSplit start_of d words front word more) (before : List Parsed) (u : UnreadLine) (mistake : Mistake) → ReadsUpTo d (start d.short_equals words) before u
    → IsOfOption mistake → Stops d before u mistake → ((index : ℕ) (value : List ℕ) → mistake ≡ invalid_value index value → are_accepted d.options part.l ≡ true) → ⊥
mistaken {start_of} d words front word more part before u mistake read of (not_declared name v step none) accepted =
    let r = option_reading (table d.options) u v name (step_line calls.next u (option_reply name) v read.line step) step in
    let item = item_after name r.1 in
    let on = goes_on d words front word more part before u read (λ _. named_open u v name read.line step) r.0 (item ∷ items_of_replies r.1) r.2 in
    let k = first_option on.k on.m (items_of_replies r.1) word item (of_name name item (item_of name r.1)) on.items_are in
    first_none (parsed_item d.options) item k.0 on.later.later (undeclared d.options name item (item_of name r.1) none) (sym (ap (map (parsed_item d.options)) k.1) ∙ on.later.are)
mistaken {start_of} d words front word more part before u mistake read of (value_of_flag option value v step) accepted =
    let on = goes_on d words front word more part before u read
    (λ _. open_before u v (steps.unexpected option value) read.line (enough NextStep u (steps.unexpected option value) v step (λ none. cc)) (λ x is. cc) (λ is. cc)) (steps.unexpected option value) [] (reads_last (table d.options) u v (steps.unexpected option value) tt step) in
    not_empty on.k on.m (spec.positional word) on.items_are
mistaken {start_of} d words front word more part before u mistake read of (no_value name index option call v w step found due takes) accepted =
    let t = table d.options in
    let on = goes_on d words front word more part before u read (λ _. named_open u v name read.line step) (steps.missing (Some option)) _ (reads_refused t u v w name (kind t name) call (steps.missing (Some option)) refl due tt step takes) in
    let k = first_option on.k on.m [] word (spec.option name None) refl (on.items_are ∙ items_one name (Some option)) in
    not_empty k.0 on.m (spec.positional word) k.2
mistaken {start_of} d words front word more part before u mistake read of (not_accepted s index value v given is refused) accepted =
    let t = table d.options in
    let one = one_item d.options given.items s given.parsed in
    let r = some_reading t v given.line in
    let reads = subst (λ xs. ReadsItems t u xs v) one.1 given.read in
    let none = word_counts d.options one.0 s one.2 ∙ not_counted s index is in
    let on = goes_on d words front word more part before u read (λ _. first_item_open t u reads.0 one.0 none read.line reads.1) r.0 (given.items ++ r.1) (says_items t u v given.items given.read r.0 r.1 r.2) in
    let k = first_option on.k on.m r.1 word one.0 none (on.items_are ∙ ap (λ l. l ++ r.1) one.1) in
    let first = first_is (parsed_item d.options) one.0 s k.0 on.later.later one.2 (sym (ap (map (parsed_item d.options)) k.1) ∙ on.later.are) in
    not_refused d.options before s first.0 value (subst (λ l. are_accepted d.options l ≡ true) (on.later.all_are ∙ ap (λ l. before ++ l) first.1) (accepted index value refl)) refused
mistaken {start_of} d words front word more part before u mistake read of stops accepted = of

-- ---- words that the separator ends

-- it is the only word that is left where they are read
pub separator_left : (d : Declaration) (words : List (List ℕ)) (l m : List Parsed) (u v : UnreadLine) → Says d words l → EndsSeparated d words l → ReadsUpTo d (start d.short_equals words) m u → Next u steps.end v → u.words ≡ dashes ∷ []
separator_left d words l m u v says ends upto next =
    let t = table d.options in
    let s = start d.short_equals words in
    let read = open_read d ends.before l ends.says (subst (λ ws. Says d ws l) ends.words_are says) in
    let there = longer (dashes ∷ []) read.there in
    let reads = subst (λ ws. ReadsItems t (start d.short_equals ws) read.items there) (sym ends.words_are) (items_calm t (dashes ∷ []) (start d.short_equals ends.before) read.there read.items tt (λ no_words no_left. dashes_calm []) read.reads) in
    let left = ap (λ ws. ws ++ dashes ∷ []) read.empty in
    let last = next_word read.none read.not (reads_separator [] left (no_word_left refl refl refl)) in
    let same = no_other_reading t s steps.end steps.end (read.items ++ []) (upto.items ++ [])
    (says_items t s there read.items reads steps.end [] (reads_last t there (record there { words = []; ended = true }) steps.end tt (inl last)))
    (says_items t s u upto.items upto.read steps.end [] (reads_last t u v steps.end tt next)) in
    let items = sym (append-nil read.items) ∙ same.1 ∙ append-nil upto.items in
    let here = one_line_left t s there u upto.items (subst (λ xs. ReadsItems t s xs there) items reads) upto.read in
    sym (ap (λ (x : UnreadLine). x.words) here) ∙ left
