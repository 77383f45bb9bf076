-- Where the rest of a line begins.
use Rattle.lexopt_options_spec.proofs.Common.{◌≡◌, ℕ, true, false, List, [], ◌∷◌, ◌++◌, map, Some, refl, sym, ap, subst, ◌∙◌, inl, append_assoc, true≢false, append_cancel_right, dash}
use Rattle.lexopt_options_spec.proofs.Common.{no_tail, IsPlain, UnreadLine, Item, ReadsFirst, ReadsItems, first_positional, start, one_more_item}
use Rattle.lexopt_options_spec.proofs.Common.{Declaration, is_sound, table, Parsed, most, positional, positional_count, parsed_item, Says, ReadsUpTo}
use Rattle.lexopt_spec.specs.Steps as steps
use Rattle.lexopt_spec.specs.Steps.{Next, NextStep, no_word_left, word_left, no_word, reads_separator, reads_long, reads_cluster, reads_positional, joined_value, equals_value, next_in_cluster, after_separator, next_word}
use Rattle.lexopt_options_spec.specs.Rest.{CanBegin, IsSplit, RestStart, separated, surplus}
use Rattle.lexopt_options_spec.proofs.Cuts.{ends_here, enough, items_cut, step_cut, with_words}
use Rattle.lexopt_options_spec.proofs.Fronts.{read_spells}
use Rattle.lexopt_options_spec.proofs.Lists.{joined}

-- the next word is a positional, or the one after the separator is; before the separator it is plain
pub record WordRead (u : UnreadLine) (word : List ℕ) (w : UnreadLine) : Type 0 where
  pub before : List (List ℕ)
  pub words_are : u.words ≡ before ++ word ∷ w.words
  pub after : UnreadLine
  pub ends : NextStep (with_words before u) steps.end after
  pub none : w.tail ≡ no_tail
  pub plain : w.ended ≡ false → IsPlain false word
  pub past : u.ended ≡ false → w.ended ≡ true → (u.tail ≡ no_tail) × (before ≡ (dash ∷ dash ∷ []) ∷ [])

pub word_is : (w word : List ℕ) → steps.positional word ≡ steps.positional w → w ≡ word
word_is w word is = cc

pub word_read : (u w : UnreadLine) (word : List ℕ) → NextStep u (steps.positional word) w → WordRead u word w
word_read u w word (joined_value value o joins spelled r_is after) = absurd (let e : steps.positional word ≡ steps.unexpected o value = r_is in cc)
word_read u w word (equals_value value o joins on spelled r_is after) = absurd (let e : steps.positional word ≡ steps.unexpected o value = r_is in cc)
word_read u w word (next_in_cluster bytes continues not reads) = absurd (let e : steps.positional word ≡ steps.short _ = reads.reply_is in cc)
word_read u w word (after_separator none ended (no_word_left empty r_is after)) = absurd (let e : steps.positional word ≡ steps.end = r_is in cc)
word_read u w word (after_separator none ended (word_left x ws some r_is after)) = record {
  before = [];
  words_are = some ∙ ap (λ y. y ∷ ws) (word_is x word r_is) ∙ ap (λ (l : List (List ℕ)). word ∷ l) (sym (ap (λ (v : UnreadLine). v.words) after));
  after = with_words [] u;
  ends = ends_here (with_words [] u) true ended none refl;
  none = ap (λ (v : UnreadLine). v.tail) after ∙ none;
  plain = λ before. absurd (true≢false (sym ended ∙ sym (ap (λ (v : UnreadLine). v.ended) after) ∙ before));
  past = λ not. absurd (true≢false (sym ended ∙ not));
}
word_read u w word (next_word none not (no_word empty r_is after)) = absurd (let e : steps.positional word ≡ steps.end = r_is in cc)
word_read u w word (next_word none not (reads_separator ws some (no_word_left empty r_is after))) = absurd (let e : steps.positional word ≡ steps.end = r_is in cc)
word_read u w word (next_word none not (reads_separator ws some (word_left x xs more r_is after))) = record {
  before = (dash ∷ dash ∷ []) ∷ [];
  words_are = some ∙ ap (λ (l : List (List ℕ)). (dash ∷ dash ∷ []) ∷ l) (more ∙ ap (λ y. y ∷ xs) (word_is x word r_is) ∙ ap (λ (l : List (List ℕ)). word ∷ l) (sym (ap (λ (v : UnreadLine). v.words) after)));
  after = record u { words = []; ended = true };
  ends = next_word none not (reads_separator [] refl (no_word_left refl refl refl));
  none = ap (λ (v : UnreadLine). v.tail) after ∙ none;
  plain = λ before. absurd (true≢false (sym (ap (λ (v : UnreadLine). v.ended) after) ∙ before));
  past = λ not ended. (none, refl);
}
word_read u w word (next_word none not (reads_long text name tail ws some other long r_is after)) = absurd (let e : steps.positional word ≡ steps.long _ = r_is in cc)
word_read u w word (next_word none not (reads_cluster bytes ws some other reads)) = absurd (let e : steps.positional word ≡ steps.short _ = reads.reply_is in cc)
word_read u w word (next_word none not (reads_positional x ws some plain r_is after)) = record {
  before = [];
  words_are = some ∙ ap (λ y. y ∷ ws) (word_is x word r_is) ∙ ap (λ (l : List (List ℕ)). word ∷ l) (sym (ap (λ (v : UnreadLine). v.words) after));
  after = with_words [] u;
  ends = ends_here (with_words [] u) false not none refl;
  none = ap (λ (v : UnreadLine). v.tail) after ∙ none;
  plain = λ before. subst (IsPlain false) (word_is x word r_is) plain;
  past = λ not ended. absurd (true≢false (sym ended ∙ ap (λ (v : UnreadLine). v.ended) after ∙ not));
}

-- what tells that a rest begins with a positional, which is read at the line u and leaves the line w
abbrev pub Starts : RestStart → Declaration → List Parsed → UnreadLine → UnreadLine → Type 0
Starts surplus d l u w = most d.positionals ≡ Some (positional_count l)
Starts separated d l u w = (u.ended ≡ false) × (w.ended ≡ true)

-- the front of a line whose reading came to this positional, with which a rest begins
pub record FrontRead (begins : RestStart) (d : Declaration) (words : List (List ℕ)) (l : List Parsed) (word : List ℕ) (more : List (List ℕ)) : Type 0 where
  pub front : List (List ℕ)
  pub split : IsSplit begins d words front word more
  pub there : UnreadLine
  pub read : ReadsUpTo d (start d.short_equals front) l there
  pub after : UnreadLine
  pub ends : Next there steps.end after

-- the line s is read up to the line u, and this is read
pub record ReadsAs (d : Declaration) (s : UnreadLine) (l : List Parsed) (u : UnreadLine) : Type 0 where
  pub items : List Item
  pub reads : ReadsItems (table d.options) s items u
  pub parsed : map (parsed_item d.options) items ≡ map (λ s. Some s) l

pub one_more : {d : Declaration} {s u w : UnreadLine} {l : List Parsed} {x : Item} {own : Parsed} → ReadsAs d s l u → ReadsFirst (table d.options) u x w → parsed_item d.options x ≡ Some own → ReadsAs d s (l ++ own ∷ []) w
one_more {d} {s} {u} {w} {l} {x} {own} reads next is = record {
  items = reads.items ++ x ∷ [];
  reads = one_more_item (table d.options) s u w reads.items x reads.reads next;
  parsed = joined (parsed_item d.options) reads.items l x own reads.parsed is;
}

-- words that are read to their end
pub says : {d : Declaration} {words : List (List ℕ)} {l : List Parsed} {u v : UnreadLine} → is_sound d.options ≡ true → ReadsAs d (start d.short_equals words) l u → NextStep u steps.end v → Says d words l
says {d} {words} {l} {u} {v} sound reads ends = record {
  items = reads.items;
  spelled = read_spells d sound words reads.items l u v reads.reads (inl ends) reads.parsed;
  parsed = reads.parsed;
}

-- the words before those that are left, if no value is pending
pub before_here : (d : Declaration) → is_sound d.options ≡ true → (words : List (List ℕ)) (l : List Parsed) (u : UnreadLine) → ReadsUpTo d (start d.short_equals words) l u → u.tail ≡ no_tail → (before : List (List ℕ)) × (words ≡ before ++ u.words) × Says d before l
before_here d sound words l u read none =
    let own = items_cut (table d.options) (start d.short_equals words) u read.items [] u.words refl read.read in
    (own.before, own.words_are, says sound (record { items = read.items; reads = own.holds; parsed = read.parsed }) (ends_here (with_words [] u) u.ended refl none refl))

pub front_read : (begins : RestStart) (d : Declaration) → is_sound d.options ≡ true → (words : List (List ℕ)) (l : List Parsed) (u w : UnreadLine) (word : List ℕ) → ReadsUpTo d (start d.short_equals words) l u → Starts begins d l u w
    → Next u (steps.positional word) w → FrontRead begins d words l word w.words
front_read begins d sound words l u w word read starts next =
    let t = table d.options in
    let step = enough NextStep u (steps.positional word) w next (λ no. cc) in
    let at = word_read u w word step in
    let front = items_cut t (start d.short_equals words) u read.items at.before (word ∷ w.words) at.words_are read.read in
    let reads = step_cut u w (steps.positional word) [] w.words refl step in
    let whole = items_cut t (start d.short_equals words) u read.items reads.before w.words reads.words_are read.read in
    let one : whole.before ≡ front.before ++ word ∷ [] =
    append_cancel_right whole.before (front.before ++ word ∷ []) w.words (sym whole.words_are ∙ front.words_are ∙ sym (append_assoc front.before (word ∷ []) w.words)) in
    let before : ReadsAs d (start d.short_equals front.before) l (with_words at.before u) = record { items = read.items; reads = front.holds; parsed = read.parsed } in
    let longer : ReadsAs d (start d.short_equals whole.before) l (with_words reads.before u) = record { items = read.items; reads = whole.holds; parsed = read.parsed } in
    record {
      front = front.before;
      split = record {
        words_are = front.words_are;
        l = l;
        says = says sound before at.ends;
        here = can_begin begins at starts front.before front.words_are;
        begins = subst (λ ws. Says d ws (l ++ positional word ∷ [])) one
            (says sound (one_more longer (first_positional word (with_words [] w) (inl reads.holds)) refl) (ends_here (with_words [] w) w.ended refl at.none refl));
      };
      there = with_words at.before u;
      read = record { items = read.items; read = front.holds; line = read.line; parsed = read.parsed; within = read.within };
      after = at.after;
      ends = inl at.ends;
    }
  where
    can_begin : (begins : RestStart) (at : WordRead u word w) → Starts begins d l u w → (front : List (List ℕ)) → words ≡ front ++ word ∷ w.words → CanBegin begins d front l
    can_begin surplus at starts front are = starts
    can_begin separated at (not, ended) front are =
        let past = at.past not ended in
        let own = before_here d sound words l u read past.0 in
        record {
          before = own.0;
          words_are = append_cancel_right front (own.0 ++ (dash ∷ dash ∷ []) ∷ []) (word ∷ w.words)
              (sym are ∙ own.1 ∙ ap (λ ws. own.0 ++ ws) (at.words_are ∙ ap (λ ws. ws ++ word ∷ w.words) past.1) ∙ sym (append_assoc own.0 ((dash ∷ dash ∷ []) ∷ []) (word ∷ w.words)));
          says = own.2;
          within = read.within;
        }
