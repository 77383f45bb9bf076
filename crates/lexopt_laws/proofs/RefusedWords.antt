-- A line stops at the first word that its positional does not accept.
use Rattle.std.proofs.Common.{◌≡◌, ◌<◌, ◌≤◌, ℕ, zero, suc, Bool, true, false, cond, List, [], ◌∷◌, ◌++◌, Option, Some, None, slice_get, unwrap_or, refl, sym, ap, subst, ◌∙◌, arith, ⊎_elim}
use Rattle.std.specs.List.{Contains}
use Rattle.std.specs.Option.{option_map}
use Rattle.std.proofs.lemmas.Bool.{false≢true, true≢false}
use Rattle.std.proofs.lemmas.Option.{same_Some}
use Rattle.lexopt_spec.specs.UnreadLine.{UnreadLine}
use Rattle.lexopt_line_spec.specs.Table.{Item}
use Rattle.lexopt_line_spec.specs.Readings.{ReadsFirst, ReadsItems, start}
use Rattle.lexopt_options_spec.specs.Declaration.{Declaration, Positional, Words, accepts, files, directories, text, listed, is_sound, table}
use Rattle.lexopt_options_spec.specs.Legal.{Parsed, Means, MeansFront, option, several, positional, are_accepted, counts, is_option, most, positional_count, positional_words}
use Rattle.lexopt_options_spec.specs.Places.{ArePlaces, AreTaken, IsNotTaken, least, refused_word, takes_at}
use Rattle.lexopt_options_spec.specs.Stops.{Mistake, ReadsUpTo, Stops, StopsAt, invalid_argument, not_declared, value_of_flag, no_value, not_accepted, one_too_many, too_few, not_taken, not_complete, not_apart}
use Rattle.lexopt_options_spec.proofs.Fronts.{ComesTo, comes_to, front_later, StopsEarly, no_front, not_refused, one_front, whole_front}
use Rattle.lexopt_options_spec.proofs.Shares.{one_places}
use Rattle.lexopt_options_spec.proofs.Taken.{none_first, not_both, one_refused, same_within, some_pair, words_count}
use Rattle.lexopt_laws.specs.ListedValues.{IsFirstRefused}
use Rattle.lexopt_laws.proofs.OneStop.{one_item}
use Rattle.lexopt_laws.proofs.Refused.{found_in, in_list}
use Rattle.lexopt_laws.proofs.SomeAnswer.{one_more, some_answer}

-- ---- the first word that is refused

pub first_refused : (ps : List Positional) (places : List ℕ) (words : List (List ℕ)) (i : ℕ) (word : List ℕ) → refused_word ps places words ≡ Some (i, word) → IsFirstRefused ps places words i word
first_refused ps [] words i word is = absurd (let e : None ≡ Some (i, word) = is in cc)
first_refused ps (j ∷ places) [] i word is = absurd (let e : None ≡ Some (i, word) = is in cc)
first_refused ps (j ∷ places) (w ∷ words) i word is = go (takes_at ps j w) refl (first_refused ps places words i word)
  where
    go : (b : Bool) → takes_at ps j w ≡ b → (refused_word ps places words ≡ Some (i, word) → IsFirstRefused ps places words i word) → IsFirstRefused ps (j ∷ places) (w ∷ words) i word
    go true takes rest =
        let first = rest (sym (ap (λ (b : Bool). cond b (refused_word ps places words) (Some (j, w))) takes) ∙ is) in record {
          at = suc first.at;
          here = first.here;
          belongs = first.belongs;
          refused = first.refused;
          before = earlier first.at first.before;
        }
      where
        earlier : (at : ℕ) → ((n k : ℕ) (v : List ℕ) → n < at → slice_get words n ≡ Some v → slice_get places n ≡ Some k → takes_at ps k v ≡ true) → (n k : ℕ) (v : List ℕ) → n < suc at
            → slice_get (w ∷ words) n ≡ Some v → slice_get (j ∷ places) n ≡ Some k → takes_at ps k v ≡ true
        earlier at before zero k v below here belongs =
            subst (λ x. takes_at ps x v ≡ true) (same_Some j k belongs) (subst (λ x. takes_at ps j x ≡ true) (same_Some w v here) takes)
        earlier at before (suc n) k v below here belongs = before n k v (omega (arith, below)) here belongs
    go false fails rest =
        let same = some_pair (j, w) (i, word) (sym (ap (λ (b : Bool). cond b (refused_word ps places words) (Some (j, w))) fails) ∙ is) in record {
          at = 0;
          here = ap (λ x. Some x) same.1;
          belongs = ap (λ x. Some x) same.0;
          refused = subst (λ x. takes_at ps x word ≡ false) same.0 (subst (λ x. takes_at ps j x ≡ false) same.1 fails);
          before = λ n k v below here belongs. absurd (omega (arith, below));
        }

refused_at : (ps : List Positional) (places : List ℕ) (words : List (List ℕ)) (i : ℕ) (word : List ℕ) (at : ℕ) → slice_get words at ≡ Some word → slice_get places at ≡ Some i → takes_at ps i word ≡ false
    → ((n k : ℕ) (v : List ℕ) → n < at → slice_get words n ≡ Some v → slice_get places n ≡ Some k → takes_at ps k v ≡ true) → refused_word ps places words ≡ Some (i, word)
refused_at ps [] words i word at here belongs fails before = absurd (let e : None ≡ Some i = belongs in cc)
refused_at ps (j ∷ places) [] i word at here belongs fails before = absurd (let e : None ≡ Some word = here in cc)
refused_at ps (j ∷ places) (w ∷ words) i word zero here belongs fails before =
    let one = same_Some w word here in
    let index = same_Some j i belongs in
    let there : takes_at ps j w ≡ false = subst (λ x. takes_at ps x w ≡ false) (sym index) (subst (λ x. takes_at ps i x ≡ false) (sym one) fails) in
    ap (λ (b : Bool). cond b (refused_word ps places words) (Some (j, w))) there ∙ ap (λ x. Some (x, w)) index ∙ ap (λ x. Some (i, x)) one
refused_at ps (j ∷ places) (w ∷ words) i word (suc at) here belongs fails before =
    ap (λ (b : Bool). cond b (refused_word ps places words) (Some (j, w))) (before 0 j w (omega arith) refl refl)
    ∙ refused_at ps places words i word at here belongs fails (λ n k v below. before (suc n) k v (omega (arith, below)))

pub refused_first : (ps : List Positional) (places : List ℕ) (words : List (List ℕ)) (i : ℕ) (word : List ℕ) → IsFirstRefused ps places words i word → refused_word ps places words ≡ Some (i, word)
refused_first ps places words i word first = refused_at ps places words i word first.at first.here first.belongs first.refused first.before

-- ---- if none is refused

pub each_taken : (ps : List Positional) (places : List ℕ) (words : List (List ℕ)) (n i : ℕ) (word : List ℕ) → refused_word ps places words ≡ None → slice_get words n ≡ Some word → slice_get places n ≡ Some i
    → takes_at ps i word ≡ true
each_taken ps [] words n i word none here belongs = absurd (let e : None ≡ Some i = belongs in cc)
each_taken ps (j ∷ places) [] n i word none here belongs = absurd (let e : None ≡ Some word = here in cc)
each_taken ps (j ∷ places) (w ∷ words) zero i word none here belongs =
    let parts = none_first (takes_at ps j w) (refused_word ps places words) (j, w) none in
    subst (λ x. takes_at ps x word ≡ true) (same_Some j i belongs) (subst (λ x. takes_at ps j x ≡ true) (same_Some w word here) parts.0)
each_taken ps (j ∷ places) (w ∷ words) (suc n) i word none here belongs =
    let parts = none_first (takes_at ps j w) (refused_word ps places words) (j, w) none in each_taken ps places words n i word parts.1 here belongs

pub all_taken : (ps : List Positional) (places : List ℕ) (words : List (List ℕ)) → ((n i : ℕ) (word : List ℕ) → slice_get words n ≡ Some word → slice_get places n ≡ Some i → takes_at ps i word ≡ true)
    → refused_word ps places words ≡ None
all_taken ps [] words each = refl
all_taken ps (j ∷ places) [] each = refl
all_taken ps (j ∷ places) (w ∷ words) each =
    ap (λ (b : Bool). cond b (refused_word ps places words) (Some (j, w))) (each 0 j w refl refl) ∙ all_taken ps places words (λ n i word here belongs. each (suc n) i word here belongs)

-- ---- words in a list

pub record IsOutside (ps : List Positional) (i : ℕ) (word : List ℕ) : Type 0 where
  pub owner : Positional
  pub list : List (List ℕ)
  pub here : slice_get ps i ≡ Some owner
  pub words : owner.words ≡ listed list
  pub outside : ¬ Contains list word

outside_list : (ps : List Positional) (i : ℕ) (word : List ℕ) → takes_at ps i word ≡ false → IsOutside ps i word
outside_list ps i word fails = go (slice_get ps i) refl
  where
    go : (found : Option Positional) → slice_get ps i ≡ found → IsOutside ps i word
    go None here = absurd (true≢false (sym (ap (λ x. unwrap_or (option_map (λ q. accepts q.words word) x) true) here) ∙ fails))
    go (Some p) here = in_words p.words refl (sym (ap (λ x. unwrap_or (option_map (λ q. accepts q.words word) x) true) here) ∙ fails)
      where
        in_words : (ws : Words) → p.words ≡ ws → accepts p.words word ≡ false → IsOutside ps i word
        in_words files is none = absurd (true≢false (sym (ap (λ ws. accepts ws word) is) ∙ none))
        in_words directories is none = absurd (true≢false (sym (ap (λ ws. accepts ws word) is) ∙ none))
        in_words text is none = absurd (true≢false (sym (ap (λ ws. accepts ws word) is) ∙ none))
        in_words (listed list) is none = record {
          owner = p;
          list = list;
          here = here;
          words = is;
          outside = λ has. true≢false (sym (found_in list word has) ∙ sym (ap (λ ws. accepts ws word) is) ∙ none);
        }

pub is_outside : (ps : List Positional) (words : List (List ℕ)) (i : ℕ) (word : List ℕ) → IsNotTaken ps words i word → IsOutside ps i word
is_outside ps words i word unfit = let first = first_refused ps unfit.places words i word unfit.refused in outside_list ps i word first.refused

-- ---- legal lines

pub words_in_lists : (d : Declaration) (words : List (List ℕ)) (l : List Parsed) (places : List ℕ) (n i : ℕ) (word : List ℕ) (p : Positional) (list : List (List ℕ)) → Means d words l
    → ArePlaces d.positionals (positional_count l) places → slice_get (positional_words l) n ≡ Some word → slice_get places n ≡ Some i → slice_get d.positionals i ≡ Some p → p.words ≡ listed list
    → Contains list word
words_in_lists d words l places n i word p list means are here belongs owner is =
    let same = one_places d.positionals (positional_count l) means.whole.taken.places places
    (subst (λ m. ArePlaces d.positionals m means.whole.taken.places) (words_count l) means.whole.taken.are_places) are in
    let takes = each_taken d.positionals places (positional_words l) n i word
    (subst (λ q. refused_word d.positionals q (positional_words l) ≡ None) same means.whole.taken.none) here belongs in
    in_list list word
    (sym (ap (λ ws. accepts ws word) is) ∙ sym (ap (λ x. unwrap_or (option_map (λ q. accepts q.words word) x) true) owner) ∙ takes)

pub none_refused : (d : Declaration) (words : List (List ℕ)) (l : List Parsed) (i : ℕ) (word : List ℕ) → Means d words l → IsNotTaken d.positionals (positional_words l) i word → ⊥
none_refused d words l i word means unfit = not_both d.positionals (positional_words l) i word unfit means.whole.taken

-- ---- a line whose reading stops at a word

joined_at : (k : List Parsed) (s : Parsed) (later : List Parsed) → (k ++ s ∷ []) ++ later ≡ k ++ s ∷ later
joined_at [] s later = refl
joined_at (x ∷ k) s later = ap (λ m. x ∷ m) (joined_at k s later)

no_count : (index : ℕ) (s : Parsed) → is_option index s ≡ true → counts s ≡ 0
no_count index (option i value) of = refl
no_count index (several i values) of = refl
no_count index (positional word) of = absurd (false≢true of)

-- what was read of the line up to its end, without a mistake before it
record IsRead (d : Declaration) (words : List (List ℕ)) (l : List Parsed) (i : ℕ) (word : List ℕ) : Type 0 where
  sound : is_sound d.options ≡ true
  front : MeansFront d words l
  accepted : are_accepted d.options l ≡ true
  enough : least d.positionals ≤ positional_count l
  unfit : IsNotTaken d.positionals (positional_words l) i word

-- a value that is not accepted was read
value_read : (d : Declaration) (words : List (List ℕ)) (l k : List Parsed) (there v : UnreadLine) (s : Parsed) (index : ℕ) (value : List ℕ) → MeansFront d words l → are_accepted d.options l ≡ true
    → ReadsUpTo d (start d.short_equals words) k there → ReadsUpTo d there (s ∷ []) v → is_option index s ≡ true
    → ((rest : List Parsed) → are_accepted d.options (k ++ s ∷ rest) ≡ true → ⊥) → ⊥
value_read d words l k there v s index value front accepted read one of refused =
    let item = one_item d.options one.items s one.parsed in
    let reads : ReadsItems (table d.options) there (item.0 ∷ []) v = subst (λ (items : List Item). ReadsItems (table d.options) there items v) item.1 one.read in
    let first : ReadsFirst (table d.options) there item.0 v = subst (λ (x : UnreadLine). ReadsFirst (table d.options) there item.0 x) (sym reads.2) reads.1 in
    let more = one_more d (start d.short_equals words) there v k item.0 s read first one.line item.2 (same_within (positional_count k) (counts s) (most d.positionals) (no_count index s of) read.within) in
    let rest = front_later d words (k ++ s ∷ []) v more l front in
    refused rest.0 (subst (λ m. are_accepted d.options m ≡ true) (rest.1 ∙ joined_at k s rest.0) accepted)

the_stop : (d : Declaration) (words : List (List ℕ)) (l : List Parsed) (i : ℕ) (word : List ℕ) → IsRead d words l i word → (k : List Parsed) (mistake other : Mistake) (there : ComesTo d words k mistake) → mistake ≡ other
    → Stops d k there.there other → (k ≡ l) × (other ≡ invalid_argument i word)
the_stop d words l i word is k mistake other there m_is (not_declared name v step none) =
    absurd (no_front d words k mistake there (subst StopsEarly (sym m_is) tt) l is.front)
the_stop d words l i word is k mistake other there m_is (value_of_flag name value v step) =
    absurd (no_front d words k mistake there (subst StopsEarly (sym m_is) tt) l is.front)
the_stop d words l i word is k mistake other there m_is (no_value name index shown call v w step found due takes) =
    absurd (no_front d words k mistake there (subst StopsEarly (sym m_is) tt) l is.front)
the_stop d words l i word is k mistake other there m_is (one_too_many x v step limit) =
    absurd (no_front d words k mistake there (subst StopsEarly (sym m_is) tt) l is.front)
the_stop d words l i word is k mistake other there m_is (not_accepted s index value v read of refused) =
    absurd (value_read d words l k there.there v s index value is.front is.accepted there.read read of (λ rest accepted. not_refused d.options k s rest value accepted refused))
the_stop d words l i word is k mistake other there m_is (too_few v step few) =
    let same = one_front d words k l (whole_front d words k there.there v is.sound there.read step) is.front in
    let less : positional_count l < least d.positionals = subst (λ m. positional_count m < least d.positionals) same few in
    let enough = is.enough in
    absurd (omega (arith, less, enough))
the_stop d words l i word is k mistake other there m_is (not_complete index v step enough taken first) =
    let same = one_front d words k l (whole_front d words k there.there v is.sound there.read step) is.front in
    absurd (not_both d.positionals (positional_words l) i word is.unfit (subst (λ m. AreTaken d.positionals (positional_words m)) same taken))
the_stop d words l i word is k mistake other there m_is (not_apart index second v step enough taken complete first) =
    let same = one_front d words k l (whole_front d words k there.there v is.sound there.read step) is.front in
    absurd (not_both d.positionals (positional_words l) i word is.unfit (subst (λ m. AreTaken d.positionals (positional_words m)) same taken))
the_stop d words l i word is k mistake other there m_is (not_taken index w v step enough unfit) =
    let same = one_front d words k l (whole_front d words k there.there v is.sound there.read step) is.front in
    let one = one_refused d.positionals (positional_words l) index i w word (subst (λ m. IsNotTaken d.positionals (positional_words m) index w) same unfit) is.unfit in
    (same, ap (λ j. invalid_argument j w) one.0 ∙ ap (invalid_argument i) one.1)

pub stops_at_word : (d : Declaration) (words : List (List ℕ)) (l : List Parsed) (i : ℕ) (word : List ℕ) → is_sound d.options ≡ true → MeansFront d words l → are_accepted d.options l ≡ true
    → least d.positionals ≤ positional_count l → IsNotTaken d.positionals (positional_words l) i word → StopsAt d words l (invalid_argument i word)
stops_at_word d words l i word sound front accepted enough unfit = ⊎_elim
    (λ (parsed : (k : List Parsed) × Means d words k).
    absurd (not_both d.positionals (positional_words l) i word unfit
    (subst (λ m. AreTaken d.positionals (positional_words m)) (one_front d words parsed.0 l parsed.1.whole.front front) parsed.1.whole.taken)))
    (λ (stopped : (k : List Parsed) × (m : Mistake) × StopsAt d words k m).
    let there = comes_to stopped.2 in
    let is : IsRead d words l i word = record { sound = sound; front = front; accepted = accepted; enough = enough; unfit = unfit } in
    let same = the_stop d words l i word is stopped.0 stopped.1 stopped.1 there refl there.stops in
    subst (λ k. StopsAt d words k (invalid_argument i word)) same.0 (subst (StopsAt d words stopped.0) same.1 stopped.2))
    (some_answer d words sound)
