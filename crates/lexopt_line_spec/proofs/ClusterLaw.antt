-- The first character of a cluster, and the items that the rest shows.
use Rattle.std.proofs.Common.{◌≡◌, ◌≢◌, ℕ, Bool, true, false, List, [], ◌∷◌, ◌++◌, Some, Option, None, refl, sym, ap, subst, ◌∙◌, arith, ⊎_elim}
use Rattle.std.proofs.lemmas.Bool.{cases_eq, eq-eqb, ne_eqb}
use Rattle.lexopt_spec.specs.Pieces.{first_piece, after_first_piece, shown}
use Rattle.lexopt_spec.specs.UnreadLine.{equals, Tail, no_tail, rest, LastOption, short_option, UnreadLine, rest_of, pending_in}
use Rattle.lexopt_spec.specs.Steps as steps
use Rattle.lexopt_spec.specs.Steps.{Reply, ReadsShort}
use Rattle.lexopt_line_spec.specs.Table.{Name, short, Item, option, Kind, flag, kind, Table}
use Rattle.lexopt_line_spec.specs.Spelling as spelling
use Rattle.lexopt_line_spec.specs.Spelling.{damaged, After, nothing, attached, Completes, no_value, BeginsWithMark, IsAfterLast, nothing_more, a_value, marked_value, Cluster, flag_first, last_option, Shows}
use Rattle.lexopt_line_spec.proofs.Letters.{IsRead, letter_read, read_letter}
use Rattle.lexopt_line_spec.proofs.Unread.{ClusterShows, PartsShow, after_of, GoesOnShowing, NextShows}

-- ---- the bytes after the last option

whole : (short_equals : Bool) (b : ℕ) (bs : List ℕ) → ¬ BeginsWithMark short_equals (b ∷ bs) → pending_in short_equals (rest (b ∷ bs)) ≡ Some (b ∷ bs, false)
whole false b bs no_mark = refl
whole true b bs no_mark = rw (ne_eqb b equals (λ is. no_mark (refl, is))) refl

marked : (b : ℕ) (bs : List ℕ) → b ≡ equals → pending_in true (rest (b ∷ bs)) ≡ Some (bs, true)
marked b bs is = rw (eq-eqb b equals is) refl

pub is_after : (short_equals : Bool) (bytes : List ℕ) (after : After) → IsAfterLast short_equals bytes after → after ≡ after_of (pending_in short_equals (rest_of bytes))
is_after short_equals bytes after (nothing_more none is) = is ∙ ap (λ l. after_of (pending_in short_equals (rest_of l))) (sym none)
is_after short_equals [] after (a_value some no_mark is) = absurd (some refl)
is_after short_equals (b ∷ bs) after (a_value some no_mark is) = is ∙ ap after_of (sym (whole short_equals b bs no_mark))
is_after short_equals bytes after (marked_value v on bytes_are is) =
    is ∙ ap (λ s. after_of (pending_in s (rest_of (equals ∷ v)))) (sym on) ∙ ap (λ l. after_of (pending_in short_equals (rest_of l))) (sym bytes_are)

pub rest_is : (short_equals : Bool) (bytes : List ℕ) → IsAfterLast short_equals bytes (after_of (pending_in short_equals (rest_of bytes)))
rest_is short_equals [] = nothing_more refl refl
rest_is false (b ∷ bs) = a_value (λ none. let e : b ∷ bs ≡ [] = none in cc) (λ mark. let e : false ≡ true = mark.0 in cc) refl
rest_is true (b ∷ bs) = ⊎_elim
    (λ (same : b ≡ equals). marked_value bs refl (ap (λ x. x ∷ bs) same) (ap after_of (marked b bs same)))
    (λ (other : b ≢ equals). a_value (λ none. let e : b ∷ bs ≡ [] = none in cc) (λ mark. other mark.1)
    (ap after_of (whole true b bs (λ mark. other mark.1))))
    (cases_eq b equals)

-- if nothing is pending, nothing is left of the word
pub nothing_left : (short_equals : Bool) (bytes : List ℕ) → nothing ≡ after_of (pending_in short_equals (rest_of bytes)) → rest_of bytes ≡ no_tail
nothing_left short_equals [] is = refl
nothing_left false (b ∷ bs) is = absurd (let e : nothing ≡ attached (b ∷ bs) = is in cc)
nothing_left true (b ∷ bs) is = ⊎_elim
    (λ (same : b ≡ equals). absurd (let e : nothing ≡ spelling.joined bs = is ∙ ap after_of (marked b bs same) in cc))
    (λ (other : b ≢ equals). absurd (let e : nothing ≡ attached (b ∷ bs) = is ∙ ap after_of (whole true b bs (λ mark. other mark.1)) in cc))
    (cases_eq b equals)

-- ---- an option, by its kind

abbrev pub line_with : Tail → List (List ℕ) → Bool → LastOption → Bool → Option (List ℕ) → UnreadLine
line_with tail words ended last short_equals bin = record { tail = tail; words = words; ended = ended; last = last; short_equals = short_equals; bin_name = bin }

-- an option completes its item, if this tail is left of its word
pub completed : (t : Table) (name : Name) (k : Kind) (tail : Tail) (words left : List (List ℕ)) (last : LastOption) (bin : Option (List ℕ)) (short_equals : Bool) (after : After) (item : Item)
    (others : List Item) → kind t name ≡ k → after ≡ after_of (pending_in short_equals tail) → (nothing ≡ after_of (pending_in short_equals tail) → tail ≡ no_tail)
    → Completes k name after words item left → Shows t short_equals left others → GoesOnShowing t k name (line_with tail words false last short_equals bin) (item ∷ others)
completed t name flag tail words left last bin short_equals after item others k is none (no_value alone item_is left_is) line = record {
  others = others;
  shows = subst (λ (x : Tail). PartsShow t short_equals x false words others) (sym (none (sym alone ∙ is)))
      (subst (λ (ws : List (List ℕ)). Shows t short_equals ws others) left_is line);
  items_are = ap (λ x. x ∷ others) item_is;
}
completed t name value_kind tail words left last bin short_equals after item others k is none completes line = record {
  left = left;
  item = item;
  others = others;
  completes = subst (λ (x : Kind). Completes x name (after_of (pending_in short_equals tail)) words item left) (sym k)
      (subst (λ (b : After). Completes value_kind name b words item left) is completes);
  line = line;
  items_are = refl;
}

-- ---- from items to the step

cluster_some : (t : Table) (short_equals : Bool) (words left : List (List ℕ)) (bytes : List ℕ) (items : List Item) → Cluster damaged t short_equals words left bytes items → bytes ≢ []
cluster_some t short_equals words left bytes items (flag_first c character others more letter k no_mark cluster) = (letter_read c character others letter).some
cluster_some t short_equals words left bytes items (last_option c character others after item letter ends completes) = (letter_read c character others letter).some

rest_of-some : (bytes : List ℕ) → bytes ≢ [] → rest_of bytes ≡ rest bytes
rest_of-some [] some = absurd (some refl)
rest_of-some (b ∷ bs) some = refl

letter_step : (u : UnreadLine) (c : ℕ) (bytes after : List ℕ) → IsRead c bytes after
    → ReadsShort (bytes ++ after) u (steps.short c) (record u { last = short_option c; tail = rest_of after })
letter_step u c bytes after read = record {
  some = read.some;
  reply_is = ap steps.short (sym read.is);
  after_is = ap (λ (x : ℕ). record u { last = short_option x; tail = rest_of after }) (sym read.is)
      ∙ ap (λ (l : List ℕ). record u { last = short_option (shown (first_piece (bytes ++ after)).char); tail = rest_of l }) (sym read.after);
}

pub cluster_reads : (t : Table) (short_equals : Bool) (words left : List (List ℕ)) (bytes : List ℕ) (front : List Item) (tail : Tail) (last : LastOption) (bin : Option (List ℕ)) (others : List Item)
    → Cluster damaged t short_equals words left bytes front → Shows t short_equals left others
    → (r : Reply) × (v : UnreadLine) × ReadsShort bytes (line_with tail words false last short_equals bin) r v × NextShows t r v (front ++ others)
cluster_reads t short_equals words left bytes front tail last bin others (flag_first c character after items letter k no_mark cluster) line =
    let v = line_with (rest_of after) words false (short_option c) short_equals bin in (
      _,
      _,
      letter_step (line_with tail words false last short_equals bin) c character after (letter_read c character after letter),
      subst (λ (x : Kind). GoesOnShowing t x (short c) v (option (short c) None ∷ (items ++ others))) (sym k)
          (record {
            others = items ++ others;
            shows = subst (λ (x : Tail). PartsShow t short_equals x false words (items ++ others)) (sym (rest_of-some after (cluster_some t short_equals words left after items cluster)))
                (no_mark, record { left = left; front = items; others = others; cluster = cluster; line = line; items_are = refl });
            items_are = refl;
          }),
    )
cluster_reads t short_equals words left bytes front tail last bin others (last_option c character after_it after item letter ends completes) line = (
  _,
  _,
  letter_step (line_with tail words false last short_equals bin) c character after_it (letter_read c character after_it letter),
  completed t (short c) (kind t (short c)) (rest_of after_it) words left (short_option c) bin short_equals after item others refl
      (is_after short_equals after_it after ends) (nothing_left short_equals after_it) completes line,
)

-- ---- from the step to items

built : (t : Table) (short_equals : Bool) (c : ℕ) (piece after : List ℕ) (words : List (List ℕ)) (last : LastOption) (bin : Option (List ℕ)) (items : List Item) (k : Kind)
    → damaged.character c piece after → kind t (short c) ≡ k → GoesOnShowing t k (short c) (line_with (rest_of after) words false last short_equals bin) items
    → ClusterShows t short_equals (piece ++ after) words items
built t short_equals c piece [] words last bin items flag letter k leads = record {
  left = words;
  front = option (short c) None ∷ [];
  others = leads.others;
  cluster = last_option c piece [] nothing (option (short c) None) letter (nothing_more refl refl)
      (subst (λ (x : Kind). Completes x (short c) nothing words (option (short c) None) words) (sym k) (no_value refl refl refl));
  line = leads.shows;
  items_are = leads.items_are;
}
built t short_equals c piece (b ∷ bs) words last bin items flag letter k leads =
    let goes = leads.shows in
    let s = goes.1 in
    record {
      left = s.left;
      front = option (short c) None ∷ s.front;
      others = s.others;
      cluster = flag_first c piece (b ∷ bs) s.front letter k goes.0 s.cluster;
      line = s.line;
      items_are = leads.items_are ∙ ap (λ l. option (short c) None ∷ l) s.items_are;
    }
built t short_equals c piece after words last bin items value_kind letter k shows = record {
  left = shows.left;
  front = shows.item ∷ [];
  others = shows.others;
  cluster = last_option c piece after _ shows.item letter (rest_is short_equals after) shows.completes;
  line = shows.line;
  items_are = shows.items_are;
}

pub cluster_built : (t : Table) (short_equals : Bool) (b : ℕ) (bs : List ℕ) (words : List (List ℕ)) (tail : Tail) (last : LastOption) (bin : Option (List ℕ))
    → (r : Reply) × (v : UnreadLine) × ReadsShort (b ∷ bs) (line_with tail words false last short_equals bin) r v
    × ((items : List Item) → NextShows t r v items → ClusterShows t short_equals (b ∷ bs) words items)
cluster_built t short_equals b bs words tail last bin =
    let letter = read_letter (b ∷ bs) (omega arith) in
    let c = shown (first_piece (b ∷ bs)).char in (
      _,
      _,
      record { some = λ none. let e : b ∷ bs ≡ [] = none in cc; reply_is = refl; after_is = refl },
      λ items shows. subst (λ (l : List ℕ). ClusterShows t short_equals l words items) letter.whole
          (built t short_equals c (first_piece (b ∷ bs)).bytes (after_first_piece (b ∷ bs)) words (short_option c) bin items (kind t (short c)) letter.letter refl shows),
    )
