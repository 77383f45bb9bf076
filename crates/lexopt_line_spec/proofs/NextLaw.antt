-- The items that a line shows, and those that it shows after `next`.
use Rattle.std.proofs.Common.{◌≡◌, ◌≢◌, ◌↔◌, ℕ, Bool, true, false, List, [], ◌∷◌, ◌++◌, map, Option, None, refl, sym, ap, subst, ◌∙◌, arith, inr, ⊎_elim}
use Rattle.std.proofs.lemmas.Bool.{cases_eq}
use Rattle.std.specs.List.{Contains}
use Rattle.lexopt_spec.specs.Pieces.{lossy}
use Rattle.lexopt_spec.specs.UnreadLine.{dash, equals, Tail, no_tail, joined, rest, LastOption, UnreadLine, spelling, IsPlain, IsLine, TailFits}
use Rattle.lexopt_spec.specs.UnreadLine as unread
use Rattle.lexopt_spec.specs.Steps as steps
use Rattle.lexopt_spec.specs.Steps.{Reply, IsLongOption, alone, with_value, ReadsPositional, no_word_left, word_left, ReadsWord, no_word, reads_separator, reads_long, reads_cluster, reads_positional, NextStep, equals_value, next_in_cluster, after_separator}
use Rattle.lexopt_line_spec.specs.Table.{long, Item, option, positional, Kind, flag, kind, Table}
use Rattle.lexopt_line_spec.specs.Spelling as spelling
use Rattle.lexopt_line_spec.specs.Spelling.{damaged, After, nothing, Completes, no_value, BeginsWithMark, IsLong, name_alone, name_and_value, Group, cluster, no_words, plain_word, group, separator, Shows}
use Rattle.lexopt_spec.proofs.LineLemmas.{plain_short, long_exists}
use Rattle.lexopt_line_spec.proofs.Exact.{next_same}
use Rattle.lexopt_line_spec.proofs.Total.{spelled}
use Rattle.lexopt_line_spec.proofs.Unread.{PartsShow, ShowsFrom, GoesOnShowing, NextShows}
use Rattle.lexopt_line_spec.proofs.ClusterLaw.{line_with, completed, cluster_reads, cluster_built}

-- ---- from items to the step

abbrev Read : (UnreadLine → Reply → UnreadLine → Type 0) → Table → UnreadLine → List Item → Type 0
Read Step t u items = (r : Reply) × (v : UnreadLine) × Step u r v × NextShows t r v items

-- a line after the separator
ended_reads : (t : Table) (words : List (List ℕ)) (last : LastOption) (bin : Option (List ℕ)) (short_equals : Bool) (items : List Item) → items ≡ map positional words
    → Read ReadsPositional t (line_with no_tail words true last short_equals bin) items
ended_reads t [] last bin short_equals items is = (_, _, no_word_left refl refl refl, is)
ended_reads t (w ∷ ws) last bin short_equals items is =
    (_, _, word_left w ws refl refl refl, record { others = map positional ws; shows = refl; items_are = is })

cut_some : (bytes v : List ℕ) → bytes ++ equals ∷ v ≢ []
cut_some [] v is = let e : equals ∷ v ≡ [] = is in cc
cut_some (b ∷ bs) v is = let e : b ∷ (bs ++ equals ∷ v) ≡ [] = is in cc

long_reads : (t : Table) (words others left : List (List ℕ)) (last : LastOption) (bin : Option (List ℕ)) (short_equals : Bool) (text bytes name : List ℕ) (after : After) (item : Item) (items : List Item)
    → words ≡ (dash ∷ dash ∷ text) ∷ others → IsLong text bytes after → ¬ Contains bytes equals → lossy bytes ≡ name
    → Completes (kind t (long name)) (long name) after others item left → Shows t short_equals left items → Read ReadsWord t (line_with no_tail words false last short_equals bin) (item ∷ items)
long_reads t words others left last bin short_equals text bytes name after item items are (name_alone some is b) none shows completes line = (
  _,
  _,
  reads_long text bytes no_tail others are (λ nil. some (sym is ∙ nil)) (alone none is) refl refl,
  subst (λ (n : List ℕ). GoesOnShowing t (kind t (long n)) (long n) (line_with no_tail others false (unread.long_option (lossy bytes)) short_equals bin) (item ∷ items)) (sym shows)
      (completed t (long name) (kind t (long name)) no_tail others left (unread.long_option (lossy bytes)) bin short_equals after item items refl b (λ h. refl) completes line),
)
long_reads t words others left last bin short_equals text bytes name after item items are (name_and_value v is b) none shows completes line = (
  _,
  _,
  reads_long text bytes (joined v) others are (λ nil. cut_some bytes v (sym is ∙ nil)) (with_value v none is) refl refl,
  subst (λ (n : List ℕ). GoesOnShowing t (kind t (long n)) (long n) (line_with (joined v) others false (unread.long_option (lossy bytes)) short_equals bin) (item ∷ items)) (sym shows)
      (completed t (long name) (kind t (long name)) (joined v) others left (unread.long_option (lossy bytes)) bin short_equals after item items refl b
      (λ h. absurd (let e : nothing ≡ spelling.joined v = h in cc)) completes line),
)

group_reads : (t : Table) (words left : List (List ℕ)) (last : LastOption) (bin : Option (List ℕ)) (short_equals : Bool) (front items : List Item) → Group damaged t short_equals words front left
    → Shows t short_equals left items → Read ReadsWord t (line_with no_tail words false last short_equals bin) (front ++ items)
group_reads t words left last bin short_equals front items (cluster bytes others are other spelled) line =
    let a = cluster_reads t short_equals others left bytes front no_tail last bin items spelled line in
    (a.0, a.1, reads_cluster bytes others are other a.2, a.3)
group_reads t words left last bin short_equals front items (spelling.long_option text bytes name after item others are is none shows completes item_is) line =
    subst (λ (l : List Item). Read ReadsWord t (line_with no_tail words false last short_equals bin) (l ++ items)) (sym item_is)
    (long_reads t words others left last bin short_equals text bytes name after item items are is none shows completes line)

words_read : (t : Table) (words : List (List ℕ)) (last : LastOption) (bin : Option (List ℕ)) (short_equals : Bool) (items : List Item) → Shows t short_equals words items
    → Read ReadsWord t (line_with no_tail words false last short_equals bin) items
words_read t words last bin short_equals items no_words = (_, _, no_word refl refl refl, refl)
words_read t words last bin short_equals items (plain_word w ws others plain line) =
    (_, _, reads_positional w ws refl plain refl refl, record { others = others; shows = line; items_are = refl })
words_read t words last bin short_equals items (group ws left front others first line) = group_reads t words left last bin short_equals front others first line
words_read t words last bin short_equals items (separator ws) =
    let a = ended_reads t ws last bin short_equals (map positional ws) refl in (a.0, a.1, reads_separator ws refl a.2, a.3)

parts_read : (t : Table) (tail : Tail) (words : List (List ℕ)) (ended : Bool) (last : LastOption) (bin : Option (List ℕ)) (short_equals : Bool) (items : List Item)
    → TailFits tail last ended → PartsShow t short_equals tail ended words items → Read NextStep t (line_with tail words ended last short_equals bin) items
parts_read t no_tail words false last bin short_equals items stands shows =
    let a = words_read t words last bin short_equals items shows in (a.0, a.1, steps.next_word refl refl a.2, a.3)
parts_read t no_tail words true last bin short_equals items stands shows =
    let a = ended_reads t words last bin short_equals items shows in (a.0, a.1, after_separator refl refl a.2, a.3)
parts_read t (joined value) words ended last bin short_equals items stands shows = absurd shows
parts_read t (rest bytes) words true last bin short_equals items stands shows = absurd (let e = stands.1 in cc)
parts_read t (rest bytes) words false last bin short_equals items stands shows =
    let s = shows.1 in
    let a = cluster_reads t short_equals words s.left bytes s.front (rest bytes) last bin s.others s.cluster s.line in
    (a.0, a.1, next_in_cluster bytes refl shows.0 a.2, subst (NextShows t a.0 a.1) (sym s.items_are) a.3)

-- ---- from the step to items

abbrev Built : (UnreadLine → Reply → UnreadLine → Type 0) → Table → UnreadLine → (List Item → Type 0) → Type 0
Built Step t u Shown = (r : Reply) × (v : UnreadLine) × Step u r v × ((items : List Item) → NextShows t r v items → Shown items)

ended_built : (t : Table) (words : List (List ℕ)) (last : LastOption) (bin : Option (List ℕ)) (short_equals : Bool)
    → Built ReadsPositional t (line_with no_tail words true last short_equals bin) (λ items. items ≡ map positional words)
ended_built t [] last bin short_equals = (_, _, no_word_left refl refl refl, λ items is. is)
ended_built t (w ∷ ws) last bin short_equals =
    (_, _, word_left w ws refl refl refl, λ items leads. leads.items_are ∙ ap (λ l. positional w ∷ l) leads.shows)

-- a group, and the items that the words after it show
grouped : (t : Table) (short_equals : Bool) (words left : List (List ℕ)) (front others items : List Item) → Group damaged t short_equals words front left
    → Shows t short_equals left others → items ≡ front ++ others → Shows t short_equals words items
grouped t short_equals words left front others items first line is = subst (Shows t short_equals words) (sym is) (group words left front others first line)

long_built : (t : Table) (short_equals : Bool) (text name : List ℕ) (tail : Tail) (ws : List (List ℕ)) (last : LastOption) (bin : Option (List ℕ)) (items : List Item) (k : Kind) → text ≢ []
    → IsLongOption text name tail → kind t (long (lossy name)) ≡ k → GoesOnShowing t k (long (lossy name)) (line_with tail ws false last short_equals bin) items
    → Shows t short_equals ((dash ∷ dash ∷ text) ∷ ws) items
long_built t short_equals text name no_tail ws last bin items flag some (alone none is) k leads =
    grouped t short_equals ((dash ∷ dash ∷ text) ∷ ws) ws (option (long (lossy name)) None ∷ []) leads.others items
    (spelling.long_option text name (lossy name) nothing (option (long (lossy name)) None) ws refl (name_alone (λ nil. some (is ∙ nil)) is refl) none refl
    (subst (λ (x : Kind). Completes x (long (lossy name)) nothing ws (option (long (lossy name)) None) ws) (sym k) (no_value refl refl refl)) refl) leads.shows leads.items_are
long_built t short_equals text name no_tail ws last bin items value_kind some (alone none is) k shows =
    grouped t short_equals ((dash ∷ dash ∷ text) ∷ ws) shows.left (shows.item ∷ []) shows.others items
    (spelling.long_option text name (lossy name) nothing shows.item ws refl (name_alone (λ nil. some (is ∙ nil)) is refl) none refl shows.completes refl)
    shows.line shows.items_are
long_built t short_equals text name (joined _) ws last bin items flag some (with_value v none is) k leads = absurd leads.shows
long_built t short_equals text name (joined _) ws last bin items value_kind some (with_value v none is) k shows =
    grouped t short_equals ((dash ∷ dash ∷ text) ∷ ws) shows.left (shows.item ∷ []) shows.others items
    (spelling.long_option text name (lossy name) (spelling.joined v) shows.item ws refl (name_and_value v is refl) none refl shows.completes refl)
    shows.line shows.items_are
long_built t short_equals text name (rest bytes) ws last bin items k some h is shows = elim h [ ]

abbrev WordBuilt : Table → Bool → LastOption → Option (List ℕ) → List (List ℕ) → Type 0
WordBuilt t short_equals last bin words = Built ReadsWord t (line_with no_tail words false last short_equals bin) (Shows t short_equals words)

two_dashes : (t : Table) (short_equals : Bool) (last : LastOption) (bin : Option (List ℕ)) (text : List ℕ) (ws : List (List ℕ)) → WordBuilt t short_equals last bin ((dash ∷ dash ∷ text) ∷ ws)
two_dashes t short_equals last bin [] ws =
    let a = ended_built t ws last bin short_equals in
    (a.0, a.1, reads_separator ws refl a.2, λ items shows. subst (Shows t short_equals ((dash ∷ dash ∷ []) ∷ ws)) (sym (a.3 items shows)) (separator ws))
two_dashes t short_equals last bin (b ∷ bs) ws =
    let o = long_exists (b ∷ bs) in
    let some : b ∷ bs ≢ [] = λ none. let e : b ∷ bs ≡ [] = none in cc in (
      _,
      _,
      reads_long (b ∷ bs) o.0 o.1 ws refl some o.2 refl refl,
      λ items shows. long_built t short_equals (b ∷ bs) o.0 o.1 ws (unread.long_option (lossy o.0)) bin items (kind t (long (lossy o.0))) some o.2 refl shows,
    )

one_dash : (t : Table) (short_equals : Bool) (last : LastOption) (bin : Option (List ℕ)) (c : ℕ) (cs : List ℕ) (ws : List (List ℕ)) → c ≢ dash → WordBuilt t short_equals last bin ((dash ∷ c ∷ cs) ∷ ws)
one_dash t short_equals last bin c cs ws other =
    let a = cluster_built t short_equals c cs ws no_tail last bin in (
      a.0,
      a.1,
      reads_cluster (c ∷ cs) ws refl other a.2,
      λ items shows.
          let s = a.3 items shows in
          grouped t short_equals ((dash ∷ c ∷ cs) ∷ ws) s.left s.front s.others items (cluster (c ∷ cs) ws refl other s.cluster) s.line s.items_are,
    )

plain_built : (t : Table) (short_equals : Bool) (last : LastOption) (bin : Option (List ℕ)) (w : List ℕ) (ws : List (List ℕ)) → IsPlain false w → WordBuilt t short_equals last bin (w ∷ ws)
plain_built t short_equals last bin w ws plain = (
  _,
  _,
  reads_positional w ws refl plain refl refl,
  λ items leads.
      subst (Shows t short_equals (w ∷ ws)) (sym leads.items_are) (plain_word w ws leads.others plain leads.shows),
)

word_built : (t : Table) (short_equals : Bool) (last : LastOption) (bin : Option (List ℕ)) (words : List (List ℕ)) → WordBuilt t short_equals last bin words
word_built t short_equals last bin [] = (_, _, no_word refl refl refl, λ items none. subst (Shows t short_equals []) (sym none) no_words)
word_built t short_equals last bin ([] ∷ ws) = plain_built t short_equals last bin [] ws (plain_short [] (omega arith))
word_built t short_equals last bin ((b ∷ []) ∷ ws) = plain_built t short_equals last bin (b ∷ []) ws (plain_short (b ∷ []) (omega arith))
word_built t short_equals last bin ((b ∷ c ∷ cs) ∷ ws) = ⊎_elim
    (λ (one : b ≡ dash). subst (λ (x : ℕ). WordBuilt t short_equals last bin ((x ∷ c ∷ cs) ∷ ws)) (sym one) (⊎_elim
    (λ (two : c ≡ dash). subst (λ (x : ℕ). WordBuilt t short_equals last bin ((dash ∷ x ∷ cs) ∷ ws)) (sym two) (two_dashes t short_equals last bin cs ws))
    (λ (other : c ≢ dash). one_dash t short_equals last bin c cs ws other)
    (cases_eq c dash)))
    (λ (other : b ≢ dash). plain_built t short_equals last bin (b ∷ c ∷ cs) ws (inr (inr other)))
    (cases_eq b dash)

abbrev NextBuilt : Table → UnreadLine → Type 0
NextBuilt t u = Built NextStep t u (ShowsFrom t u)

goes_on_built : (t : Table) (b : ℕ) (bs : List ℕ) (words : List (List ℕ)) (last : LastOption) (bin : Option (List ℕ)) (short_equals : Bool) → ¬ BeginsWithMark short_equals (b ∷ bs)
    → NextBuilt t (line_with (rest (b ∷ bs)) words false last short_equals bin)
goes_on_built t b bs words last bin short_equals no_mark =
    let a = cluster_built t short_equals b bs words (rest (b ∷ bs)) last bin in
    (a.0, a.1, next_in_cluster (b ∷ bs) refl no_mark a.2, λ items shows. (no_mark, a.3 items shows))

parts_built : (t : Table) (tail : Tail) (words : List (List ℕ)) (ended : Bool) (last : LastOption) (bin : Option (List ℕ)) (short_equals : Bool) → TailFits tail last ended
    → NextBuilt t (line_with tail words ended last short_equals bin)
parts_built t no_tail words false last bin short_equals stands = let a = word_built t short_equals last bin words in (a.0, a.1, steps.next_word refl refl a.2, a.3)
parts_built t no_tail words true last bin short_equals stands = let a = ended_built t words last bin short_equals in (a.0, a.1, after_separator refl refl a.2, a.3)
parts_built t (joined value) words ended last bin short_equals stands =
    let option = spelled last stands.0 in (_, _, steps.joined_value value option.0 refl option.1 refl refl, λ items shows. absurd shows)
parts_built t (rest bytes) words true last bin short_equals stands = absurd (let e = stands.1 in cc)
parts_built t (rest []) words false last bin short_equals stands = absurd (stands.2 refl)
parts_built t (rest (b ∷ bs)) words false last bin false stands = goes_on_built t b bs words last bin false (λ mark. let e : false ≡ true = mark.0 in cc)
parts_built t (rest (b ∷ bs)) words false last bin true stands = ⊎_elim
    (λ (same : b ≡ equals).
    let option = spelled last stands.0 in
    subst (λ (x : ℕ). NextBuilt t (line_with (rest (x ∷ bs)) words false last true bin)) (sym same)
    (_, _, equals_value bs option.0 refl refl option.1 refl refl, λ items shows. absurd shows))
    (λ (other : b ≢ equals). goes_on_built t b bs words last bin true (λ mark. other mark.1))
    (cases_eq b equals)

-- ---- each result

-- a line shows some items if and only if it does so by the reply of `next`
pub next_law : (t : Table) (u v : UnreadLine) (r : Reply) (items : List Item) → IsLine u → NextStep u r v → ShowsFrom t u items ↔ NextShows t r v items
next_law t u v r items line step = (
  λ shows.
      let a = parts_read t u.tail u.words u.ended u.last u.bin_name u.short_equals items line shows in
      let same = next_same u a.0 r a.1 v a.2 step in
      subst (λ (s : Reply). NextShows t s v items) same.0 (subst (λ (w : UnreadLine). NextShows t a.0 w items) same.1 a.3),
  λ says.
      let a = parts_built t u.tail u.words u.ended u.last u.bin_name u.short_equals line in
      let same = next_same u r a.0 v a.1 step a.2 in
      a.3 items (subst (λ (s : Reply). NextShows t s a.1 items) same.0 (subst (λ (w : UnreadLine). NextShows t r w items) same.1 says)),
)
