-- What words mean, and where their reading stops.
use Rattle.lexopt_options_spec.proofs.Common.{◌≡◌, ◌≤◌, ℕ, ◌+◌, suc, Bool, true, List, [], ◌∷◌, ◌++◌, map, Option, Some, None, is_none, refl, sym, ap, subst, ◌∙◌, arith, append-nil, option_map}
use Rattle.lexopt_options_spec.proofs.Common.{and_parts, false≢true, IsLine, UnreadLine, next, Item, Name, Table, kind, IsReading, ReadsItems, item_after, items_of_replies, option_reply, start}
use Rattle.lexopt_options_spec.proofs.Common.{Spells, shown_spells, spelled_shows, option_reading, some_reading, says_items, says_positional, reads_last, reads_refused, step_line, said_shows}
use Rattle.lexopt_options_spec.proofs.Common.{shown_read, shown_said, Declaration, Declared, index_of, is_sound, table, Parsed, parsed_item, positional, positional_count, positional_words, occurs}
use Rattle.lexopt_options_spec.proofs.Common.{most, IsWithin, MeansFront, Means, are_accepted, refused_value, AreTaken, least, Mistake, ReadsUpTo, Stops, not_declared, value_of_flag, no_value}
use Rattle.lexopt_options_spec.proofs.Common.{not_accepted, one_too_many, too_few, not_taken, not_complete, StopsAt, missing_value, unexpected_argument, unexpected_value, unknown_option, Reply, Next}
use Rattle.lexopt_options_spec.proofs.Common.{IsOf}
use Rattle.lexopt_options_spec.proofs.Common.{clash, not_apart}
use Rattle.lexopt_spec.specs.Steps as steps
use Rattle.lexopt_line_spec.specs.Table as spec
use Rattle.lexopt_line_spec.proofs.Existence.{only_one}
use Rattle.lexopt_options_spec.proofs.ReadItems.{ReadsAll, all_read}
use Rattle.lexopt_options_spec.proofs.Sound.{whole_names}
use Rattle.lexopt_options_spec.proofs.Taken.{not_both, zero_within}
use Rattle.lexopt_options_spec.proofs.Lists.{Later, split, first_none, first_is, same_somes, count_append}

-- nothing is read yet
pub nothing_read : (d : Declaration) (u : UnreadLine) → IsLine u → ReadsUpTo d u [] u
nothing_read d u line = record {
  items = [];
  read = refl;
  line = line;
  parsed = refl;
  within = zero_within (most d.positionals);
}

-- ---- an option by its name

pub item_of : (name : Name) (replies : List Reply) → IsOf name (item_after name replies)
item_of name (steps.taken word ∷ replies) = refl
item_of name replies = refl

pub undeclared : (options : List Declared) (name : Name) (item : Item) → IsOf name item → index_of options name ≡ None → parsed_item options item ≡ None
undeclared options name (spec.option other value) is none = ap (option_map (λ i. _)) (ap (index_of options) is ∙ none)
undeclared options name (spec.many other values) is none = ap (option_map (λ i. _)) (ap (index_of options) is ∙ none)
undeclared options name (spec.positional word) is none = absurd is

-- ---- what is read is one list

pub same_parsed : (d : Declaration) (words : List (List ℕ)) (l m : List Parsed) (items others : List Item) → Spells (table d.options) d.short_equals words items → Spells (table d.options) d.short_equals words others
    → map (parsed_item d.options) items ≡ map (λ s. Some s) l → map (parsed_item d.options) others ≡ map (λ s. Some s) m → l ≡ m
same_parsed d words l m items others spelled too are is =
    let t = table d.options in
    let same = only_one t (start d.short_equals words) items others tt (spelled_shows t d.short_equals words items spelled) (spelled_shows t d.short_equals words others too) in
    same_somes l m (sym are ∙ ap (map (parsed_item d.options)) same ∙ is)

pub one_front : (d : Declaration) (words : List (List ℕ)) (l m : List Parsed) → MeansFront d words l → MeansFront d words m → l ≡ m
one_front d words l m means other = same_parsed d words l m means.items other.items means.spelled other.spelled means.parsed other.parsed

-- words that are read to their end spell what was read
pub read_spells : (d : Declaration) → is_sound d.options ≡ true → (words : List (List ℕ)) (items : List Item) (l : List Parsed) (v w : UnreadLine) → ReadsItems (table d.options) (start d.short_equals words) items v
    → Next v steps.end w → map (parsed_item d.options) items ≡ map (λ s. Some s) l → Spells (table d.options) d.short_equals words items
read_spells d sound words items l v w reads ends parsed =
    let t = table d.options in
    let reading = subst (IsReading t (start d.short_equals words) steps.end) (append-nil items) (says_items t (start d.short_equals words) v items reads steps.end [] (reads_last t v w steps.end tt ends)) in
    shown_spells t d.short_equals words items (said_shows t d.short_equals words items reading) (whole_names d.options sound items l parsed)

-- and mean it
pub whole_front : (d : Declaration) (words : List (List ℕ)) (l : List Parsed) (v w : UnreadLine) → is_sound d.options ≡ true → ReadsUpTo d (start d.short_equals words) l v → Next v steps.end w → MeansFront d words l
whole_front d words l v w sound read ends = record {
  items = read.items;
  spelled = read_spells d sound words read.items l v w read.read ends read.parsed;
  parsed = read.parsed;
  within = read.within;
}

-- ---- words whose reading stops mean nothing

-- the reading of these words stops at this mistake, even if an option does not accept a value
-- before it
pub record ComesTo (d : Declaration) (words : List (List ℕ)) (before : List Parsed) (mistake : Mistake) : Type 0 where
  pub there : UnreadLine
  pub read : ReadsUpTo d (start d.short_equals words) before there
  pub stops : Stops d before there mistake

pub comes_to : {d : Declaration} {words : List (List ℕ)} {before : List Parsed} {mistake : Mistake} → StopsAt d words before mistake → ComesTo d words before mistake
comes_to at = record { there = at.there; read = at.read; stops = at.stops }

-- the words spell m, and l is read up to the line u: every reading of u is the end of a reading of
-- the whole, so it gives the rest of m
later : (d : Declaration) (words : List (List ℕ)) (l m : List Parsed) (items all : List Item) (u : UnreadLine) → ReadsItems (table d.options) (start d.short_equals words) items u
    → map (parsed_item d.options) items ≡ map (λ s. Some s) l → Spells (table d.options) d.short_equals words all → map (parsed_item d.options) all ≡ map (λ s. Some s) m
    → (final : Reply) (xs : List Item) → IsReading (table d.options) u final xs → (final ≡ steps.end) × Later (parsed_item d.options) xs l m
later d words l m items all u reads parsed spelled are final xs reading =
    let t = table d.options in
    let same = shown_said t d.short_equals words all (items ++ xs) final (spelled_shows t d.short_equals words all spelled) (says_items t (start d.short_equals words) u items reads final xs reading) in
    (same.0, split (parsed_item d.options) items xs l m parsed (sym (ap (map (parsed_item d.options)) same.1) ∙ are))

ends : (d : Declaration) (words : List (List ℕ)) (before : List Parsed) (u : UnreadLine) → ReadsUpTo d (start d.short_equals words) before u → (l : List Parsed) → MeansFront d words l
    → (final : Reply) (m : List Item) → IsReading (table d.options) u final m → (final ≡ steps.end) × Later (parsed_item d.options) m before l
ends d words before u read l means = later d words before l read.items means.items u read.read read.parsed means.spelled means.parsed

pub above : (n k : ℕ) (limit : Option ℕ) → limit ≡ Some n → IsWithin (n + suc k) limit → ⊥
above n k limit is within = let over : n + suc k ≤ n = subst (IsWithin (n + suc k)) is within in omega arith

-- it is a mistake before the end of a line, and not a value that is not accepted
abbrev pub StopsEarly : Mistake → Type 0
StopsEarly (unknown_option name left) = Unit {0}
StopsEarly (unexpected_value option value) = Unit {0}
StopsEarly (missing_value index option) = Unit {0}
StopsEarly (unexpected_argument word) = Unit {0}
StopsEarly why = ⊥

stops_front : (d : Declaration) (words : List (List ℕ)) (before : List Parsed) (mistake : Mistake) (u : UnreadLine) → ReadsUpTo d (start d.short_equals words) before u → StopsEarly mistake → Stops d before u mistake
    → (l : List Parsed) → MeansFront d words l → ⊥
stops_front d words before mistake u read early (not_declared name v step none) l means =
    let r = option_reading (table d.options) u v name (step_line next u (option_reply name) v read.line step) step in
    let rest = (ends d words before u read l means r.0 (item_after name r.1 ∷ items_of_replies r.1) r.2).1 in
    first_none (parsed_item d.options) (item_after name r.1) (items_of_replies r.1) rest.later (undeclared d.options name (item_after name r.1) (item_of name r.1) none) rest.are
stops_front d words before mistake u read early (value_of_flag option value v step) l means =
    let e = ends d words before u read l means (steps.unexpected option value) _ (reads_last (table d.options) u v (steps.unexpected option value) tt step) in
    let f : steps.unexpected option value ≡ steps.end = e.0 in cc
stops_front d words before mistake u read early (no_value name index option call v w step found due takes) l means =
    let e = ends d words before u read l means (steps.missing (Some option)) _
    (reads_refused (table d.options) u v w name (kind (table d.options) name) call (steps.missing (Some option)) refl due tt step takes) in
    let f : steps.missing (Some option) ≡ steps.end = e.0 in cc
stops_front d words before mistake u read early (one_too_many word v step limit) l means =
    let t = table d.options in
    let r = some_reading t v (step_line next u (steps.positional word) v read.line step) in
    let rest = (ends d words before u read l means r.0 _ (says_positional t u v word step r.0 r.1 r.2)).1 in
    let first = first_is (parsed_item d.options) (spec.positional word) (positional word) r.1 rest.later refl rest.are in
    let count : positional_count l ≡ positional_count before + suc (positional_count first.0) =
    ap positional_count rest.all_are ∙ count_append before rest.later ∙ ap (λ m. positional_count before + positional_count m) first.1 ∙ ap (λ n. positional_count before + n) (omega arith) in
    above (positional_count before) (positional_count first.0) (most d.positionals) limit (subst (λ n. IsWithin n (most d.positionals)) count means.within)
stops_front d words before mistake u read early stops l means = early

-- these words mean nothing
pub no_front : (d : Declaration) (words : List (List ℕ)) (before : List Parsed) (mistake : Mistake) → ComesTo d words before mistake → StopsEarly mistake → (l : List Parsed) → MeansFront d words l → ⊥
no_front d words before mistake at early l means = stops_front d words before mistake at.there at.read early at.stops l means

-- if something is missing, what was read is all that the words mean
front_is : (d : Declaration) (words : List (List ℕ)) (before : List Parsed) (u v : UnreadLine) → ReadsUpTo d (start d.short_equals words) before u → Next u steps.end v → (l : List Parsed) → MeansFront d words l → l ≡ before
front_is d words before u v read step l means =
    let rest = (ends d words before u read l means steps.end [] (reads_last (table d.options) u v steps.end tt step)).1 in
    rest.all_are ∙ ap (λ m. before ++ m) (sym (same_somes [] rest.later rest.are)) ∙ append-nil before

-- if all values are accepted, none is refused
pub not_refused : (options : List Declared) (before : List Parsed) (s : Parsed) (rest : List Parsed) (value : List ℕ) → are_accepted options (before ++ s ∷ rest) ≡ true → refused_value options s ≡ Some value → ⊥
not_refused options [] s rest value accepted refused =
    let parts = and_parts (is_none (refused_value options s)) (are_accepted options rest) accepted in false≢true (sym (ap is_none refused) ∙ parts.0)
not_refused options (b ∷ before) s rest value accepted refused =
    let parts = and_parts (is_none (refused_value options b)) (are_accepted options (before ++ s ∷ rest)) accepted in not_refused options before s rest value parts.1 refused

stops_whole : (d : Declaration) (words : List (List ℕ)) (before : List Parsed) (mistake : Mistake) (u : UnreadLine) → ReadsUpTo d (start d.short_equals words) before u → Stops d before u mistake
    → (l : List Parsed) → Means d words l → ⊥
stops_whole d words before mistake u read (too_few v step few) l means =
    let enough : least d.positionals ≤ positional_count before = subst (λ m. least d.positionals ≤ positional_count m) (front_is d words before u v read step l means.whole.front) means.whole.enough in
    omega arith
stops_whole d words before mistake u read (not_complete index v step enough taken first) l means =
    let same = front_is d words before u v read step l means.whole.front in
    false≢true (sym first.absent ∙ ap (occurs index) (sym same) ∙ means.whole.complete index first.here)
stops_whole d words before mistake u read (not_apart index other v step enough taken complete first) l means =
    let same = front_is d words before u v read step l means.whole.front in
    false≢true (sym (means.apart index other) ∙ ap (λ m. clash d.options (λ i. occurs i m) index other) same ∙ first.here)
stops_whole d words before mistake u read (not_taken index word v step enough unfit) l means =
    let same = front_is d words before u v read step l means.whole.front in
    not_both d.positionals (positional_words before) index word unfit (subst (λ m. AreTaken d.positionals (positional_words m)) same means.whole.taken)
stops_whole d words before mistake u read (not_accepted s index value v own option refused) l means =
    let r = some_reading (table d.options) v own.line in
    let rest = (ends d words before u read l means.whole.front r.0 (own.items ++ r.1) (says_items (table d.options) u v own.items own.read r.0 r.1 r.2)).1 in
    let more = split (parsed_item d.options) own.items r.1 (s ∷ []) rest.later own.parsed rest.are in
    let accepted : are_accepted d.options (before ++ s ∷ more.later) ≡ true = subst (λ m. are_accepted d.options m ≡ true) (rest.all_are ∙ ap (λ m. before ++ m) more.all_are) means.whole.accepted in
    not_refused d.options before s more.later value accepted refused
stops_whole d words before mistake u read stops l means = stops_front d words before mistake u read tt stops l means.whole.front

-- words whose reading stops mean nothing
pub nothing_parsed : (d : Declaration) (words : List (List ℕ)) (before : List Parsed) (mistake : Mistake) → StopsAt d words before mistake → (l : List Parsed) → Means d words l → ⊥
nothing_parsed d words before mistake at l means = stops_whole d words before mistake at.there at.read at.stops l means

-- ---- what a front of a line means

-- what words spell is read up to their end
pub spelled_read : (t : Table) (short_equals : Bool) (words : List (List ℕ)) (items : List Item) → Spells t short_equals words items → (after : UnreadLine) × ReadsAll t (start short_equals words) items after
spelled_read t short_equals words items spelled =
    let reading = shown_read t short_equals words items (spelled_shows t short_equals words items spelled) in
    (reading.after, all_read t (start short_equals words) items reading)

-- the words spell m, and l is read up to the line u: the rest is read from there
pub record Rest (d : Declaration) (l m : List Parsed) (u : UnreadLine) : Type 0 where
  pub items : List Item
  pub rest : Later (parsed_item d.options) items l m
  pub after : UnreadLine
  pub all : ReadsAll (table d.options) u items after

pub rest_of : (d : Declaration) (words : List (List ℕ)) (l m : List Parsed) (items all : List Item) (u : UnreadLine) → IsLine u → ReadsItems (table d.options) (start d.short_equals words) items u
    → map (parsed_item d.options) items ≡ map (λ s. Some s) l → Spells (table d.options) d.short_equals words all → map (parsed_item d.options) all ≡ map (λ s. Some s) m → Rest d l m u
rest_of d words l m items all u line reads parsed spelled are =
    let t = table d.options in
    let r = some_reading t u line in
    let so = later d words l m items all u reads parsed spelled are r.0 r.1 r.2 in
    let reading = subst (λ f. IsReading t u f r.1) so.0 r.2 in
    record { items = r.1; rest = so.1; after = reading.after; all = all_read t u r.1 reading }

-- what words mean begins with what was read
pub front_later : (d : Declaration) (words : List (List ℕ)) (before : List Parsed) (there : UnreadLine) → ReadsUpTo d (start d.short_equals words) before there → (l : List Parsed) → MeansFront d words l
    → (later : List Parsed) × (l ≡ before ++ later)
front_later d words before there read l means =
    let rest = (rest_of d words before l read.items means.items there read.line read.read read.parsed means.spelled means.parsed).rest in (rest.later, rest.all_are)
