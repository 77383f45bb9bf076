-- The speller spells each list of items that some words show.
use Rattle.std.proofs.Common.{◌≡◌, ◌≢◌, ◌⊎◌, ℕ, suc, ◌==◌, ◌&&◌, Bool, true, false, List, [], ◌∷◌, ◌++◌, Option, Some, None, refl, sym, ap, subst, ◌∙◌, arith, inl, inr, ⊎_elim, true≢false}
use Rattle.std.proofs.lemmas.Bool.{ne_eqb, and_right}
use Rattle.std.proofs.lemmas.Str.{is_utf8-from_IsUtf8}
use Rattle.std.specs.Prelude.{Ok}
use Rattle.std.specs.List.{All}
use Rattle.std.specs.Str.{IsUtf8, is_utf8}
use lib.Utf8.{scalar}
use Rattle.lexopt_spec.specs.Pieces.{lossy}
use Rattle.lexopt_spec.specs.UnreadLine.{dash, equals, BeginsWith, IsPlain, is_plain, IsNormalIn}
use Rattle.lexopt_line_spec.specs.Table.{Name, short, long, Item, option, many, positional, Kind, flag, one, optional, several, kind, Table}
use Rattle.lexopt_line_spec.specs.Spelling as spelling
use Rattle.lexopt_line_spec.specs.Spelling.{damaged, After, nothing, attached, joined, no_value, attached_value, joined_value, next_word, no_optional, attached_optional, joined_optional, joined_several, attached_several, several_words, Completes, IsAfterLast, nothing_more, a_value, marked_value, Cluster, flag_first, last_option, IsLong, name_alone, name_and_value, Group, cluster, Line, no_words, plain_word, group, separator, Shows}
use Rattle.lexopt_line_spec.specs.Speller.{Place, open_line, in_cluster, after_values, after_positional, ended}
use Rattle.lexopt_line_spec.proofs.SpellerTables.{Form, name_only, in_word, attached_form, short_form, long_form, words_form, short_words_form, short_many_form, long_many_form, Added, short_added, is_named, long_placed, long_added, needs_no_separator, positional_added, adds}
use Rattle.lexopt_line_spec.proofs.Names.{letter_scalar}
use Rattle.lexopt_spec.proofs.PlainFronts.{plain_passes}
use Rattle.lexopt_line_spec.proofs.SpellerTests.{all_pass, has_equals, letter_dash, lossy_text, lossy_free, lossy_some}
use Rattle.lexopt_line_spec.proofs.SpellerPlaces.{Can, nil_can, can_cons, positionals_can, words_ok}

-- at this place, these words may come next
abbrev Follows : Place → List (List ℕ) → Type 0
Follows place left = (place ≡ open_line) ⊎ ((place ≡ in_cluster) ⊎ ((place ≡ after_values) × ¬ IsNormalIn false left))

record Ready (t : Table) (short_equals : Bool) (left : List (List ℕ)) (items : List Item) : Type 0 where
  open_too : Can t short_equals items open_line
  in_cluster_too : Can t short_equals items in_cluster
  after_values_too : ¬ IsNormalIn false left → Can t short_equals items after_values
  after_positional_too : Can t short_equals items after_positional

followed : (t : Table) (short_equals : Bool) (place : Place) (left : List (List ℕ)) (items : List Item) → Follows place left → Ready t short_equals left items → Can t short_equals items place
followed t short_equals place left items (inl is) ready = subst (Can t short_equals items) (sym is) ready.open_too
followed t short_equals place left items (inr (inl is)) ready = subst (Can t short_equals items) (sym is) ready.in_cluster_too
followed t short_equals place left items (inr (inr is)) ready = subst (Can t short_equals items) (sym is.0) (ready.after_values_too is.1)

-- ---- the form of an option's values

-- the form of a short option; an only value is joined if the words show it so
data ShortForm (short_equals : Bool) (k : Kind) (name : Name) (item : Item) (left : List (List ℕ)) : Type 0 where
  of_option : (value : Option (List ℕ)) (f : Form) → item ≡ option name value → short_form short_equals k value ≡ Ok f → Follows f.place left → ShortForm short_equals k name item left
  of_many : (joins : Bool) (values : List (List ℕ)) (f : Form) → item ≡ many name values → short_many_form (short_equals && joins) k values ≡ Ok f → Follows f.place left
      → ShortForm short_equals k name item left

attached_ok : (short_equals : Bool) (v : List ℕ) → (short_equals ≡ true) ⊎ (v ≢ []) → (f : Form) × (attached_form short_equals v ≡ Ok f) × (f.place ≡ open_line)
attached_ok true [] fits = (_, refl, refl)
attached_ok false [] fits = ⊎_elim (λ on. absurd (true≢false (sym on))) (λ some. absurd (some refl)) fits
attached_ok true (b ∷ bs) fits = by (b == equals) refl
  where
    by : (x : Bool) → (b == equals) ≡ x → (f : Form) × (attached_form true (b ∷ bs) ≡ Ok f) × (f.place ≡ open_line)
    by true is = (in_word (joined (b ∷ bs)), rw is, refl)
    by false is = (in_word (attached (b ∷ bs)), rw is, refl)
attached_ok false (b ∷ bs) fits = (_, refl, refl)

optional_short : (short_equals : Bool) (name : Name) (item : Item) (left : List (List ℕ)) (v : List ℕ) → item ≡ option name (Some v) → (short_equals ≡ true) ⊎ (v ≢ [])
    → ShortForm short_equals optional name item left
optional_short short_equals name item left v is fits = let f = attached_ok short_equals v fits in of_option (Some v) f.0 is f.1 (inl f.2)

-- several values in words of their own
words_short : (short_equals : Bool) (name : Name) (item : Item) (left : List (List ℕ)) (v : List ℕ) (vs : List (List ℕ)) → item ≡ many name (v ∷ vs) → All (IsPlain false) vs
    → ¬ IsNormalIn false left → ShortForm short_equals several name item left
words_short short_equals name item left v [] is plain calm =
    let f = words_ok (is_plain false v) v [] in
    of_many false (v ∷ []) f.0 is (ap (λ x. short_many_form x several (v ∷ [])) (and_right short_equals false refl) ∙ f.1) (inr (inr (f.2, calm)))
words_short short_equals name item left v (w ∷ ws) is plain calm =
    let f = words_ok (is_plain false v) v (w ∷ ws) in
    of_many false (v ∷ w ∷ ws) f.0 is
    (ap (λ x. short_many_form x several (v ∷ w ∷ ws)) (and_right short_equals false refl) ∙ ap (λ x. short_words_form (is_plain false v) x v (w ∷ ws)) (all_pass (w ∷ ws) plain) ∙ f.1)
    (inr (inr (f.2, calm)))

-- the texts that may come after a character
abbrev Fits : Bool → After → Type 0
Fits short_equals nothing = Unit {0}
Fits short_equals (attached v) = v ≢ []
Fits short_equals (joined v) = short_equals ≡ true

joined_short : (short_equals : Bool) (name : Name) (item : Item) (left : List (List ℕ)) (v : List ℕ) → item ≡ many name (v ∷ []) → short_equals ≡ true → ShortForm short_equals several name item left
joined_short short_equals name item left v is on = of_many true (v ∷ []) _ is (ap (λ x. short_many_form (x && true) several (v ∷ [])) on) (inl refl)

tail_all : (v : List ℕ) (vs : List (List ℕ)) → All (IsPlain false) (v ∷ vs) → All (IsPlain false) vs
tail_all v vs all = λ k d within. all (suc k) d (omega (arith, within))

short_of : (short_equals : Bool) (k : Kind) (name : Name) (after : After) (words : List (List ℕ)) (item : Item) (left : List (List ℕ)) → Fits short_equals after
    → Completes k name after words item left → ShortForm short_equals k name item left
short_of short_equals flag name after words item left fits (no_value b i l) = of_option None _ i refl (inr (inl refl))
short_of short_equals one name after words item left fits (attached_value v b i l) = of_option (Some v) _ i refl (inl refl)
short_of short_equals one name after words item left fits (joined_value v b i l) = of_option (Some v) _ i refl (inl refl)
short_of short_equals one name after words item left fits (next_word v b i l) = of_option (Some v) _ i refl (inl refl)
short_of short_equals optional name after words item left fits (no_optional b i l) = of_option None _ i refl (inl refl)
short_of short_equals optional name after words item left fits (attached_optional v b i l) = optional_short short_equals name item left v i (inr (subst (Fits short_equals) b fits))
short_of short_equals optional name after words item left fits (joined_optional v b i l) = optional_short short_equals name item left v i (inl (subst (Fits short_equals) b fits))
short_of short_equals several name after words item left fits (joined_several v b i l) = joined_short short_equals name item left v i (subst (Fits short_equals) b fits)
short_of short_equals several name after words item left fits (attached_several v front b g i) = words_short short_equals name item left v front i g.plain g.longest
short_of short_equals several name after words item left fits (several_words [] b g some i) = absurd (some refl)
short_of short_equals several name after words item left fits (several_words (v ∷ vs) b g some i) = words_short short_equals name item left v vs i (tail_all v vs g.plain) g.longest

-- the form of a long option
record LongFits (bytes : List ℕ) (f : Form) (left : List (List ℕ)) : Type 0 where
  named : is_named bytes f.after ≡ true
  follows : Follows f.place left

data LongForm (k : Kind) (bytes : List ℕ) (item : Item) (left : List (List ℕ)) : Type 0 where
  of_option_long : (value : Option (List ℕ)) (f : Form) → item ≡ option (long bytes) value → long_form k value ≡ Ok f → LongFits bytes f left → LongForm k bytes item left
  of_many_long : (values : List (List ℕ)) (f : Form) → item ≡ many (long bytes) values → long_many_form k values ≡ Ok f → LongFits bytes f left → LongForm k bytes item left

name_joined : (bytes v : List ℕ) → is_named bytes (joined v) ≡ true
name_joined [] v = refl
name_joined (b ∷ bs) v = refl

name_some : (bytes : List ℕ) → bytes ≢ [] → is_named bytes nothing ≡ true
name_some [] some = absurd (some refl)
name_some (b ∷ bs) some = refl

joined_long : (k : Kind) (bytes : List ℕ) (item : Item) (left : List (List ℕ)) (v : List ℕ) → item ≡ option (long bytes) (Some v)
    → long_form k (Some v) ≡ Ok (record { after = joined v; words = []; place = open_line }) → LongForm k bytes item left
joined_long k bytes item left v is form = of_option_long (Some v) _ is form (record { named = name_joined bytes v; follows = inl refl })

alone_long : (k : Kind) (bytes : List ℕ) (item : Item) (left : List (List ℕ)) → bytes ≢ [] → item ≡ option (long bytes) None
    → long_form k None ≡ Ok (name_only open_line) → LongForm k bytes item left
alone_long k bytes item left some is form = of_option_long None _ is form (record { named = name_some bytes some; follows = inl refl })

many_long : (bytes : List ℕ) (item : Item) (left : List (List ℕ)) (v : List ℕ) (vs : List (List ℕ)) → item ≡ many (long bytes) (v ∷ vs) → bytes ≢ []
    → All (IsPlain false) (v ∷ vs) → ¬ IsNormalIn false left → LongForm several bytes item left
many_long bytes item left v [] is some plain calm = of_many_long (v ∷ []) _ is refl (record { named = name_joined bytes v; follows = inl refl })
many_long bytes item left v (w ∷ ws) is some plain calm =
    of_many_long (v ∷ w ∷ ws) _ is (ap (λ x. words_form x (v ∷ w ∷ ws)) (all_pass (v ∷ w ∷ ws) plain)) (record { named = name_some bytes some; follows = inr (inr (refl, calm)) })

-- nothing comes after a name that is not empty, or a joined value comes after a name
abbrev FitsLong : List ℕ → After → Type 0
FitsLong bytes nothing = bytes ≢ []
FitsLong bytes (attached v) = ⊥
FitsLong bytes (joined v) = Unit {0}

long_of : (k : Kind) (bytes : List ℕ) (after : After) (words : List (List ℕ)) (item : Item) (left : List (List ℕ)) → FitsLong bytes after
    → Completes k (long bytes) after words item left → LongForm k bytes item left
long_of flag bytes after words item left fits (no_value b i l) = alone_long flag bytes item left (subst (FitsLong bytes) b fits) i refl
long_of one bytes after words item left fits (attached_value v b i l) = joined_long one bytes item left v i refl
long_of one bytes after words item left fits (joined_value v b i l) = joined_long one bytes item left v i refl
long_of one bytes after words item left fits (next_word v b i l) = joined_long one bytes item left v i refl
long_of optional bytes after words item left fits (no_optional b i l) = alone_long optional bytes item left (subst (FitsLong bytes) b fits) i refl
long_of optional bytes after words item left fits (attached_optional v b i l) = joined_long optional bytes item left v i refl
long_of optional bytes after words item left fits (joined_optional v b i l) = joined_long optional bytes item left v i refl
long_of several bytes after words item left fits (joined_several v b i l) =
    of_many_long (v ∷ []) _ i refl (record { named = name_joined bytes v; follows = inl refl })
long_of several bytes after words item left fits (attached_several v front b g i) = absurd (subst (FitsLong bytes) b fits)
long_of several bytes after words item left fits (several_words [] b g some i) = absurd (some refl)
long_of several bytes after words item left fits (several_words (v ∷ vs) b g some i) =
    many_long bytes item left v vs i (subst (FitsLong bytes) b fits) g.plain g.longest

-- ---- the words that an item adds

abbrev AddsAt : Table → Bool → Place → Item → List (List ℕ) → Type 0
AddsAt t short_equals place item left = (joins : Bool) × (a : Added) × (adds t short_equals joins false place item ≡ Ok a) × Follows a.place left

abbrev ShortPlace : ℕ → Place → Type 0
ShortPlace c place = (place ≡ in_cluster) ⊎ (((c == dash) ≡ false) × (place ≢ ended))

short_is : (s d : Bool) (place : Place) (c : ℕ) (f : Form) → s ≡ true → (place ≡ in_cluster) ⊎ ((d ≡ false) × (place ≢ ended))
    → (a : Added) × (short_added s d place c (Ok f) ≡ Ok a) × (a.place ≡ f.place)
short_is false d place c f is at = absurd (true≢false (sym is))
short_is true d ended c f is at = ⊎_elim (λ same. absurd (let e : ended ≡ in_cluster = same in cc)) (λ other. absurd (other.1 refl)) at
short_is true false place c f is at = (_, refl, refl)
short_is true true in_cluster c f is at = (_, refl, refl)
short_is true true place c f is at = ⊎_elim (λ same. absurd (let e : place ≡ in_cluster = same in cc)) (λ other. absurd (true≢false other.0)) at

short_adds : (t : Table) (short_equals : Bool) (place : Place) (c : ℕ) (item : Item) (left : List (List ℕ)) → scalar c ≡ true → ShortPlace c place
    → ShortForm short_equals (kind t (short c)) (short c) item left → AddsAt t short_equals place item left
short_adds t short_equals place c item left is_scalar at (of_option value f i form_is follows) =
    let a = short_is (scalar c) (c == dash) place c f is_scalar at in
    subst (λ (x : Item). AddsAt t short_equals place x left) (sym i)
    (false, a.0, ap (short_added (scalar c) (c == dash) place c) form_is ∙ a.1, subst (λ (p : Place). Follows p left) (sym a.2) follows)
short_adds t short_equals place c item left is_scalar at (of_many joins values f i form_is follows) =
    let a = short_is (scalar c) (c == dash) place c f is_scalar at in
    subst (λ (x : Item). AddsAt t short_equals place x left) (sym i)
    (joins, a.0, ap (short_added (scalar c) (c == dash) place c) form_is ∙ a.1, subst (λ (p : Place). Follows p left) (sym a.2) follows)

placed_is : (n : Bool) (place : Place) (name : List ℕ) (f : Form) → n ≡ true → place ≢ ended → (a : Added) × (long_placed n place name f ≡ Ok a) × (a.place ≡ f.place)
placed_is false place name f named at = absurd (true≢false (sym named))
placed_is true ended name f named at = absurd (at refl)
placed_is true place name f named at = (_, refl, refl)

long_is : (u e : Bool) (place : Place) (name : List ℕ) (f : Form) → u ≡ true → e ≡ false → place ≢ ended → is_named name f.after ≡ true
    → (a : Added) × (long_added u e place name (Ok f) ≡ Ok a) × (a.place ≡ f.place)
long_is false e place name f text none at named = absurd (true≢false (sym text))
long_is true true place name f text none at named = absurd (true≢false none)
long_is true false place name f text none at named = placed_is (is_named name f.after) place name f named at

long_adds : (t : Table) (short_equals : Bool) (place : Place) (name : List ℕ) (item : Item) (left : List (List ℕ)) → IsUtf8 name → has_equals name ≡ false
    → place ≢ ended → LongForm (kind t (long name)) name item left → AddsAt t short_equals place item left
long_adds t short_equals place name item left text none at (of_option_long value f i form_is fits) =
    let a = long_is (is_utf8 name) (has_equals name) place name f (is_utf8-from_IsUtf8 name text) none at fits.named in
    subst (λ (x : Item). AddsAt t short_equals place x left) (sym i)
    (false, a.0, ap (long_added (is_utf8 name) (has_equals name) place name) form_is ∙ a.1, subst (λ (p : Place). Follows p left) (sym a.2) fits.follows)
long_adds t short_equals place name item left text none at (of_many_long values f i form_is fits) =
    let a = long_is (is_utf8 name) (has_equals name) place name f (is_utf8-from_IsUtf8 name text) none at fits.named in
    subst (λ (x : Item). AddsAt t short_equals place x left) (sym i)
    (false, a.0, ap (long_added (is_utf8 name) (has_equals name) place name) form_is ∙ a.1, subst (λ (p : Place). Follows p left) (sym a.2) fits.follows)

-- ---- clusters

fits_after : (short_equals : Bool) (bytes : List ℕ) (after : After) → IsAfterLast short_equals bytes after → Fits short_equals after
fits_after short_equals bytes after (nothing_more none is) = subst (Fits short_equals) (sym is) tt
fits_after short_equals bytes after (a_value some mark is) = subst (Fits short_equals) (sym is) some
fits_after short_equals bytes after (marked_value v on is b) = subst (Fits short_equals) (sym b) on

abbrev ClusterPlace : List ℕ → Place → Type 0
ClusterPlace bytes place = (place ≡ in_cluster) ⊎ (¬ BeginsWith dash bytes × (place ≢ ended))

short_place : (c : ℕ) (character others : List ℕ) (place : Place) → damaged.character c character others → ClusterPlace (character ++ others) place → ShortPlace c place
short_place c character others place letter (inl at) = inl at
short_place c character others place letter (inr other) = inr (ne_eqb c dash (λ same. other.0 (letter_dash c character others letter same)), other.1)

flag_adds : (t : Table) (short_equals : Bool) (place : Place) (c : ℕ) → scalar c ≡ true → ShortPlace c place → kind t (short c) ≡ flag
    → (a : Added) × (adds t short_equals false false place (option (short c) None) ≡ Ok a) × (a.place ≡ in_cluster)
flag_adds t short_equals place c is_scalar at k =
    let a = short_is (scalar c) (c == dash) place c (name_only in_cluster) is_scalar at in
    (a.0, ap (λ (x : Kind). short_added (scalar c) (c == dash) place c (short_form short_equals x None)) k ∙ a.1, a.2)

cluster_can : (t : Table) (short_equals : Bool) (words left : List (List ℕ)) (bytes : List ℕ) (front items : List Item) (place : Place)
    → Cluster damaged t short_equals words left bytes front → ClusterPlace bytes place → Ready t short_equals left items → Can t short_equals (front ++ items) place
cluster_can t short_equals words left bytes front items place (flag_first c character others more letter k no_mark spelled) at ready =
    let a = flag_adds t short_equals place c (letter_scalar c character others letter) (short_place c character others place letter at) k in
    can_cons t short_equals false false place (option (short c) None) (more ++ items) a.0 a.1
    (cluster_can t short_equals words left others more items a.0.place spelled (inl a.2) ready)
cluster_can t short_equals words left bytes front items place (last_option c character others after item letter ends completes) at ready =
    let a = short_adds t short_equals place c item left (letter_scalar c character others letter) (short_place c character others place letter at)
    (short_of short_equals (kind t (short c)) (short c) after words item left (fits_after short_equals others after ends) completes) in
    can_cons t short_equals a.0 false place item items a.1 a.2 (followed t short_equals a.1.place left items a.3 ready)

-- ---- long options

long_fits : (text bytes name : List ℕ) (after : After) → lossy bytes ≡ name → IsLong text bytes after → FitsLong name after
long_fits text bytes name after is (name_alone some text_is b) = subst (FitsLong name) (sym b) (λ nil. lossy_some bytes some (is ∙ nil))
long_fits text bytes name after is (name_and_value v text_is b) = subst (FitsLong name) (sym b) tt

group_can : (t : Table) (short_equals : Bool) (words : List (List ℕ)) (front : List Item) (left : List (List ℕ)) (items : List Item) (place : Place)
    → Group damaged t short_equals words front left → place ≢ ended → Ready t short_equals left items → Can t short_equals (front ++ items) place
group_can t short_equals words front left items place (cluster bytes others are other spelled) at ready =
    cluster_can t short_equals others left bytes front items place spelled (inr (other, at)) ready
group_can t short_equals words front left items place (spelling.long_option text bytes name after item others are is none letters completes items_are) at ready =
    let a = long_adds t short_equals place name item left (subst IsUtf8 letters (lossy_text bytes)) (ap has_equals (sym letters) ∙ lossy_free bytes none) at
    (long_of (kind t (long name)) name after others item left (long_fits text bytes name after letters is) completes) in
    subst (λ (l : List Item). Can t short_equals (l ++ items) place) (sym items_are)
    (can_cons t short_equals a.0 false place item items a.1 a.2 (followed t short_equals a.1.place left items a.3 ready))

-- ---- a whole line

-- the places at which a plain word needs no separator, unless one is due
data IsRow : Place → Type 0 where
  at_open : IsRow open_line
  at_cluster : IsRow in_cluster
  at_positional : IsRow after_positional

row_leads : (w : List ℕ) (place : Place) → IsRow place → (positional_added (needs_no_separator true false place) place w).place ≡ after_positional
row_leads w open_line at_open = refl
row_leads w in_cluster at_cluster = refl
row_leads w after_positional at_positional = refl
row_leads w after_values at = elim at [ ]
row_leads w ended at = elim at [ ]

plain_can : (t : Table) (short_equals : Bool) (w : List ℕ) (items : List Item) (place : Place) → is_plain false w ≡ true → IsRow place
    → Can t short_equals items after_positional → Can t short_equals (positional w ∷ items) place
plain_can t short_equals w items place plain at can =
    can_cons t short_equals false false place (positional w) items (positional_added (needs_no_separator (is_plain false w) false place) place w) refl
    (subst (Can t short_equals items) (sym (ap (λ p. (positional_added (needs_no_separator p false place) place w).place) plain ∙ row_leads w place at)) can)

line_ready : (t : Table) (short_equals : Bool) (words : List (List ℕ)) (items : List Item) → Line damaged t short_equals words items → Ready t short_equals words items
line_ready t short_equals words items no_words = record {
  open_too = nil_can t short_equals open_line;
  in_cluster_too = nil_can t short_equals in_cluster;
  after_values_too = λ calm. nil_can t short_equals after_values;
  after_positional_too = nil_can t short_equals after_positional;
}
line_ready t short_equals words items (plain_word w ws more plain line) =
    let later = line_ready t short_equals ws more line in
    record {
      open_too = plain_can t short_equals w more open_line (plain_passes false w plain) at_open later.after_positional_too;
      in_cluster_too = plain_can t short_equals w more in_cluster (plain_passes false w plain) at_cluster later.after_positional_too;
      after_values_too = λ calm. absurd (calm plain);
      after_positional_too = plain_can t short_equals w more after_positional (plain_passes false w plain) at_positional later.after_positional_too;
    }
line_ready t short_equals words items (group ws left front more first line) =
    let later = line_ready t short_equals left more line in
    record {
      open_too = group_can t short_equals ws front left more open_line first (λ e. let f : open_line ≡ ended = e in cc) later;
      in_cluster_too = group_can t short_equals ws front left more in_cluster first (λ e. let f : in_cluster ≡ ended = e in cc) later;
      after_values_too = λ calm. group_can t short_equals ws front left more after_values first (λ e. let f : after_values ≡ ended = e in cc) later;
      after_positional_too = group_can t short_equals ws front left more after_positional first (λ e. let f : after_positional ≡ ended = e in cc) later;
    }
line_ready t short_equals words items (separator ws) = record {
  open_too = positionals_can t short_equals ws open_line;
  in_cluster_too = positionals_can t short_equals ws in_cluster;
  after_values_too = λ calm. positionals_can t short_equals ws after_values;
  after_positional_too = positionals_can t short_equals ws after_positional;
}

pub shown_can : (t : Table) (short_equals : Bool) (words : List (List ℕ)) (items : List Item) → Shows t short_equals words items → Can t short_equals items open_line
shown_can t short_equals words items shows = (line_ready t short_equals words items shows).open_too
