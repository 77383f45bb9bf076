-- Under a table without options of optional or several values, words spell the same by the rules
-- for such tables.
use Rattle.std.proofs.Common.{◌≡◌, ℕ, Bool, true, false, List, [], refl, sym, ap, subst, ◌∙◌, cond}
use Rattle.lexopt_line_spec.specs.Table.{Name, short, long, Item, Kind, flag, one, optional, several, kind, one_value, holds_in}
use Rattle.lexopt_line_spec.specs.Spelling as large
use Rattle.lexopt_line_spec.specs.Spelling.{Letters, After, Completes}
use Rattle.lexopt_laws.specs.OneValueSpelling as small
use Rattle.lexopt_laws.specs.OneValueSpelling.{ValueKind, bare, valued, OneValueTable, value_kind, CompletesValue, widened}

abbrev same_as : ValueKind → Kind
same_as bare = flag
same_as valued = one

none_held : (name : Name) → holds_in [] [] name ≡ false
none_held (short c) = refl
none_held (long n) = refl

-- the kinds in such a table
pub one_value_kind : (shorts : List ℕ) (longs : List (List ℕ)) (name : Name) → kind (one_value shorts longs) name ≡ cond (holds_in shorts longs name) one flag
unfolding kind
one_value_kind shorts longs name = go (holds_in shorts longs name) (holds_in [] [] name) (none_held name)
  where
    go : (a b : Bool) → b ≡ false → cond a one (cond b optional (cond b several flag)) ≡ cond a one flag
    go true b none = refl
    go false true none = absurd (let e : true ≡ false = none in cc)
    go false false none = refl

as_kind : (held : Bool) → cond held one flag ≡ same_as (cond held valued bare)
as_kind true = refl
as_kind false = refl

same_kind : (t : OneValueTable) (name : Name) → kind (widened t) name ≡ same_as (value_kind t name)
unfolding value_kind
same_kind t name = one_value_kind t.shorts t.longs name ∙ as_kind (holds_in t.shorts t.longs name)

completes_forth : (k : ValueKind) (name : Name) (after : After) (words : List (List ℕ)) (item : Item) (left : List (List ℕ))
    → CompletesValue k name after words item left → Completes (same_as k) name after words item left
completes_forth bare name after words item left h = h
completes_forth valued name after words item left h = h

completes_back : (k : ValueKind) (name : Name) (after : After) (words : List (List ℕ)) (item : Item) (left : List (List ℕ))
    → Completes (same_as k) name after words item left → CompletesValue k name after words item left
completes_back bare name after words item left h = h
completes_back valued name after words item left h = h

forth : (t : OneValueTable) (name : Name) (after : After) (words : List (List ℕ)) (item : Item) (left : List (List ℕ))
    → CompletesValue (value_kind t name) name after words item left → Completes (kind (widened t) name) name after words item left
forth t name after words item left h =
    subst (λ (k : Kind). Completes k name after words item left) (sym (same_kind t name)) (completes_forth (value_kind t name) name after words item left h)

back : (t : OneValueTable) (name : Name) (after : After) (words : List (List ℕ)) (item : Item) (left : List (List ℕ))
    → Completes (kind (widened t) name) name after words item left → CompletesValue (value_kind t name) name after words item left
back t name after words item left h =
    completes_back (value_kind t name) name after words item left (subst (λ (k : Kind). Completes k name after words item left) (same_kind t name) h)

is_flag : (k : ValueKind) → same_as k ≡ flag → k ≡ bare
is_flag bare h = refl
is_flag valued h = absurd (let e : one ≡ flag = h in cc)

cluster_forth : (letters : Letters) (t : OneValueTable) (short_equals : Bool) (words left : List (List ℕ)) (bytes : List ℕ) (items : List Item)
    → small.OneValueCluster letters t short_equals words left bytes items → large.Cluster letters (widened t) short_equals words left bytes items
cluster_forth letters t short_equals words left bytes items (small.flag_first c character others more letter k no_mark spelled) =
    large.flag_first c character others more letter (same_kind t (short c) ∙ ap same_as k) no_mark (cluster_forth letters t short_equals words left others more spelled)
cluster_forth letters t short_equals words left bytes items (small.last_option c character others after item letter ends completes) =
    large.last_option c character others after item letter ends (forth t (short c) after words item left completes)

cluster_back : (letters : Letters) (t : OneValueTable) (short_equals : Bool) (words left : List (List ℕ)) (bytes : List ℕ) (items : List Item)
    → large.Cluster letters (widened t) short_equals words left bytes items → small.OneValueCluster letters t short_equals words left bytes items
cluster_back letters t short_equals words left bytes items (large.flag_first c character others more letter k no_mark spelled) =
    small.flag_first c character others more letter (is_flag (value_kind t (short c)) (sym (same_kind t (short c)) ∙ k)) no_mark
    (cluster_back letters t short_equals words left others more spelled)
cluster_back letters t short_equals words left bytes items (large.last_option c character others after item letter ends completes) =
    small.last_option c character others after item letter ends (back t (short c) after words item left completes)

group_forth : (letters : Letters) (t : OneValueTable) (short_equals : Bool) (words : List (List ℕ)) (items : List Item) (left : List (List ℕ))
    → small.OneValueGroup letters t short_equals words items left → large.Group letters (widened t) short_equals words items left
group_forth letters t short_equals words items left (small.cluster bytes others are other spelled) =
    large.cluster bytes others are other (cluster_forth letters t short_equals others left bytes items spelled)
group_forth letters t short_equals words items left (small.long_option text bytes name after item others are is none letter completes item_is) =
    large.long_option text bytes name after item others are is none letter (forth t (long name) after others item left completes) item_is

group_back : (letters : Letters) (t : OneValueTable) (short_equals : Bool) (words : List (List ℕ)) (items : List Item) (left : List (List ℕ))
    → large.Group letters (widened t) short_equals words items left → small.OneValueGroup letters t short_equals words items left
group_back letters t short_equals words items left (large.cluster bytes others are other spelled) =
    small.cluster bytes others are other (cluster_back letters t short_equals others left bytes items spelled)
group_back letters t short_equals words items left (large.long_option text bytes name after item others are is none letter completes item_is) =
    small.long_option text bytes name after item others are is none letter (back t (long name) after others item left completes) item_is

pub line_forth : (letters : Letters) (t : OneValueTable) (short_equals : Bool) (words : List (List ℕ)) (items : List Item)
    → small.OneValueLine letters t short_equals words items → large.Line letters (widened t) short_equals words items
line_forth letters t short_equals words items small.no_words = large.no_words
line_forth letters t short_equals words items (small.plain_word w ws more plain line) = large.plain_word w ws more plain (line_forth letters t short_equals ws more line)
line_forth letters t short_equals words items (small.group ws left front more first line) =
    large.group ws left front more (group_forth letters t short_equals ws front left first) (line_forth letters t short_equals left more line)
line_forth letters t short_equals words items (small.separator ws) = large.separator ws

pub line_back : (letters : Letters) (t : OneValueTable) (short_equals : Bool) (words : List (List ℕ)) (items : List Item)
    → large.Line letters (widened t) short_equals words items → small.OneValueLine letters t short_equals words items
line_back letters t short_equals words items large.no_words = small.no_words
line_back letters t short_equals words items (large.plain_word w ws more plain line) = small.plain_word w ws more plain (line_back letters t short_equals ws more line)
line_back letters t short_equals words items (large.group ws left front more first line) =
    small.group ws left front more (group_back letters t short_equals ws front left first) (line_back letters t short_equals left more line)
line_back letters t short_equals words items (large.separator ws) = small.separator ws
