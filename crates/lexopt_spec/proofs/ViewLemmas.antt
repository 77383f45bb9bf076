-- Views, one item at a time.
use Rattle.std.proofs.Common.{◌≡◌, ◌≢◌, ◌<◌, ◌+◌, ◌-◌, ℕ, zero, suc, Bool, true, false, List, [], ◌∷◌, ◌++◌, length, take, drop, Option, Some, None, refl, sym, ap, subst, ◌∙◌, arith, append-nil}
use Rattle.std.proofs.Math.Seq.{take-nil, drop-nil}
use Rattle.std.specs.List.{cons_option}
use Rattle.lexopt_spec.specs.UnreadLine.{no_tail, UnreadLine, pending, IsNormalIn}
use Rattle.lexopt_spec.specs.Steps.{items}
use Rattle.lexopt_spec.specs.Views.{plain_front, available, available_with, without, ValuesStep, some_values, TakesWords, RawStep, lends_words, TryRawStep, try_lends_words, Stage, going_on, at_end, values_left, ValueItem, gives_pending, gives_word, stops, stopped, WordItem, ValueItems, WordItems}
use Rattle.lexopt_spec.proofs.PlainFronts.{front-more, front-none}

-- ---- one item of a view of values

at_available : (u : UnreadLine) (p : Option (List ℕ × Bool)) → pending u ≡ p → values_left going_on u ≡ available_with p (plain_front u.ended u.words)
at_available u p is = ap (λ f. available_with f (plain_front u.ended u.words)) is

-- the item is the first of the values that were left
pub item_is_first : (stage : Stage) (u : UnreadLine) (item : Option (List ℕ)) (after : UnreadLine) (now : Stage)
    → ValueItem stage u item after now → values_left stage u ≡ cons_option item (values_left now after)
item_is_first stage u item after now (gives_pending x true s p i a n) = rw (s, i, a, n) (at_available u (Some (x, true)) p)
item_is_first stage u item after now (gives_pending x false s p i a n) = rw (s, i, a, n) (at_available u (Some (x, false)) p)
item_is_first stage u item after now (gives_word w ws s p is plain i a n) =
    rw (s, i, a, n) (at_available u None p ∙ ap (λ l. plain_front u.ended l) is ∙ front-more u.ended w ws plain
    ∙ ap (λ l. w ∷ l) (sym (at_available (record u { words = ws }) None p)))
item_is_first stage u item after now (stops s p other i a n) = rw (s, i, a, n) (at_available u None p ∙ front-none u.ended u.words other)
item_is_first stage u item after now (stopped s i a n) = rw (s, i, a, n) refl

-- after `None`, the view is at its end
pub none_ends : (stage : Stage) (u : UnreadLine) (after : UnreadLine) (now : Stage)
    → ValueItem stage u None after now → (after ≡ u) × (now ≡ at_end)
none_ends stage u after now (gives_pending value by_equals s p i a n) = absurd (let e : None ≡ Some value = i in cc)
none_ends stage u after now (gives_word w ws s p is plain i a n) = absurd (let e : None ≡ Some w = i in cc)
none_ends stage u after now (stops s p other i a n) = (a, n)
none_ends stage u after now (stopped s i a n) = (a, n)

pub none_ever : (u : UnreadLine) (item : Option (List ℕ)) (after : UnreadLine) (now : Stage)
    → ValueItem at_end u item after now → (item ≡ None) × (after ≡ u) × (now ≡ at_end)
none_ever u item after now (gives_pending value by_equals s p i a n) = absurd (let e : at_end ≡ going_on = s in cc)
none_ever u item after now (gives_word w ws s p is plain i a n) = absurd (let e : at_end ≡ going_on = s in cc)
none_ever u item after now (stops s p other i a n) = absurd (let e : at_end ≡ going_on = s in cc)
none_ever u item after now (stopped s i a n) = (i, a, n)

-- ---- n items of a view of values

-- the line after the items is the line after the first one, without the others
after_first : (u : UnreadLine) (value : List ℕ) (by_equals : Bool) (n : ℕ) → pending u ≡ Some (value, by_equals)
    → without None n (record u { tail = no_tail }) ≡ without (pending u) (suc n) u
after_first u value by_equals zero p = rw p refl
after_first u value by_equals (suc n) p = rw p refl

after_word : (u : UnreadLine) (w : List ℕ) (ws : List (List ℕ)) (n : ℕ) → pending u ≡ None → u.words ≡ w ∷ ws
    → without None n (record u { words = ws }) ≡ without (pending u) (suc n) u
after_word u w ws zero p is = rw (p, is) refl
after_word u w ws (suc n) p is = rw (p, is) refl

no_more : (n : ℕ) (u : UnreadLine) (item : Option (List ℕ)) (between : UnreadLine) (next : Stage) (others came : List (List ℕ)) (after : UnreadLine)
    → item ≡ None → between ≡ u → next ≡ at_end → others ≡ take n (values_left next between) → after ≡ without (pending between) (length others) between
    → came ≡ cons_option item others → (came ≡ take (suc n) (cons_option item (values_left next between))) × (after ≡ without (pending u) (length came) u)
no_more n u item between next others came after i a k so_far line all =
    let none : others ≡ [] = so_far ∙ ap (λ s. take n (values_left s between)) k ∙ take-nil n in
    (rw (all, i, k, none) refl, rw (all, i, none) (line ∙ ap (λ l. without (pending between) (length l) between) none ∙ a))

items_after : (n : ℕ) (stage : Stage) (u : UnreadLine) (item : Option (List ℕ)) (between : UnreadLine) (next : Stage)
    (others came : List (List ℕ)) (after : UnreadLine)
    → ValueItem stage u item between next → others ≡ take n (values_left next between) → after ≡ without (pending between) (length others) between
    → came ≡ cons_option item others → (came ≡ take (suc n) (cons_option item (values_left next between))) × (after ≡ without (pending u) (length came) u)
items_after n stage u item between next others came after (gives_pending value by_equals s p i a k) so_far line all = (
  rw (all, i, so_far) refl,
  rw (all, i) (line ∙ ap (λ (l : UnreadLine). without (pending l) (length others) l) a ∙ after_first u value by_equals (length others) p),
)
items_after n stage u item between next others came after (gives_word w ws s p is plain i a k) so_far line all = (
  rw (all, i, so_far) refl,
  rw (all, i) (line ∙ ap (λ (l : UnreadLine). without (pending l) (length others) l) a
      ∙ ap (λ f. without f (length others) (record u { words = ws })) p ∙ after_word u w ws (length others) p is),
)
items_after n stage u item between next others came after (stops s p other i a k) so_far line all =
    no_more n u item between next others came after i a k so_far line all
items_after n stage u item between next others came after (stopped s i a k) so_far line all =
    no_more n u item between next others came after i a k so_far line all

pub items_in_order : (n : ℕ) (stage : Stage) (u : UnreadLine) (came : List (List ℕ)) (after : UnreadLine) (now : Stage)
    → ValueItems n stage u came after now
    → (came ≡ take n (values_left stage u)) × (after ≡ without (pending u) (length came) u)
items_in_order zero stage u came after now asked = (asked.0, asked.1 ∙ ap (λ l. without (pending u) (length l) u) (sym asked.0))
items_in_order (suc n) stage u came after now asked =
    let item = asked.0 in
    let between = asked.1 in
    let next = asked.2 in
    let others = asked.3 in
    let step = asked.4 in
    let more = items_in_order n next between others after now asked.5 in
    let both = items_after n stage u item between next others came after step more.0 more.1 asked.6 in
    (both.0 ∙ ap (λ l. take (suc n) l) (sym (item_is_first stage u item between next step)), both.1)

-- so n items, asked one by one, are those of the call
pub values_by_items : (n : ℕ) (u after : UnreadLine) (came : List (List ℕ)) (now : Stage) → available u ≢ []
    → ValueItems n going_on u came after now → ValuesStep n u (items came) after
values_by_items n u after came now some asked =
    let both = items_in_order n going_on u came after now asked in
    some_values some (ap items both.0) (both.1 ∙ ap (λ l. without (pending u) (length l) u) both.0)

in_front : (item : Option (List ℕ)) (others more : List (List ℕ)) → cons_option item others ++ more ≡ cons_option item (others ++ more)
in_front None others more = refl
in_front (Some x) others more = refl

-- one more item
pub ValueItems-more : (n : ℕ) (stage : Stage) (u v w : UnreadLine) (came : List (List ℕ)) (then now : Stage) (item : Option (List ℕ))
    → ValueItems n stage u came v then → ValueItem then v item w now → ValueItems (suc n) stage u (came ++ cons_option item []) w now
ValueItems-more zero stage u v w came then now item asked step = (
  item,
  w,
  now,
  [],
  subst (λ (s : Stage). ValueItem s u item w now) asked.2 (subst (λ (l : UnreadLine). ValueItem then l item w now) asked.1 step),
  (refl, refl, refl),
  ap (λ l. l ++ cons_option item []) asked.0,
)
ValueItems-more (suc n) stage u v w came then now item asked step = (
  asked.0,
  asked.1,
  asked.2,
  asked.3 ++ cons_option item [],
  asked.4,
  ValueItems-more n asked.2 asked.1 v w asked.3 then now item asked.5 step,
  ap (λ l. l ++ cons_option item []) asked.6 ∙ in_front asked.0 asked.3 (cons_option item []),
)

values_ended : (k n count : ℕ) (stage : Stage) (u v : UnreadLine) (came : List (List ℕ)) → k + n ≡ count
    → ValueItems n stage u came v at_end → ValueItems count stage u came v at_end
values_ended zero n count stage u v came is asked =
    let same : n ≡ count = omega arith in subst (λ m. ValueItems m stage u came v at_end) same asked
values_ended (suc k) n count stage u v came is asked =
    let same : suc (k + n) ≡ count = omega arith in
    let more = ValueItems-more (k + n) stage u v v came at_end at_end None (values_ended k n (k + n) stage u v came refl asked) (stopped refl refl refl refl) in
    subst (λ m. ValueItems m stage u came v at_end) same (subst (λ l. ValueItems (suc (k + n)) stage u l v at_end) (append-nil came) more)

-- after `None`, asking for more items yields nothing
pub values_no_more : (n count : ℕ) (stage : Stage) (u v w : UnreadLine) (came : List (List ℕ)) (then now : Stage) → n < count
    → ValueItems n stage u came v then → ValueItem then v None w now → ValueItems count stage u came w now
values_no_more n count stage u v w came then now below asked step =
    let ended = none_ends then v w now step in
    let more = count - suc n in
    let all : more + suc n ≡ count = omega arith in
    let one = subst (λ l. ValueItems (suc n) stage u l w now) (append-nil came) (ValueItems-more n stage u v w came then now None asked step) in
    let last = subst (λ (s : Stage). ValueItems (suc n) stage u came w s) ended.1 one in
    subst (λ (s : Stage). ValueItems count stage u came w s) (sym ended.1)
    (values_ended more (suc n) count stage u w came all last)

-- ---- n items of a view of words

words_following : (n : ℕ) (u : UnreadLine) (item : Option (List ℕ)) (between : UnreadLine) (others came : List (List ℕ)) (after : UnreadLine)
    → WordItem u item between → others ≡ take n between.words → after ≡ record between { words = drop n between.words }
    → came ≡ cons_option item others → (came ≡ take (suc n) u.words) × (after ≡ record u { words = drop (suc n) u.words })
words_following n u (Some w) between others came after step so_far line all = (
  all ∙ ap (λ l. w ∷ l) so_far ∙ ap (λ l. take (suc n) l) (sym step.0),
  line ∙ ap (λ (l : UnreadLine). record l { words = drop n between.words }) step.1 ∙ ap (λ (l : List (List ℕ)). record u { words = drop (suc n) l }) (sym step.0),
)
words_following n u None between others came after step so_far line all =
    let words : between.words ≡ [] = ap (λ (l : UnreadLine). l.words) step.1 ∙ step.0 in (
      all ∙ so_far ∙ ap (λ l. take n l) words ∙ take-nil n ∙ ap (λ l. take (suc n) l) (sym step.0),
      line ∙ ap (λ (l : UnreadLine). record l { words = drop n l.words }) step.1
          ∙ ap (λ (l : List (List ℕ)). record u { words = drop n l }) step.0
          ∙ ap (λ (l : List (List ℕ)). record u { words = l }) (drop-nil n)
          ∙ ap (λ (l : List (List ℕ)). record u { words = drop (suc n) l }) (sym step.0),
    )

pub words_in_order : (n : ℕ) (u : UnreadLine) (came : List (List ℕ)) (after : UnreadLine)
    → WordItems n u came after → (came ≡ take n u.words) × (after ≡ record u { words = drop n u.words })
words_in_order zero u came after asked = asked
words_in_order (suc n) u came after asked =
    let more = words_in_order n asked.1 asked.2 after asked.4 in
    words_following n u asked.0 asked.1 asked.2 came after asked.3 more.0 more.1 asked.5

pub raw_by_items : (n : ℕ) (u after : UnreadLine) (came : List (List ℕ)) → pending u ≡ None
    → WordItems n u came after → RawStep (TakesWords n) u (items came) after
raw_by_items n u after came none asked =
    let both = words_in_order n u came after asked in lends_words none (record { reply_is = ap items both.0; after_is = both.1 })

pub try_raw_by_items : (n : ℕ) (u after : UnreadLine) (came : List (List ℕ)) → pending u ≡ None
    → WordItems n u came after → TryRawStep n u (items came) after
try_raw_by_items n u after came none asked =
    let both = words_in_order n u came after asked in try_lends_words none (record { reply_is = ap items both.0; after_is = both.1 })

pub WordItems-more : (n : ℕ) (u v w : UnreadLine) (came : List (List ℕ)) (item : Option (List ℕ))
    → WordItems n u came v → WordItem v item w → WordItems (suc n) u (came ++ cons_option item []) w
WordItems-more zero u v w came item asked step =
    (item, w, [], subst (λ (l : UnreadLine). WordItem l item w) asked.1 step, (refl, refl), ap (λ l. l ++ cons_option item []) asked.0)
WordItems-more (suc n) u v w came item asked step = (
  asked.0,
  asked.1,
  asked.2 ++ cons_option item [],
  asked.3,
  WordItems-more n asked.1 v w asked.2 item asked.4 step,
  ap (λ l. l ++ cons_option item []) asked.5 ∙ in_front asked.0 asked.2 (cons_option item []),
)

words_ended : (k n count : ℕ) (u v : UnreadLine) (came : List (List ℕ)) → k + n ≡ count → v.words ≡ [] → WordItems n u came v → WordItems count u came v
words_ended zero n count u v came is none asked =
    let same : n ≡ count = omega arith in subst (λ m. WordItems m u came v) same asked
words_ended (suc k) n count u v came is none asked =
    let same : suc (k + n) ≡ count = omega arith in
    let more = WordItems-more (k + n) u v v came None (words_ended k n (k + n) u v came refl none asked) (none, refl) in
    subst (λ m. WordItems m u came v) same (subst (λ l. WordItems (suc (k + n)) u l v) (append-nil came) more)

-- after `None`, asking for more items yields nothing
pub words_no_more : (n count : ℕ) (u v w : UnreadLine) (came : List (List ℕ)) → n < count → WordItems n u came v → WordItem v None w → WordItems count u came w
words_no_more n count u v w came below asked step =
    let more = count - suc n in
    let all : more + suc n ≡ count = omega arith in
    let one = subst (λ l. WordItems (suc n) u l w) (append-nil came) (WordItems-more n u v w came None asked step) in
    let none : w.words ≡ [] = ap (λ (l : UnreadLine). l.words) step.1 ∙ step.0 in
    words_ended more (suc n) count u w came all none one

-- ---- the steps of an implementation

-- the next word is plain, and is taken
pub takes_normal : (stage : Stage) (u : UnreadLine) (item : Option (List ℕ)) (after : UnreadLine) → stage ≡ going_on → pending u ≡ None
    → IsNormalIn u.ended u.words → WordItem u item after → ValueItem stage u item after stage
takes_normal stage u None after on p normal step = absurd (subst (IsNormalIn u.ended) step.0 normal)
takes_normal stage u (Some w) after on p normal step =
    gives_word w after.words on p step.0 (subst (IsNormalIn u.ended) step.0 normal) refl step.1 on

-- the next word is not plain, or there is none
pub stops_there : (stage : Stage) (u : UnreadLine) → stage ≡ going_on → pending u ≡ None → (IsNormalIn u.ended u.words → ⊥)
    → ValueItem stage u None u at_end
stops_there stage u on p other = stops on p other refl refl refl
