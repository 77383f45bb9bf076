-- Which words are accepted by the positionals that they belong to.
use Rattle.lexopt_options_spec.proofs.Common.{◌≡◌, ◌≤◌, ◌<◌, ◌+◌, ◌-◌, ◌⊎◌, ℕ, zero, suc, Bool, true, false, List, [], ◌∷◌, ◌++◌, map, length, max, min, drop, length-drop, take, take-take, take_all}
use Rattle.lexopt_options_spec.proofs.Common.{replicate, slice_get, Option, Some, None, is_none, cond, unwrap_or, refl, sym, ap, subst, ◌∙◌, arith, inl, inr, ⊎_elim, length-append, and_parts}
use Rattle.lexopt_options_spec.proofs.Common.{cases_lt, false≢true, length-map, length-replicate, take-append-le, take-replicate, sum_by, option_map, Count, Positional, once, at_most_once, any_number}
use Rattle.lexopt_options_spec.proofs.Common.{at_least_once, are_listable, list_fault, CanBeTaken, IsWithin, Parsed, positional, most, positional_count, positional_words, AreShares, AreTaken}
use Rattle.lexopt_options_spec.proofs.Common.{ArePlaces, IsNotTaken, extra, greedy, least, needs, owners, refused_word, takes_at, sum_by-cons}
use Rattle.lexopt_options_spec.proofs.Listed.{value_fits, value_for}
use Rattle.lexopt_options_spec.proofs.Shares.{least_within, one_places, places_are, some_places}
use Rattle.lexopt_options_spec.proofs.FaultLemmas.{no_fault}

-- ---- the words of the positionals that are read

pub words_count : (l : List Parsed) → length (positional_words l) ≡ positional_count l
words_count [] = refl
words_count (positional w ∷ l) = let rest = words_count l in omega (arith, rest)
words_count (s ∷ l) = let rest = words_count l in omega (arith, rest)

pub words_append : (l m : List Parsed) → positional_words (l ++ m) ≡ positional_words l ++ positional_words m
words_append [] m = refl
words_append (positional w ∷ l) m = ap (λ ws. w ∷ ws) (words_append l m)
words_append (s ∷ l) m = words_append l m

pub words_same : (words : List (List ℕ)) → positional_words (map positional words) ≡ words
words_same [] = refl
words_same (w ∷ ws) = ap (λ l. w ∷ l) (words_same ws)

-- ---- all words are accepted, or one is the first that is not

pub some_pair : (p q : ℕ × List ℕ) → Some p ≡ Some q → (p.0 ≡ q.0) × (p.1 ≡ q.1)
some_pair p q same = let e : p ≡ q = ap (λ o. unwrap_or o p) same in (ap (λ (r : ℕ × List ℕ). r.0) e, ap (λ (r : ℕ × List ℕ). r.1) e)

pub some_none : (p : ℕ × List ℕ) → Some p ≡ None → ⊥
some_none p same = let e : Some p ≡ None = same in cc

pub one_refused : (ps : List Positional) (words : List (List ℕ)) (i j : ℕ) (w v : List ℕ) → IsNotTaken ps words i w → IsNotTaken ps words j v → (i ≡ j) × (w ≡ v)
one_refused ps words i j w v a b =
    let same = one_places ps (length words) a.places b.places a.are_places b.are_places in
    some_pair (i, w) (j, v) (sym a.refused ∙ ap (λ places. refused_word ps places words) same ∙ b.refused)

pub not_both : (ps : List Positional) (words : List (List ℕ)) (i : ℕ) (w : List ℕ) → IsNotTaken ps words i w → AreTaken ps words → ⊥
not_both ps words i w a b =
    let same = one_places ps (length words) a.places b.places a.are_places b.are_places in
    some_none (i, w) (sym a.refused ∙ ap (λ places. refused_word ps places words) same ∙ b.none)

pub taken_or_not : (ps : List Positional) (words : List (List ℕ)) → IsWithin (length words) (most ps) → AreTaken ps words ⊎ ((i : ℕ) × (w : List ℕ) × IsNotTaken ps words i w)
taken_or_not ps words within = let some = some_places ps (length words) within in go some.0 some.1 (refused_word ps some.0 words) refl
  where
    go : (places : List ℕ) → ArePlaces ps (length words) places → (found : Option (ℕ × List ℕ)) → refused_word ps places words ≡ found → AreTaken ps words ⊎ ((i : ℕ) × (w : List ℕ) × IsNotTaken ps words i w)
    go places are None is = inl (record { places = places; are_places = are; none = is })
    go places are (Some found) is = inr (found.0, found.1, record { places = places; are_places = are; refused = is })

-- ---- with more words after them

pub none_first : (b : Bool) (o : Option (ℕ × List ℕ)) (p : ℕ × List ℕ) → cond b o (Some p) ≡ None → (b ≡ true) × (o ≡ None)
none_first true o p is = (refl, is)
none_first false o p is = absurd (some_none p is)

taken_first : (b : Bool) (o : Option (ℕ × List ℕ)) (p : ℕ × List ℕ) → b ≡ true → o ≡ None → cond b o (Some p) ≡ None
taken_first true o p is none = none
taken_first false o p is none = absurd (false≢true is)

-- the words before others are accepted too
refused_front : (ps : List Positional) (places : List ℕ) (words more : List (List ℕ)) → refused_word ps places (words ++ more) ≡ None → refused_word ps places words ≡ None
refused_front ps (i ∷ places) (w ∷ words) more is =
    let parts = none_first (takes_at ps i w) (refused_word ps places (words ++ more)) (i, w) is in
    taken_first (takes_at ps i w) (refused_word ps places words) (i, w) parts.0 (refused_front ps places words more parts.1)
refused_front ps places words more is = refl

pub can_be_taken : (ps : List Positional) (words more : List (List ℕ)) → IsWithin (length (words ++ more)) (most ps) → AreTaken ps (words ++ more) → CanBeTaken ps words
can_be_taken ps words more within taken = record {
  count = length (words ++ more);
  longer = (let e = length-append words more in omega (arith, e));
  within = within;
  places = taken.places;
  are_places = taken.are_places;
  none = refused_front ps taken.places words more taken.none;
}

-- the places of later words do not matter
pub refused_take : (ps : List Positional) (places : List ℕ) (words : List (List ℕ)) (n : ℕ) → length words ≤ n → refused_word ps (take n places) words ≡ refused_word ps places words
refused_take ps [] words zero small = refl
refused_take ps (i ∷ places) [] zero small = refl
refused_take ps (i ∷ places) (w ∷ words) zero small = absurd (omega (arith, small))
refused_take ps (i ∷ places) (w ∷ words) (suc n) small =
    ap (λ o. cond (takes_at ps i w) o (Some (i, w))) (refused_take ps places words n (omega (arith, small)))
refused_take ps places words n small = refl

-- ---- words for the remaining places

-- a word that the positional at this index accepts
sample : List Positional → ℕ → List ℕ
sample ps i = unwrap_or (option_map (λ p. value_for p.words) (slice_get ps i)) []

sample_fits : (ps : List Positional) (i : ℕ) → are_listable ps ≡ true → takes_at ps i (sample ps i) ≡ true
unfolding sample
sample_fits [] i good = refl
sample_fits (p ∷ ps) zero good =
    let parts = and_parts (is_none (list_fault p.words)) (are_listable ps) good in value_fits p.words (no_fault (list_fault p.words) parts.0)
sample_fits (p ∷ ps) (suc i) good =
    let parts = and_parts (is_none (list_fault p.words)) (are_listable ps) good in sample_fits ps i parts.1

samples_fit : (ps : List Positional) (places : List ℕ) → are_listable ps ≡ true → refused_word ps places (map (sample ps) places) ≡ None
samples_fit ps [] good = refl
samples_fit ps (i ∷ places) good = taken_first (takes_at ps i (sample ps i)) (refused_word ps places (map (sample ps) places)) (i, sample ps i) (sample_fits ps i good) (samples_fit ps places good)

-- with such a word for each place that has no word
fill_fits : (ps : List Positional) (places : List ℕ) (words : List (List ℕ)) → are_listable ps ≡ true → refused_word ps places words ≡ None
    → refused_word ps places (words ++ map (sample ps) (drop (length words) places)) ≡ None
fill_fits ps [] words good none = refl
fill_fits ps (i ∷ places) [] good none = samples_fit ps (i ∷ places) good
fill_fits ps (i ∷ places) (w ∷ words) good none =
    let parts = none_first (takes_at ps i w) (refused_word ps places words) (i, w) none in
    taken_first (takes_at ps i w) _ (i, w) parts.0 (fill_fits ps places words good parts.1)

pub owners_length : (i : ℕ) (shares : List ℕ) → length (owners i shares) ≡ sum_by (λ n. n) shares
owners_length i [] = refl
owners_length i (n ∷ shares) =
    let first = sum_by-cons (λ n. n) n shares in
    let one = length-replicate n i in
    let rest = owners_length (suc i) shares in
    let all = length-append (replicate n i) (owners (suc i) shares) in
    omega (arith, first, one, rest, all)

-- the words that make a line legal
pub record AreFilled (ps : List Positional) (words : List (List ℕ)) : Type 0 where
  pub more : List (List ℕ)
  pub enough : least ps ≤ length (words ++ more)
  pub within : IsWithin (length (words ++ more)) (most ps)
  pub taken : AreTaken ps (words ++ more)

pub filled : (ps : List Positional) (words : List (List ℕ)) → are_listable ps ≡ true → CanBeTaken ps words → AreFilled ps words
filled ps words good can =
    let n = max can.count (least ps) in
    let all = owners 0 can.are_places.shares in
    let long : length all ≡ n = owners_length 0 can.are_places.shares ∙ can.are_places.are_shares.all in
    let fits : length words ≤ length all = (let l = can.longer in omega (arith, long, l)) in
    let more = map (sample ps) (drop (length words) all) in
    let counted : length (words ++ more) ≡ n = (let a = length-append words more in let b = length-map (drop (length words) all) (sample ps) in let c = length-drop (length words) all in omega (arith, a, b, c, long, fits)) in
    let none : refused_word ps all words ≡ None = sym (refused_take ps all words can.count can.longer) ∙ ap (λ places. refused_word ps places words) (sym can.are_places.placed) ∙ can.none in
    record {
      more = more;
      enough = omega (arith, counted);
      within = subst (λ m. IsWithin m (most ps)) (sym counted) (least_within ps can.count can.within);
      taken = record {
        places = all;
        are_places = record {
          shares = can.are_places.shares;
          are_shares = subst (λ m. AreShares ps m can.are_places.shares) (omega (arith, counted)) can.are_places.are_shares;
          placed = sym (take_all (length (words ++ more)) all (omega (arith, counted, long)));
        };
        none = fill_fits ps all words good none;
      };
    }

-- ---- how many more words are enough

take_replicate : (k n i : ℕ) (rest : List ℕ) → k ≤ n → take k (replicate n i ++ rest) ≡ replicate k i
take_replicate k n i rest small = take-append-le k (replicate n i) rest (rw length-replicate small) ∙ take-replicate k n i small

one_more : (k s i : ℕ) (rest : List ℕ) → suc k ≤ s → take (suc k) (replicate (0 + min 1 s) i ++ rest) ≡ i ∷ take k rest
one_more k s i rest small = let one : 0 + min 1 s ≡ 1 = omega (arith, small) in ap (λ n. take (suc k) (replicate n i ++ rest)) one

-- the first k words belong to the same positionals whenever at least k words are not required
same_owners : (ps : List Positional) (i k s t : ℕ) → k ≤ s → k ≤ t → take k (owners i (greedy ps s)) ≡ take k (owners i (greedy ps t))
same_owners [] i k s t a b = refl
same_owners (p ∷ ps) i zero s t a b = refl
same_owners (p ∷ ps) i (suc k) s t a b = go p.count (λ r q. same_owners ps (suc i) k r q)
  where
    go : (c : Count) → ((r q : ℕ) → k ≤ r → k ≤ q → take k (owners (suc i) (greedy ps r)) ≡ take k (owners (suc i) (greedy ps q))) → take (suc k) (owners i ((needs c + extra c s) ∷ greedy ps (s - extra c s))) ≡ take (suc k) (owners i ((needs c + extra c t) ∷ greedy ps (t - extra c t)))
    go once later = ap (λ l. i ∷ l) (later (s - 0) (t - 0) (omega (arith, a)) (omega (arith, b)))
    go at_most_once later =
        one_more k s i (owners (suc i) (greedy ps (s - min 1 s))) a
        ∙ ap (λ l. i ∷ l) (later (s - min 1 s) (t - min 1 t) (omega (arith, a)) (omega (arith, b)))
        ∙ sym (one_more k t i (owners (suc i) (greedy ps (t - min 1 t))) b)
    go any_number later = take_replicate (suc k) (0 + s) i _ (omega (arith, a)) ∙ sym (take_replicate (suc k) (0 + t) i _ (omega (arith, b)))
    go at_least_once later = take_replicate (suc k) (1 + s) i _ (omega (arith, a)) ∙ sym (take_replicate (suc k) (1 + t) i _ (omega (arith, b)))

pub less_within : (limit : Option ℕ) (n m : ℕ) → n ≤ m → IsWithin m limit → IsWithin n limit
less_within None n m small within = tt
less_within (Some limit) n m small within = omega (arith, small, within)

pub zero_within : (limit : Option ℕ) → IsWithin 0 limit
zero_within None = tt
zero_within (Some n) = omega arith

pub same_within : (n k : ℕ) (limit : Option ℕ) → k ≡ 0 → IsWithin n limit → IsWithin (n + k) limit
same_within n k None none within = tt
same_within n k (Some m) none within = omega arith

-- The first k words belong to the same positionals if s words are not required, for an s that is at
-- most k.
pub places_spare : (ps : List Positional) (k count : ℕ) (places : List ℕ) → k ≤ count → IsWithin count (most ps) → ArePlaces ps count places
    → (s : ℕ) × (k - least ps ≤ s) × (s ≤ k) × IsWithin (least ps + s) (most ps) × (take k places ≡ take k (owners 0 (greedy ps s)))
places_spare ps k count places longer within are = (
  min k spare,
  omega (arith, longer),
  omega arith,
  less_within (most ps) (least ps + min k spare) (max count (least ps)) (omega (arith, longer)) (least_within ps count within),
  ap (take k) (places_are ps count places are) ∙ take-take k count (owners 0 (greedy ps spare)) longer ∙ same,
)
  where
    spare : ℕ
    spare = count - least ps

    same : take k (owners 0 (greedy ps spare)) ≡ take k (owners 0 (greedy ps (min k spare)))
    same = ⊎_elim
        (λ below. ap (λ s. take k (owners 0 (greedy ps s))) (omega (arith, below)))
        (λ past. same_owners ps 0 k spare (min k spare) past (omega (arith, past)))
        (cases_lt spare k)

pub slice_get_take : (k : ℕ) (l : List ℕ) (n : ℕ) → n < k → slice_get (take k l) n ≡ slice_get l n
slice_get_take zero l n small = absurd (omega (arith, small))
slice_get_take (suc k) (x ∷ l) (suc n) small = slice_get_take k l n (omega (arith, small))
slice_get_take k l n small = refl
