-- Which words the positionals of a line accept, word by word.
use Rattle.lexopt_options.proofs.Common.{Result, Ok, Err, IfOk, MatchOption, ◌≡◌, ◌==◌, ◌↔◌, ◌≤◌, ◌<◌, ◌+◌, ◌-◌, ℕ, zero, suc, Bool, true, false, List, [], ◌∷◌, length, take, drop, map, get_or}
use Rattle.lexopt_options.proofs.Common.{filter, Option, Some, None, slice_get, cond, refl, sym, ap, subst, ◌∙◌, ◌++◌, ⊎_elim, arith, Contains, list_any, Contains-append_cases, Contains-append_left}
use Rattle.lexopt_options.proofs.Common.{Contains-append_right, option_eq, cases_lt, eq-eqb, eqb-true, false≢true, or_parts, drop_all, drop_more, slice_get_cases, declaration_of, AreOwners}
use Rattle.lexopt_options.proofs.Common.{CanBeTaken, CanOwn, IsAscending, IsWithin, most, positional_words, AreShares, AreTaken, ArePlaces, IsNotTaken, greedy, least, owners, refused_word, takes_at}
use Rattle.lexopt_options.proofs.Common.{greedy_are_shares, places_are, some_places, places_spare, refused_take, slice_get_take, positional_view, words_view, Declared, Positional, Options, Words}
use Rattle.lexopt_options.proofs.Common.{AllocError, IsMistake, AreParsedAs, parsed_words}
use Rattle.lexopt_options_spec.specs.Declaration as spec
use Rattle.lexopt_options_spec.specs.Legal as legal
use Rattle.lexopt_options.proofs.Owners.{owner_within, places_some}
use Rattle.lexopt_declaration.specs.declared.declaration.Words.TheVariants as words
use Rattle.lexopt_options.specs.declared.parsed.Parsed.{Parsed}
use Rattle.lexopt_options.specs.declared.parsed.Parsed.TheVariants as parsed
use Rattle.lexopt_options.specs.declared.mistake.Mistake.{Mistake}
use Rattle.lexopt_options_spec.specs.Stops as stops
use Rattle.lexopt_options.specs.Keys as keys
use Rattle.lexopt_options.specs.Taken as taken
use Rattle.lexopt_options.specs.Taken.{CanSpare, Fits, has_list}

-- ---- by the number of words that are not required

greedy_places : (ps : List spec.Positional) (s : ℕ) → IsWithin (least ps + s) (most ps) → ArePlaces ps (least ps + s) (take (least ps + s) (owners 0 (greedy ps s)))
greedy_places ps s within = record {
  shares = greedy ps s;
  are_shares = subst (λ n. AreShares ps n (greedy ps s)) (omega arith) (greedy_are_shares ps s within);
  placed = refl;
}

accepted_by : (ps : List spec.Positional) (words : List (List ℕ)) (places others : List ℕ) (k : ℕ) → length words ≤ k → take k places ≡ take k others → refused_word ps places words ≡ None → refused_word ps others words ≡ None
accepted_by ps words places others k few same none =
    sym (refused_take ps others words k few) ∙ ap (λ l. refused_word ps l words) (sym same) ∙ refused_take ps places words k few ∙ none

-- if words can be accepted, they fit for some number of words that are not required
pub taken_fits : (ps : List spec.Positional) (words : List (List ℕ)) → CanBeTaken ps words → (s : ℕ) × CanSpare ps (length words) s × Fits ps words None s
taken_fits ps words can =
    let there = places_spare ps (length words) can.count can.places can.longer can.within can.are_places in
    let places = owners 0 (greedy ps there.0) in
    (there.0, record { low = there.1; high = there.2; within = there.3 }, (accepted_by ps words can.places places (length words) (omega arith) there.4 can.none, tt))

pub fits_taken : (ps : List spec.Positional) (words : List (List ℕ)) → (s : ℕ) × CanSpare ps (length words) s × Fits ps words None s → CanBeTaken ps words
fits_taken ps words (s, can, fits) =
    let long : length words ≤ least ps + s = (let low = can.low in omega (arith, low)) in
    record {
      count = least ps + s;
      longer = long;
      within = can.within;
      places = take (least ps + s) (owners 0 (greedy ps s));
      are_places = greedy_places ps s can.within;
      none = refused_take ps (owners 0 (greedy ps s)) words (least ps + s) long ∙ fits.0;
    }

-- the same, and the positional of a word after them
pub owned_fits : (ps : List spec.Positional) (words : List (List ℕ)) (i : ℕ) → CanOwn ps words i → (s : ℕ) × CanSpare ps (length words + 1) s × Fits ps words (Some i) s
owned_fits ps words i can =
    let n = length words in
    let there = places_spare ps (n + 1) can.count can.places (let l = can.longer in omega (arith, l)) can.within can.are_places in
    let places = owners 0 (greedy ps there.0) in (
      there.0,
      record { low = there.1; high = there.2; within = there.3 },
      (
        accepted_by ps words can.places places (n + 1) (omega arith) there.4 can.none,
        sym (slice_get_take (n + 1) places n (omega arith)) ∙ ap (λ l. slice_get l n) (sym there.4) ∙ slice_get_take (n + 1) can.places n (omega arith) ∙ can.here,
      ),
    )

pub fits_owned : (ps : List spec.Positional) (words : List (List ℕ)) (i : ℕ) → (s : ℕ) × CanSpare ps (length words + 1) s × Fits ps words (Some i) s → CanOwn ps words i
fits_owned ps words i (s, can, fits) =
    let long : length words < least ps + s = (let low = can.low in omega (arith, low)) in
    record {
      count = least ps + s;
      longer = long;
      within = can.within;
      places = take (least ps + s) (owners 0 (greedy ps s));
      are_places = greedy_places ps s can.within;
      none = refused_take ps (owners 0 (greedy ps s)) words (least ps + s) (omega (arith, long)) ∙ fits.0;
      here = slice_get_take (least ps + s) (owners 0 (greedy ps s)) (length words) long ∙ fits.1;
    }

pub ruleset fits = (taken_fits, fits_taken, owned_fits, fits_owned)

-- if none fits of the numbers that were tried, none does
pub none_fits : (ps : List spec.Positional) (words : List (List ℕ)) (count high past : ℕ) (next : Option ℕ) → ((s : ℕ) → (s ≤ high) ↔ ((s ≤ count) × IsWithin (least ps + s) (most ps))) → high < past
    → ((s : ℕ) → count - least ps ≤ s → s < past → ¬ Fits ps words next s) → ¬ ((s : ℕ) × CanSpare ps count s × Fits ps words next s)
none_fits ps words count high past next most_are over none (s, can, fits) =
    let within = (most_are s).1 (can.high, can.within) in none s can.low (omega (arith, over, within)) fits

-- none before, and not this one
pub and_not : (P : ℕ → Type 0) (low n : ℕ) → ((s : ℕ) → low ≤ s → s < n → ¬ P s) → ¬ P n → (s : ℕ) → low ≤ s → s < n + 1 → ¬ P s
and_not P low n before not s above below = ⊎_elim (λ less. before s above less) (λ past. let same : n ≡ s = omega (arith, below, past) in λ is. not (subst P (sym same) is)) (cases_lt s n)

-- ---- the words of a line, one after another

refused_none : (ps : List spec.Positional) (places : List ℕ) → refused_word ps places [] ≡ None
refused_none ps [] = refl
refused_none ps (i ∷ places) = refl

no_place : (places : List ℕ) (n : ℕ) → slice_get places n ≡ None → length places ≤ n
no_place places n is = ⊎_elim (λ here. absurd (let e : Some here.0 ≡ None = sym here.2 ∙ is in cc)) (λ past. past.0) (slice_get_cases places n).1

-- the first refused word of all words is that of the words that are left
abbrev pub IsAt : List spec.Positional → List ℕ → List (List ℕ) → List (List ℕ) → ℕ → Type 0
IsAt ps places all rest n = refused_word ps places all ≡ refused_word ps (drop n places) rest

pub at_end : (ps : List spec.Positional) (places : List ℕ) (all rest : List (List ℕ)) (n : ℕ) → IsAt ps places all rest n → rest ≡ [] → refused_word ps places all ≡ None
at_end ps places all rest n at is = at ∙ ap (refused_word ps (drop n places)) is ∙ refused_none ps (drop n places)

-- there is no positional for a word
pub at_no_place : (ps : List spec.Positional) (places : List ℕ) (all rest later : List (List ℕ)) (w : List ℕ) (n : ℕ) → IsAt ps places all rest n → rest ≡ w ∷ later → slice_get places n ≡ None → IsAt ps places all later (n + 1)
at_no_place ps places all rest later w n at is none =
    let past = no_place places n none in
    at ∙ ap (λ l. refused_word ps l rest) (drop_all n places past) ∙ sym (ap (λ l. refused_word ps l later) (drop_all (n + 1) places (omega (arith, past))))

at_place : (ps : List spec.Positional) (places : List ℕ) (all rest later : List (List ℕ)) (w : List ℕ) (n i : ℕ) → IsAt ps places all rest n → rest ≡ w ∷ later → slice_get places n ≡ Some i
    → refused_word ps places all ≡ cond (takes_at ps i w) (refused_word ps (drop (n + 1) places) later) (Some (i, w))
at_place ps places all rest later w n i at is here = at ∙ ap (refused_word ps (drop n places)) is ∙ ap (λ l. refused_word ps l (w ∷ later)) (places_some places n i here)

-- a word is accepted
pub at_next : (ps : List spec.Positional) (places : List ℕ) (all rest later : List (List ℕ)) (w : List ℕ) (n i : ℕ) → IsAt ps places all rest n → rest ≡ w ∷ later → slice_get places n ≡ Some i → takes_at ps i w ≡ true
    → IsAt ps places all later (n + 1)
at_next ps places all rest later w n i at is here takes =
    at_place ps places all rest later w n i at is here ∙ ap (λ (b : Bool). cond b (refused_word ps (drop (n + 1) places) later) (Some (i, w))) takes

-- a word is not accepted
pub at_refused : (ps : List spec.Positional) (places : List ℕ) (all rest later : List (List ℕ)) (w : List ℕ) (n i : ℕ) → IsAt ps places all rest n → rest ≡ w ∷ later → slice_get places n ≡ Some i → takes_at ps i w ≡ false
    → refused_word ps places all ≡ Some (i, w)
at_refused ps places all rest later w n i at is here takes =
    at_place ps places all rest later w n i at is here ∙ ap (λ (b : Bool). cond b (refused_word ps (drop (n + 1) places) later) (Some (i, w))) takes

-- ---- the words that were read by keys

parsed_front : {F V P M S : Type 0} (xs : List (Parsed F V P M S)) (k : ℕ) (x : Parsed F V P M S) → k < length xs → x ≡ get_or xs k x → parsed_words (drop k xs) ≡ parsed_words (x ∷ drop (k + 1) xs)
parsed_front xs k x within is = ap parsed_words (drop_more xs k x within ∙ ap (λ y. y ∷ drop (k + 1) xs) (sym is))

pub parsed_word : {F V P M S : Type 0} (xs : List (Parsed F V P M S)) (k : ℕ) (x : Parsed F V P M S) (key : P) (w : List ℕ) → k < length xs → x ≡ get_or xs k x → x ≡ parsed.Positional key w → parsed_words (drop k xs) ≡ w ∷ parsed_words (drop (k + 1) xs)
parsed_word xs k x key w within is word = parsed_front xs k x within is ∙ ap (λ y. parsed_words (y ∷ drop (k + 1) xs)) word

pub parsed_no_word : {F V P M S : Type 0} (xs : List (Parsed F V P M S)) (k : ℕ) (x : Parsed F V P M S) → k < length xs → x ≡ get_or xs k x → ((key : P) (w : List ℕ) → x ≡ parsed.Positional key w → ⊥)
    → parsed_words (drop k xs) ≡ parsed_words (drop (k + 1) xs)
parsed_no_word {F} {V} {P} {M} {S} xs k x within is other = parsed_front xs k x within is ∙ go x other
  where
    go : (y : Parsed F V P M S) → ((key : P) (w : List ℕ) → y ≡ parsed.Positional key w → ⊥) → parsed_words (y ∷ drop (k + 1) xs) ≡ parsed_words (drop (k + 1) xs)
    go (parsed.Positional key word) other = absurd (other key word refl)
    go y other = refl

-- the words of the positionals that were read
pub words_are : {F V P M S : Type 0} (options : List (Declared F V M S)) (l : List legal.Parsed) (xs : List (Parsed F V P M S)) → AreParsedAs options l xs → positional_words l ≡ parsed_words xs
words_are options [] [] are = refl
words_are options (s ∷ l) (parsed.Flag key ∷ xs) are = ap (λ t. positional_words (t ∷ l)) are.0.1 ∙ words_are options l xs are.1
words_are options (s ∷ l) (parsed.Positional key word ∷ xs) are = ap (λ t. positional_words (t ∷ l)) are.0 ∙ ap (λ ws. word ∷ ws) (words_are options l xs are.1)
words_are options (s ∷ l) (x ∷ xs) are = ap (λ t. positional_words (t ∷ l)) are.0.2 ∙ words_are options l xs are.1
words_are options l xs are = absurd are

-- ---- the words themselves

pub word_next : (words : List (List ℕ)) (k : ℕ) (w : List ℕ) → k < length words → w ≡ get_or words k w → drop k words ≡ w ∷ drop (k + 1) words
word_next words k w within is = drop_more words k w within ∙ ap (λ x. x ∷ drop (k + 1) words) (sym is)

-- ---- where there are no lists

takes_any : {P : Type 0} (ps : List (Positional P)) (i : ℕ) (w : List ℕ) → list_any (λ p. has_list p) ps ≡ false → takes_at (map positional_view ps) i w ≡ true
takes_any [] i w none = refl
takes_any (p ∷ ps) zero w none = go p.words (or_parts (has_list p) (list_any (λ p. has_list p) ps) none).0
  where
    go : (ws : Words) → taken.is_list ws ≡ false → spec.accepts (words_view ws) w ≡ true
    go (words.Listed values) is = absurd (false≢true (sym is))
    go ws is = refl
takes_any (p ∷ ps) (suc i) w none = takes_any ps i w (or_parts (has_list p) (list_any (λ p. has_list p) ps) none).1

pub takes_all : {P : Type 0} (ps : List (Positional P)) (places : List ℕ) (ws : List (List ℕ)) → list_any (λ p. has_list p) ps ≡ false → refused_word (map positional_view ps) places ws ≡ None
takes_all ps (i ∷ places) (w ∷ ws) none =
    ap (λ (b : Bool). cond b (refused_word (map positional_view ps) places ws) (Some (i, w))) (takes_any ps i w none) ∙ takes_all ps places ws none
takes_all ps places ws none = refl

pub all_taken : {P : Type 0} (ps : List (Positional P)) (ws : List (List ℕ)) → list_any (λ p. has_list p) ps ≡ false → IsWithin (length ws) (most (map positional_view ps)) → AreTaken (map positional_view ps) ws
all_taken ps ws none within =
    let some = some_places (map positional_view ps) (length ws) within in record { places = some.0; are_places = some.1; none = takes_all ps some.0 ws none }

-- ---- at the end of a line

so_many : (ps : List spec.Positional) (ws : List (List ℕ)) (places : List ℕ) → ArePlaces ps (length ws) places → refused_word ps places ws ≡ refused_word ps (owners 0 (greedy ps (length ws - least ps))) ws
so_many ps ws places are = ap (λ l. refused_word ps l ws) (places_are ps (length ws) places are) ∙ refused_take ps (owners 0 (greedy ps (length ws - least ps))) ws (length ws) (omega arith)

pub are_taken : (ps : List spec.Positional) (ws : List (List ℕ)) (spare : ℕ) → IsWithin (length ws) (most ps) → spare ≡ length ws - least ps → refused_word ps (owners 0 (greedy ps spare)) ws ≡ None → AreTaken ps ws
are_taken ps ws spare within is none =
    let some = some_places ps (length ws) within in
    record { places = some.0; are_places = some.1; none = so_many ps ws some.0 some.1 ∙ ap (λ s. refused_word ps (owners 0 (greedy ps s)) ws) (sym is) ∙ none }

pub not_taken : (ps : List spec.Positional) (ws : List (List ℕ)) (spare i : ℕ) (w : List ℕ) → IsWithin (length ws) (most ps) → spare ≡ length ws - least ps → refused_word ps (owners 0 (greedy ps spare)) ws ≡ Some (i, w)
    → IsNotTaken ps ws i w
not_taken ps ws spare i w within is refused =
    let some = some_places ps (length ws) within in
    record { places = some.0; are_places = some.1; refused = so_many ps ws some.0 some.1 ∙ ap (λ s. refused_word ps (owners 0 (greedy ps s)) ws) (sym is) ∙ refused }

-- ---- the positionals that a word can belong to

ascending_end : (l : List ℕ) (n : ℕ) → IsAscending l → ((i : ℕ) → Contains l i → i < n) → IsAscending (l ++ n ∷ [])
ascending_end [] n up below = tt
ascending_end (i ∷ []) n up below = (below i (zero, omega arith, refl), tt)
ascending_end (i ∷ j ∷ l) n up below = (up.0, ascending_end (j ∷ l) n up.1 (λ m has. below m (Contains-append_right (i ∷ []) (j ∷ l) m has)))

-- these are the positionals before this index that a word after these words can belong to
pub record OwnersUpTo (ps : List spec.Positional) (words : List (List ℕ)) (below : ℕ) (owners : List ℕ) : Type 0 where
  pub sound : (i : ℕ) → Contains owners i → (i < below) × CanOwn ps words i
  pub complete : (i : ℕ) → i < below → CanOwn ps words i → Contains owners i
  pub in_order : IsAscending owners

pub no_owners : (ps : List spec.Positional) (words : List (List ℕ)) (owners : List ℕ) → owners ≡ [] → OwnersUpTo ps words 0 owners
no_owners ps words owners none = record {
  sound = λ i has. absurd (let h = subst (λ l. Contains l i) none has in let low = h.1 in omega (arith, low));
  complete = λ i low own. absurd (omega (arith, low));
  in_order = subst IsAscending (sym none) tt;
}

pub one_owner : (ps : List spec.Positional) (words : List (List ℕ)) (n : ℕ) (owners more : List ℕ) → OwnersUpTo ps words n owners → CanOwn ps words n → more ≡ owners ++ n ∷ [] → OwnersUpTo ps words (n + 1) more
one_owner ps words n owners more are own is = subst (OwnersUpTo ps words (n + 1)) (sym is) (record {
  sound = λ i has. ⊎_elim
      (λ old. let s = are.sound i old in let low = s.0 in (omega (arith, low), s.1))
      (λ new. let same = one_of n i new in (omega (arith, same), subst (CanOwn ps words) same own))
      (Contains-append_cases owners (n ∷ []) i has);
  complete = λ i low can. ⊎_elim
      (λ below. Contains-append_left owners (n ∷ []) i (are.complete i below can))
      (λ past. let same : n ≡ i = omega (arith, low, past) in Contains-append_right owners (n ∷ []) i (zero, omega arith, same))
      (cases_lt i n);
  in_order = ascending_end owners n are.in_order (λ i has. (are.sound i has).0);
})
  where
    one_of : (n i : ℕ) → Contains (n ∷ []) i → n ≡ i
    one_of n i (zero, low, is) = is
    one_of n i (suc k, low, is) = absurd (omega (arith, low))

pub not_owner : (ps : List spec.Positional) (words : List (List ℕ)) (n : ℕ) (owners : List ℕ) → OwnersUpTo ps words n owners → ¬ CanOwn ps words n → OwnersUpTo ps words (n + 1) owners
not_owner ps words n owners are none = record {
  sound = λ i has. let s = are.sound i has in let low = s.0 in (omega (arith, low), s.1);
  complete = λ i low can. ⊎_elim
      (λ below. are.complete i below can)
      (λ past. absurd (let same : i ≡ n = omega (arith, low, past) in none (subst (CanOwn ps words) same can)))
      (cases_lt i n);
  in_order = are.in_order;
}

-- a positional that a word can belong to is declared
owned_within : (ps : List spec.Positional) (words : List (List ℕ)) (i : ℕ) → CanOwn ps words i → i < length ps
owned_within ps words i can = let s = owned_fits ps words i can in let w = owner_within ps 0 s.0 (length words) i s.2.1 in omega (arith, w)

pub all_owners : (ps : List spec.Positional) (words : List (List ℕ)) (n : ℕ) (owners : List ℕ) → OwnersUpTo ps words n owners → length ps ≤ n → AreOwners ps words owners
all_owners ps words n owners are past = record {
  sound = λ i has. (are.sound i has).1;
  complete = λ i can. are.complete i (let w = owned_within ps words i can in omega (arith, w, past)) can;
  in_order = are.in_order;
}

-- ---- what the code computes

pub same_option : (o : Option ℕ) (i : ℕ) → option_eq ◌==◌ o (Some i) ≡ true → o ≡ Some i
same_option None i is = absurd (false≢true is)
same_option (Some j) i is = ap (λ n. Some n) (eqb-true j i is)

pub same_place : (o : Option ℕ) (i : ℕ) → o ≡ Some i → option_eq ◌==◌ o (Some i) ≡ true
same_place None i is = absurd (let e : None ≡ Some i = is in cc)
same_place (Some j) i is = let e : Some j ≡ Some i = is in let same : j ≡ i = cc in eq-eqb j i same

pub parsed_counted : {F V P M S : Type 0} (xs : List (Parsed F V P M S)) → length (filter (λ x. keys.is_positional x) xs) ≡ length (parsed_words xs)
parsed_counted [] = refl
parsed_counted (parsed.Positional key word ∷ xs) = ap suc (parsed_counted xs)
parsed_counted (x ∷ xs) = parsed_counted xs

-- what is found for the words of a line
pub invalid_line : {F V P M S : Type 0} (o : Options F V P M S) (ps : List (Positional P)) (ws : List (List ℕ)) (spare : ℕ) (r : Result (Option Mistake) AllocError) → map positional_view ps ≡ (declaration_of o).positionals
    → spare ≡ length ws - least (map positional_view ps)
    → IfOk r (λ found. MatchOption found (refused_word (map positional_view ps) (owners 0 (greedy (map positional_view ps) spare)) ws ≡ None)
    (λ mistake. (i : ℕ) × (w : List ℕ) × (refused_word (map positional_view ps) (owners 0 (greedy (map positional_view ps) spare)) ws ≡ Some (i, w)) × taken.IsInvalid ps i w mistake))
    → IfOk r (λ found. IsWithin (length ws) (most (declaration_of o).positionals) → MatchOption found (AreTaken (declaration_of o).positionals ws)
    (λ mistake. (i : ℕ) × (w : List ℕ) × IsNotTaken (declaration_of o).positionals ws i w × IsMistake (declaration_of o) mistake (stops.invalid_argument i w)))
invalid_line o ps ws spare (Ok None) same so found = λ within. subst (λ qs. AreTaken qs ws) same (are_taken _ ws spare (subst (λ qs. IsWithin (length ws) (most qs)) (sym same) within) so found)
invalid_line o ps ws spare (Ok (Some m)) same so (i, w, refused, invalid) = λ within.
    (i, w, subst (λ qs. IsNotTaken qs ws i w) same (not_taken _ ws spare i w (subst (λ qs. IsWithin (length ws) (most qs)) (sym same) within) so refused), invalid (declaration_of o) (sym same))
invalid_line o ps ws spare (Err e) same so found = tt
