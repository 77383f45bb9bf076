-- Short lines where positionals have lists.
use Rattle.std.proofs.Common.{◌≡◌, ◌≤◌, ◌+◌, ℕ, zero, suc, true, List, [], ◌∷◌, length, max, take, Some, None, codes, refl, sym, subst, inl, lit≤, lit<, arith}
use Rattle.std.specs.List.{AllZip}
use Rattle.lexopt_spec.specs.UnreadLine.{UnreadLine}
use Rattle.lexopt_spec.specs.Steps as steps
use Rattle.lexopt_spec.specs.Steps.{Next, next_word, no_word}
use Rattle.lexopt_spec.specs.Runs.{next}
use Rattle.lexopt_line_spec.specs.Table as spec
use Rattle.lexopt_line_spec.specs.Readings.{first_positional, start}
use Rattle.lexopt_line_spec.specs.Spelling.{no_words, separator}
use Rattle.lexopt_line_spec.proofs.RunAccounts.{step_line}
use Rattle.lexopt_line_spec.proofs.Worked.{plain_line, reads_plain}
use Rattle.lexopt_options_spec.specs.Declaration.{Declaration, Positional}
use Rattle.lexopt_options_spec.specs.Legal.{IsWithin, Means, MeansFront, most, positional, positional_words}
use Rattle.lexopt_options_spec.specs.Places.{ArePlaces, AreShares, AreTaken, CanTake, IsNotTaken, least, owners, refused_word}
use Rattle.lexopt_options_spec.specs.Completion.{CanOccur, IsOpen}
use Rattle.lexopt_options_spec.specs.Stops.{Mistake, ReadsUpTo, Stops, StopsAt, invalid_argument, missing_argument, not_taken, too_few}
use Rattle.lexopt_options_spec.proofs.Fronts.{nothing_read, one_front}
use Rattle.lexopt_options_spec.proofs.Shares.{greedy_are_shares}
use Rattle.lexopt_options_spec.specs.Places.{greedy}
use Rattle.lexopt_options_spec.proofs.Occurs.{occurs_taken}
use Rattle.lexopt_options_spec.proofs.Taken.{AreFilled, some_none}
use Rattle.lexopt_options_spec.specs.Completion.{CanBeTaken}
use Rattle.lexopt_laws.specs.Sample.{demanding_sample, files, form_in_list, mode_in_list, new, sample, sources}
use Rattle.lexopt_laws.proofs.SomeAnswer.{one_more}
use Rattle.lexopt_laws.proofs.WorkedOpen.{open_of}
use Rattle.lexopt_laws.proofs.WorkedMeans.{front_of, whole_with}
use Rattle.lexopt_laws.proofs.WorkedStops.{after_positional}

-- ---- words and their positionals

-- the places of words, where this many are not required
places_with : (ps : List Positional) (count spare : ℕ) → IsWithin (least ps + spare) (most ps) → max count (least ps) ≡ least ps + spare → ArePlaces ps count (take count (owners 0 (greedy ps spare)))
places_with ps count spare within is =
    record { shares = greedy ps spare; are_shares = subst (λ n. AreShares ps n (greedy ps spare)) (sym is) (greedy_are_shares ps spare within); placed = refl }

pub taken_with : {ps : List Positional} {words : List (List ℕ)} (spare : ℕ) → IsWithin (least ps + spare) (most ps) → max (length words) (least ps) ≡ least ps + spare
    → refused_word ps (take (length words) (owners 0 (greedy ps spare))) words ≡ None → AreTaken ps words
taken_with {ps = ps} {words = words} spare within is none =
    record { places = take (length words) (owners 0 (greedy ps spare)); are_places = places_with ps (length words) spare within is; none = none }

pub refused_with : {ps : List Positional} {words : List (List ℕ)} {index : ℕ} {word : List ℕ} (spare : ℕ) → IsWithin (least ps + spare) (most ps) → max (length words) (least ps) ≡ least ps + spare
    → refused_word ps (take (length words) (owners 0 (greedy ps spare))) words ≡ Some (index, word) → IsNotTaken ps words index word
refused_with {ps = ps} {words = words} spare within is refused =
    record { places = take (length words) (owners 0 (greedy ps spare)); are_places = places_with ps (length words) spare within is; refused = refused }

-- ---- lines of two words

-- after two positionals
pub after_two : {d : Declaration} {words : List (List ℕ)} {m : Mistake} (one two : List ℕ) (v w : UnreadLine) → IsWithin 1 (most d.positionals) → IsWithin 2 (most d.positionals)
    → Next (start d.short_equals words) (steps.positional one) v → Next v (steps.positional two) w → Stops d (positional one ∷ positional two ∷ []) w m
    → StopsAt d words (positional one ∷ positional two ∷ []) m
after_two {d = d} {words = words} one two v w within room step again stops =
    let u = start d.short_equals words in
    let line = step_line next u (steps.positional one) v tt step in
    let first : ReadsUpTo d u (positional one ∷ []) v = one_more d u u v [] (spec.positional one) (positional one) (nothing_read d u tt) (first_positional one v step) line refl within in
    record {
      there = w;
      read = one_more d u v w (positional one ∷ []) (spec.positional two) (positional two) first (first_positional two w again) (step_line next v (steps.positional two) w line again) refl room;
      stops = stops;
      accepted = refl;
    }

-- `fast a`
pub means_mode : Means (sample (mode_in_list ∷ files ∷ []) true) (codes "fast" ∷ codes "a" ∷ []) (positional (codes "fast") ∷ positional (codes "a") ∷ [])
means_mode = whole_with (taken_with 1 tt refl refl) (spec.positional (codes "fast") ∷ spec.positional (codes "a") ∷ [])
    (plain_line (codes "fast") refl (plain_line (codes "a") refl no_words)) refl tt (lit≤ tt) refl refl

-- `fats a`
pub refuses_mode : StopsAt (sample (mode_in_list ∷ files ∷ []) true) (codes "fats" ∷ codes "a" ∷ []) (positional (codes "fats") ∷ positional (codes "a") ∷ []) (invalid_argument 0 (codes "fats"))
refuses_mode =
    after_two (codes "fats") (codes "a") _ _ tt tt (inl (reads_plain _ (codes "fats") (codes "a" ∷ []) refl refl refl refl)) (inl (reads_plain _ (codes "a") [] refl refl refl refl))
    (not_taken 0 (codes "fats") _ (inl (next_word refl refl (no_word refl refl refl))) (lit≤ tt) (refused_with 1 tt refl refl))

-- where an option is missing too
pub refuses_mode_first : StopsAt (demanding_sample (mode_in_list ∷ files ∷ []) true) (codes "fats" ∷ codes "a" ∷ []) (positional (codes "fats") ∷ positional (codes "a") ∷ [])
    (invalid_argument 0 (codes "fats"))
refuses_mode_first =
    after_two (codes "fats") (codes "a") _ _ tt tt (inl (reads_plain _ (codes "fats") (codes "a" ∷ []) refl refl refl refl)) (inl (reads_plain _ (codes "a") [] refl refl refl refl))
    (not_taken 0 (codes "fats") _ (inl (next_word refl refl (no_word refl refl refl))) (lit≤ tt) (refused_with 1 tt refl refl))

-- `tar a`
pub refuses_form : StopsAt (sample (sources ∷ form_in_list ∷ []) true) (codes "tar" ∷ codes "a" ∷ []) (positional (codes "tar") ∷ positional (codes "a") ∷ []) (invalid_argument 1 (codes "a"))
refuses_form =
    after_two (codes "tar") (codes "a") _ _ tt tt (inl (reads_plain _ (codes "tar") (codes "a" ∷ []) refl refl refl refl)) (inl (reads_plain _ (codes "a") [] refl refl refl refl))
    (not_taken 1 (codes "a") _ (inl (next_word refl refl (no_word refl refl refl))) (lit≤ tt) (refused_with 0 tt refl refl))

-- `tar fast`
pub refuses_both : StopsAt (sample (mode_in_list ∷ form_in_list ∷ []) true) (codes "tar" ∷ codes "fast" ∷ []) (positional (codes "tar") ∷ positional (codes "fast") ∷ []) (invalid_argument 0 (codes "tar"))
refuses_both =
    after_two (codes "tar") (codes "fast") _ _ (lit≤ tt) (lit≤ tt) (inl (reads_plain _ (codes "tar") (codes "fast" ∷ []) refl refl refl refl))
    (inl (reads_plain _ (codes "fast") [] refl refl refl refl))
    (not_taken 0 (codes "tar") _ (inl (next_word refl refl (no_word refl refl refl))) (lit≤ tt) (refused_with 0 (lit≤ tt) refl refl))

-- `fats`, where a positional is missing
pub lacks_new : StopsAt (sample (mode_in_list ∷ new ∷ []) true) (codes "fats" ∷ []) (positional (codes "fats") ∷ []) (missing_argument 1)
lacks_new = after_positional (codes "fats") _ (lit≤ tt) (inl (reads_plain _ (codes "fats") [] refl refl refl refl))
    (too_few _ (inl (next_word refl refl (no_word refl refl refl))) (lit< tt))

-- `fats`
pub front_fats : MeansFront (sample (mode_in_list ∷ files ∷ []) true) (codes "fats" ∷ []) (positional (codes "fats") ∷ [])
front_fats = front_of (spec.positional (codes "fats") ∷ []) (plain_line (codes "fats") refl no_words) refl tt

-- ---- what can come

-- `fast`
pub open_after_mode : IsOpen (sample (mode_in_list ∷ files ∷ []) true) (codes "fast" ∷ []) (positional (codes "fast") ∷ [])
open_after_mode = open_of (spec.positional (codes "fast") ∷ []) (plain_line (codes "fast") refl no_words) (plain_line (codes "fast") refl (separator [])) refl tt

pub mode_filled : AreFilled (mode_in_list ∷ files ∷ []) (codes "fast" ∷ [])
mode_filled = record { more = []; enough = lit≤ tt; within = tt; taken = taken_with 0 tt refl refl }

-- `a`
pub open_after_source : IsOpen (sample (sources ∷ form_in_list ∷ []) true) (codes "a" ∷ []) (positional (codes "a") ∷ [])
open_after_source = open_of (spec.positional (codes "a") ∷ []) (plain_line (codes "a") refl no_words) (plain_line (codes "a") refl (separator [])) refl tt

pub source_filled : AreFilled (sources ∷ form_in_list ∷ []) (codes "a" ∷ [])
source_filled = record { more = codes "tar" ∷ []; enough = lit≤ tt; within = tt; taken = taken_with 0 tt refl refl }

-- `fats`
pub not_first : (count : ℕ) (shares : List ℕ) → 1 ≤ count → AllZip (λ p n. CanTake p.count n) (mode_in_list ∷ files ∷ []) shares
    → refused_word (mode_in_list ∷ files ∷ []) (take count (owners 0 shares)) (codes "fats" ∷ []) ≡ None → ⊥
not_first zero shares longer each none = absurd (omega (arith, longer))
not_first (suc n) [] longer each none = absurd each
not_first (suc n) (k ∷ shares) longer each none =
    let one : k ≡ 1 = each.0 in
    some_none (0, codes "fats") (subst (λ m. refused_word (mode_in_list ∷ files ∷ []) (take (suc n) (owners 0 (m ∷ shares))) (codes "fats" ∷ []) ≡ None) one none)

pub nothing_after_fats : (s : List ℕ) → CanOccur (sample (mode_in_list ∷ files ∷ []) true) (codes "fats" ∷ []) s → ⊥
nothing_after_fats s possible =
    let same = one_front _ _ possible.before (positional (codes "fats") ∷ []) possible.words_say front_fats in
    let can : CanBeTaken (mode_in_list ∷ files ∷ []) (codes "fats" ∷ []) = subst (λ l. CanBeTaken (mode_in_list ∷ files ∷ []) (positional_words l)) same (occurs_taken _ _ s possible) in
    not_first can.count can.are_places.shares can.longer can.are_places.are_shares.each
    (subst (λ places. refused_word (mode_in_list ∷ files ∷ []) places (codes "fats" ∷ []) ≡ None) can.are_places.placed can.none)
