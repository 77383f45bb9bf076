-- Which positional each word of a line belongs to, word by word.
use Rattle.lexopt_options.proofs.Common.{◌≡◌, ◌≤◌, ◌<◌, ◌+◌, ◌-◌, ℕ, zero, suc, List, [], ◌∷◌, ◌++◌, length, drop, map, get_or, replicate, Some, None, slice_get, refl, sym, ap, subst, ◌∙◌, arith}
use Rattle.lexopt_options.proofs.Common.{AllZip, option_map, drop_all, drop_more, get_or-map, length-map, length-take-le, get_or_from_slice_get, slice_get-get_or, slice_get_within, IsWithin, most}
use Rattle.lexopt_options.proofs.Common.{ArePlaces, extra, greedy, least, needs, owners, places_are, some_places, owners_length, slice_get_take, positional_view, Positional, AllFirst, HasKey}
use Rattle.lexopt_options_spec.specs.Declaration as spec

-- ---- the word at an index

in_first : (k m left : ℕ) (rest : List ℕ) → left < m → slice_get (replicate m k ++ rest) left ≡ Some k
in_first k zero left rest inside = absurd (omega (arith, inside))
in_first k (suc m) zero rest inside = refl
in_first k (suc m) (suc left) rest inside = in_first k m left rest (omega (arith, inside))

past_first : (k m left : ℕ) (rest : List ℕ) → m ≤ left → slice_get (replicate m k ++ rest) left ≡ slice_get rest (left - m)
past_first k zero left rest past = ap (slice_get rest) (omega arith)
past_first k (suc m) zero rest past = absurd (omega (arith, past))
past_first k (suc m) (suc left) rest past = past_first k m left rest (omega (arith, past)) ∙ ap (slice_get rest) (omega arith)

-- the word at this index has the positional of the word at index `left`, counted among the words of
-- the positionals from index k on
abbrev pub IsLeft : List spec.Positional → ℕ → ℕ → ℕ → ℕ → ℕ → Type 0
IsLeft ps spare word k left spare_now = slice_get (owners 0 (greedy ps spare)) word ≡ slice_get (owners k (greedy (drop k ps) spare_now)) left

next : (ps : List spec.Positional) (spare_now k : ℕ) (p : spec.Positional) → k < length ps → p ≡ get_or ps k p
    → greedy (drop k ps) spare_now ≡ (needs p.count + extra p.count spare_now) ∷ greedy (drop (k + 1) ps) (spare_now - extra p.count spare_now)
next ps spare_now k p within is = ap (λ l. greedy l spare_now) (drop_more ps k p within ∙ ap (λ x. x ∷ drop (k + 1) ps) (sym is))

-- it belongs to the next positional
pub found_here : (ps : List spec.Positional) (spare word k left spare_now : ℕ) (p : spec.Positional) → IsLeft ps spare word k left spare_now → k < length ps → p ≡ get_or ps k p
    → left < needs p.count + extra p.count spare_now → slice_get (owners 0 (greedy ps spare)) word ≡ Some k
found_here ps spare word k left spare_now p before within is inside =
    before ∙ ap (λ l. slice_get (owners k l) left) (next ps spare_now k p within is)
    ∙ in_first k (needs p.count + extra p.count spare_now) left (owners (suc k) (greedy (drop (k + 1) ps) (spare_now - extra p.count spare_now))) inside

-- it belongs to a later positional
pub found_later : (ps : List spec.Positional) (spare word k left spare_now left_next spare_next : ℕ) (p : spec.Positional) → IsLeft ps spare word k left spare_now → k < length ps → p ≡ get_or ps k p
    → needs p.count + extra p.count spare_now ≤ left → left_next ≡ left - (needs p.count + extra p.count spare_now) → spare_next ≡ spare_now - extra p.count spare_now
    → IsLeft ps spare word (k + 1) left_next spare_next
found_later ps spare word k left spare_now left_next spare_next p before within is past left_is spare_is =
    let m = needs p.count + extra p.count spare_now in
    let rest = greedy (drop (k + 1) ps) (spare_now - extra p.count spare_now) in
    let step = next ps spare_now k p within is in
    let rest_is : rest ≡ greedy (drop (k + 1) ps) spare_next = ap (greedy (drop (k + 1) ps)) (sym spare_is) in
    before ∙ ap (λ l. slice_get (owners k l) left) step ∙ past_first k m left (owners (suc k) rest) past
    ∙ ap (λ n. slice_get (owners (suc k) rest) n) (sym left_is) ∙ ap (λ l. slice_get (owners (suc k) l) left_next) rest_is
    ∙ ap (λ n. slice_get (owners n (greedy (drop (k + 1) ps) spare_next)) left_next) (omega arith)

-- there is no such word
pub nothing_left : (ps : List spec.Positional) (spare word left spare_now k : ℕ) → length ps ≤ k → IsLeft ps spare word k left spare_now → slice_get (owners 0 (greedy ps spare)) word ≡ None
nothing_left ps spare word left spare_now k past before = before ∙ ap (λ l. slice_get (owners k (greedy l spare_now)) left) (drop_all k ps past)

-- ---- places

pub places_length : (ps : List spec.Positional) (count : ℕ) (places : List ℕ) → ArePlaces ps count places → length places ≡ count
places_length ps count places are =
    ap length are.placed ∙ length-take-le count (owners 0 are.shares) (omega (arith, owners_length 0 are.shares, are.are_shares.all))

pub places_some : (places : List ℕ) (n i : ℕ) → slice_get places n ≡ Some i → drop n places ≡ i ∷ drop (n + 1) places
places_some places n i is =
    let within = slice_get_within places n i is in
    drop_more places n 0 within ∙ ap (λ x. x ∷ drop (n + 1) places) (get_or_from_slice_get places n i 0 is)

-- the positional of each word is the one that is found
place_is : (ps : List spec.Positional) (count : ℕ) (places : List ℕ) (spare word : ℕ) → ArePlaces ps count places → spare ≡ count - least ps → word < count
    → slice_get places word ≡ slice_get (owners 0 (greedy ps spare)) word
place_is ps count places spare word are is below =
    ap (λ l. slice_get l word) (places_are ps count places are) ∙ slice_get_take count (owners 0 (greedy ps (count - least ps))) word below ∙ ap (λ s. slice_get (owners 0 (greedy ps s)) word) (sym is)

pub place_there : (ps : List spec.Positional) (count : ℕ) (places : List ℕ) (spare word i : ℕ) → ArePlaces ps count places → spare ≡ count - least ps → word < count → slice_get (owners 0 (greedy ps spare)) word ≡ Some i
    → slice_get places word ≡ Some i
place_there ps count places spare word i are is below here = place_is ps count places spare word are is below ∙ here

pub no_place : (ps : List spec.Positional) (count : ℕ) (places : List ℕ) (spare word : ℕ) → ArePlaces ps count places → spare ≡ count - least ps → word < count → slice_get (owners 0 (greedy ps spare)) word ≡ None → ⊥
no_place ps count places spare word are is below none =
    let some = slice_get-get_or places word 0 (omega (arith, below, places_length ps count places are)) in
    let e : Some (get_or places word 0) ≡ None = sym some ∙ place_is ps count places spare word are is below ∙ none in cc

-- the positional that a word belongs to is declared
pub owner_within : (ps : List spec.Positional) (k spare word i : ℕ) → slice_get (owners k (greedy ps spare)) word ≡ Some i → i < k + length ps
owner_within [] k spare word i is = absurd (let e : None ≡ Some i = is in cc)
owner_within (p ∷ ps) k spare word i is = go (λ n. owner_within ps (suc k) (spare - extra p.count spare) n i) (needs p.count + extra p.count spare) word is
  where
    rest : List ℕ
    rest = owners (suc k) (greedy ps (spare - extra p.count spare))

    go : ((n : ℕ) → slice_get rest n ≡ Some i → i < suc k + length ps) → (m n : ℕ) → slice_get (replicate m k ++ rest) n ≡ Some i → i < k + suc (length ps)
    go later zero n is = let l = later n is in omega (arith, l)
    go later (suc m) zero is = let e : Some k ≡ Some i = is in let same : k ≡ i = cc in omega (arith, same)
    go later (suc m) (suc n) is = go later m n is

pub place_past : {P : Type 0} (positionals : List (Positional P)) (spare word i : ℕ) → length positionals ≤ i → slice_get (owners 0 (greedy (map positional_view positionals) spare)) word ≡ Some i → ⊥
place_past positionals spare word i past is =
    let within = owner_within (map positional_view positionals) 0 spare word i is in omega (arith, within, past, length-map positionals positional_view)

-- ---- the positionals of a declaration

pub viewed : {P : Type 0} (ps : List (Positional P)) (k : ℕ) (x : Positional P) → k < length ps → x ≡ get_or ps k x → positional_view x ≡ get_or (map positional_view ps) k (positional_view x)
viewed ps k x within is = ap positional_view is ∙ sym (get_or-map positional_view ps k x (positional_view x) within)

pub has_its_key : {P : Type 0} (ps : List (Positional P)) (k : ℕ) (x : Positional P) → k < length ps → x ≡ get_or ps k x → HasKey ps k x.key
has_its_key ps k x within is = ap (option_map (λ p. p.key)) (slice_get-get_or ps k x within) ∙ ap (λ p. Some p.key) (sym is)

-- ---- one positional, or none

places_zero : (ps : List spec.Positional) (count : ℕ) (places : List ℕ) → length ps < 2 → ArePlaces ps count places → (i x : ℕ) → slice_get places i ≡ Some x → x ≡ 0
places_zero ps count places few are i x is =
    let below : i < count = subst (λ n. i < n) (places_length ps count places are) (slice_get_within places i x is) in
    let within = owner_within ps 0 (count - least ps) i x (sym (place_is ps count places (count - least ps) i are refl below) ∙ is) in
    omega (arith, few, within)

zip_first : {P : Type 0} (positionals : List (Positional P)) (places : List ℕ) (keys : List P) → ((i x : ℕ) → slice_get places i ≡ Some x → x ≡ 0) → AllFirst positionals keys → length places ≡ length keys
    → AllZip (HasKey positionals) places keys
zip_first positionals [] [] zero_all first same = tt
zip_first positionals (x ∷ places) (k ∷ keys) zero_all first same =
    (subst (λ n. HasKey positionals n k) (sym (zero_all 0 x refl)) first.0, zip_first positionals places keys (λ i. zero_all (suc i)) first.1 (omega (arith, same)))
zip_first positionals places keys zero_all first same = absurd (omega (arith, same))

-- if there are fewer than two positionals, each word belongs to the first
pub first_keys : {P : Type 0} (positionals : List (Positional P)) (keys : List P) → length positionals < 2 → IsWithin (length keys) (most (map positional_view positionals)) → AllFirst positionals keys
    → (places : List ℕ) × ArePlaces (map positional_view positionals) (length keys) places × AllZip (HasKey positionals) places keys
first_keys positionals keys few within first =
    let ps = map positional_view positionals in
    let some = some_places ps (length keys) within in
    (some.0, some.1, zip_first positionals some.0 keys (places_zero ps (length keys) some.0 (subst (λ n. n < 2) (sym (length-map positionals positional_view)) few) some.1) first (places_length ps (length keys) some.0 some.1))
