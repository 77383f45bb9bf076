-- The line that each state of a parser represents.
use Rattle.std.proofs.Common.{◌≡◌, ◌≢◌, ℕ, zero, suc, ◌+◌, ◌-◌, get_or, ◌<◌, ◌≤◌, ◌==◌, ◌&&◌, Bool, true, false, List, [], ◌∷◌, length, drop, Option, Some, None, refl, sym, ap, ◌∙◌, arith, ⊎_elim, add-one, length-drop}
use Rattle.std.proofs.lemmas.Bool.{cases_Bool, cond-true, cond-false, cases_lt}
use Rattle.std.proofs.lemmas.List.{drop-drop, drop_all, get_or-drop}
use Rattle.std.proofs.Math.Seq.{drop-cons}
use Rattle.lexopt_spec.specs.UnreadLine.{UnreadLine, equals, no_tail, rest_of, pending, pending_in}
use Rattle.bstr.specs.Utf8.{decoded}
use Rattle.lexopt_spec.specs.Pieces.{shown}
use Rattle.lexopt_spec.specs.Steps.{Reply, long}
use Rattle.lexopt_spec.proofs.LineLemmas.{rest_of-some, same_parts}
use Rattle.lexopt_base.specs.KeptWords.{Kept, word_before, last_bytes, TakesNext}
use Rattle.lexopt_base.specs.Models.{tail_of, ended_of, last_of, line_of, IsPlaced, IsShortRead}
use Rattle.lexopt_base.specs.Found.{name_of}
use Rattle.lexopt_spec.specs.Views.{WordItem}
use Rattle.lexopt_base.specs.Refusals.{HasPending, TakesPending}
use Rattle.lexopt_base.specs.declared.parser.State.{State}
use Rattle.lexopt_base.specs.declared.parser.State.TheVariants.{Ready, PendingValue, Shorts, FinishedOpts}
use Rattle.lexopt_base.specs.declared.parser.LastOption.{LastOption}
use Rattle.lexopt_base.specs.declared.parser.LastOption.TheVariants.{Nothing, Short, Long}
use Rattle.lexopt_base.specs.declared.parser.Parser.TheInside.{Inside}

-- ---- kept words

-- the words after the cursor begin with the word that it passes next
pub passed : (words : List (List ℕ)) (count : ℕ) → drop count words ≢ [] → drop count words ≡ word_before (count + 1) words ∷ drop (count + 1) words
passed words count some = ⊎_elim
    (λ (within : count < length words). rw add-one (drop-cons words count [] within))
    (λ (all : length words ≤ count). absurd (some (drop_all count words all)))
    (cases_lt count (length words))

pub same_kept : (a b : Kept) → a.current ≡ b.current → a.left ≡ b.left → a ≡ b
same_kept a b current left =
    ap (λ (w : List ℕ). record a { current = w }) current ∙ ap (λ (ws : List (List ℕ)). record b { left = ws }) left

-- contracts see a copy from the word just before the cursor on as they see the original
pub seen_from : (words copied : List (List ℕ)) (count first : ℕ) → first ≡ count - 1 → copied ≡ drop first words
    → (word_before (count - first) copied ≡ word_before count words) × (drop (count - first) copied ≡ drop count words)
seen_from words copied zero first is same =
    let none : 0 - first ≡ 0 = omega arith in
    let start : first ≡ 0 = omega arith in
    (ap (λ n. word_before n copied) none, ap (λ n. drop n copied) none ∙ same ∙ ap (λ n. drop n words) start)
seen_from words copied (suc n) first is same =
    let start : first ≡ n = omega arith in
    let one : suc n - first ≡ 1 = omega arith in
    let after : n + 1 ≡ suc n = omega arith in
    let here : n + 0 ≡ n = omega arith in
    let left : copied ≡ drop n words = same ∙ ap (λ m. drop m words) start in (
      ap (λ m. word_before m copied) one ∙ ap (λ (l : List (List ℕ)). get_or l 0 []) left ∙ get_or-drop n words 0 [] ∙ ap (λ m. get_or words m []) here,
      ap (λ m. drop m copied) one ∙ ap (λ (l : List (List ℕ)). drop 1 l) left ∙ drop-drop 1 n words ∙ ap (λ m. drop m words) after,
    )

-- ---- states with no tail

pub no_rest : (word : List ℕ) (position : ℕ) → position < length word → rest_of (drop position word) ≡ no_tail → ⊥
no_rest word position below is =
    let some : 0 < length (drop position word) = omega (arith, length-drop position word) in
    let e = sym (rest_of-some (drop position word) some) ∙ is in cc

-- a state without a tail has none, whichever word comes before the cursor
pub placed_anywhere : (word other : List ℕ) (state : State) → IsPlaced word state → tail_of word state ≡ no_tail → IsPlaced other state
placed_anywhere word other Ready placed is = tt
placed_anywhere word other (PendingValue position) placed is = cc
placed_anywhere word other (Shorts position) placed is = absurd (no_rest word position placed is)
placed_anywhere word other FinishedOpts placed is = tt

pub no_tail_anywhere : (word other : List ℕ) (state : State) → IsPlaced word state → tail_of word state ≡ no_tail → tail_of other state ≡ no_tail
no_tail_anywhere word other Ready placed is = refl
no_tail_anywhere word other (PendingValue position) placed is = cc
no_tail_anywhere word other (Shorts position) placed is = absurd (no_rest word position placed is)
no_tail_anywhere word other FinishedOpts placed is = refl

-- the word after the cursor is the next word of the line
pub word_taken : (p : Inside) (u : UnreadLine) (result : Option (List ℕ)) (after : Kept) → line_of p ≡ u → IsPlaced p.words.current p.state → u.tail ≡ no_tail
    → TakesNext p.words result after → WordItem u result (line_of (record p { words = after }))
word_taken p u None after seen placed none takes =
    (ap (λ (l : UnreadLine). l.words) (sym seen) ∙ takes.0, ap (λ (k : Kept). line_of (record p { words = k })) takes.1 ∙ seen)
word_taken p u (Some word) after seen placed none takes = (
  ap (λ (l : UnreadLine). l.words) (sym seen) ∙ takes,
  same_parts _ _ (no_tail_anywhere p.words.current after.current p.state placed (ap (λ (l : UnreadLine). l.tail) seen ∙ none) ∙ sym none) refl
      (ap (λ (l : UnreadLine). l.ended) seen) (ap (λ (l : UnreadLine). l.last) seen) (ap (λ (l : UnreadLine). l.short_equals) seen) (ap (λ (l : UnreadLine). l.bin_name) seen),
)

-- ---- pending values

abbrev value_in : Option (List ℕ × Bool) → List ℕ
value_in None = []
value_in (Some p) = p.0

abbrev pub flag_in : Option (List ℕ × Bool) → Bool
flag_in None = false
flag_in (Some p) = p.1

-- the rest of a cluster ends with its pending value
rest_ends : (short_equals : Bool) (bytes value : List ℕ) (by_equals : Bool) → pending_in short_equals (rest_of bytes) ≡ Some (value, by_equals)
    → (k : ℕ) × (k ≤ length bytes) × (value ≡ drop k bytes)
rest_ends short_equals [] value by_equals is = absurd (let e : None ≡ Some (value, by_equals) = is in cc)
rest_ends short_equals (b ∷ bs) value by_equals is = ⊎_elim
    (λ (yes : (short_equals && b == equals) ≡ true).
    (1, omega arith, sym (ap value_in (sym (cond-true _ (Some (bs, true)) (Some (b ∷ bs, false)) yes) ∙ is))))
    (λ (no : (short_equals && b == equals) ≡ false).
    (0, omega arith, sym (ap value_in (sym (cond-false _ (Some (bs, true)) (Some (b ∷ bs, false)) no) ∙ is))))
    (cases_Bool (short_equals && b == equals))

-- the word before the cursor ends with the pending value
abbrev Ends : List ℕ → State → List ℕ → Type 0
Ends word state value = (k : ℕ) × (k ≤ length word) × (value ≡ drop k word) × (0 < length word) × (ended_of state ≡ false)

pending_ends : (short_equals : Bool) (word : List ℕ) (state : State) (value : List ℕ) (by_equals : Bool) → IsPlaced word state
    → pending_in short_equals (tail_of word state) ≡ Some (value, by_equals) → Ends word state value
pending_ends short_equals word Ready value by_equals placed is = absurd (let e : None ≡ Some (value, by_equals) = is in cc)
pending_ends short_equals word FinishedOpts value by_equals placed is = absurd (let e : None ≡ Some (value, by_equals) = is in cc)
pending_ends short_equals word (PendingValue position) value by_equals placed is =
    (position, placed.1, sym (ap value_in is), omega (placed.0, placed.1, arith), refl)
pending_ends short_equals word (Shorts position) value by_equals placed is =
    let found = rest_ends short_equals (drop position word) value by_equals is in
    (position + found.0, omega (found.1, length-drop position word, placed, arith), found.2 ∙ drop-drop found.0 position word, omega (placed, arith), refl)

-- so the value is the last bytes of that word
last_is : (word value : List ℕ) (k count : ℕ) → k ≤ length word → value ≡ drop k word → length value ≡ count → last_bytes count word ≡ value
last_is word value k count within is size =
    let left : length value ≡ length word - k = ap length is ∙ length-drop k word in
    ap (λ n. drop n word) (omega (within, left, size, arith)) ∙ sym is

-- the word before the cursor has `count` bytes to take
pub within_word : (p : Inside) (u : UnreadLine) (count : ℕ) → line_of p ≡ u → IsPlaced p.words.current p.state → HasPending u count
    → (p.words.current ≢ []) × (count ≤ length p.words.current)
within_word p u count seen placed has =
    let ends = pending_ends p.short_equals p.words.current p.state has.0 has.1 placed (ap pending seen ∙ has.2) in
    let left : length has.0 ≡ length p.words.current - ends.0 = ap length ends.2 ∙ length-drop ends.0 p.words.current in
    (λ none. let e : length p.words.current ≡ 0 = ap length none in omega (e, ends.3, arith), omega (left, has.3, ends.1, arith))

-- taking the last bytes of the word before the cursor takes the pending value
pub value_taken : (p : Inside) (u : UnreadLine) (count : ℕ) (result : List ℕ) (after : Kept) → line_of p ≡ u → IsPlaced p.words.current p.state → HasPending u count
    → result ≡ last_bytes count p.words.current → after.left ≡ p.words.left → TakesPending u result (line_of (record p { words = after; state = Ready }))
value_taken p u count result after seen placed has is left =
    let ends = pending_ends p.short_equals p.words.current p.state has.0 has.1 placed (ap pending seen ∙ has.2) in
    let same : result ≡ has.0 = is ∙ last_is p.words.current has.0 ends.0 count ends.1 ends.2 has.3 in (
      has.1,
      has.2 ∙ ap (λ (v : List ℕ). Some (v, has.1)) (sym same),
      same_parts _ _ refl (left ∙ ap (λ (l : UnreadLine). l.words) seen) (sym ends.4 ∙ ap (λ (l : UnreadLine). l.ended) seen)
          (ap (λ (l : UnreadLine). l.last) seen) (ap (λ (l : UnreadLine). l.short_equals) seen) (ap (λ (l : UnreadLine). l.bin_name) seen),
    )

-- ---- names

-- the name that is lent is the one that was found
pub lent : (option : LastOption) (name : List ℕ) (reply : Reply) → name_of (last_of option name) ≡ Some reply → Some (long name) ≡ Some reply
lent Nothing name reply is = cc
lent (Short c) name reply is = cc
lent Long name reply is = is

-- ---- clusters

-- a piece is read, and the cluster goes on
pub short_read_on : (word : List ℕ) (at size c : ℕ) → c ≡ shown (decoded (drop at word)).char → size ≡ (decoded (drop at word)).size → at + size < length word
    → IsShortRead word at c (Shorts (at + size))
short_read_on word at size c shows takes below = record {
  shown_is = shows;
  tail = ap rest_of (sym (drop-drop size at word) ∙ ap (λ n. drop n (drop at word)) takes);
  ended = refl;
  placed = below;
}

-- a piece is read, and nothing comes after it
pub short_read_out : (word : List ℕ) (at size c : ℕ) → c ≡ shown (decoded (drop at word)).char → size ≡ (decoded (drop at word)).size → length word ≤ at + size
    → IsShortRead word at c Ready
short_read_out word at size c shows takes out = record {
  shown_is = shows;
  tail = ap rest_of (sym (drop_all (at + size) word out) ∙ sym (drop-drop size at word) ∙ ap (λ n. drop n (drop at word)) takes);
  ended = refl;
  placed = tt;
}
