-- What is asked of a call bounds the items that come and the words that are taken.
use Rattle.std.proofs.Common.{◌≡◌, ℕ, zero, suc, ◌≤◌, ◌+◌, Bool, List, [], ◌∷◌, length, take, Option, Some, None, ap, inl, inr, arith, length-drop}
use Rattle.std.proofs.lemmas.List.{length-take}
use Rattle.lexopt_spec.specs.UnreadLine.{UnreadLine, fresh, pending, spelling}
use Rattle.lexopt_spec.specs.Steps.{Reply, items, missing, unexpected, busy, no_memory}
use Rattle.lexopt_spec.specs.Account.{handed_items}
use Rattle.lexopt_spec.specs.Views.{available, without, no_values, some_values, refuses_pending, lends_words, leaves_pending, try_lends_words}
use Rattle.lexopt_spec.specs.Runs.{Call, values, raw, try_raw, Step, Part, up_to}

-- ---- items

at_most : (n : ℕ) (came l : List (List ℕ)) → came ≡ take n l → length came ≤ n
at_most n came l is = let few : length (take n l) ≤ n = (let e = length-take n l in omega arith) in rw is few

pub values_at_most : (n : ℕ) (u v : UnreadLine) (came : List (List ℕ)) → Step (values n) u (items came) v → length came ≤ n
values_at_most n u v came (inl (no_values none is after)) = absurd (let e : items came ≡ missing (spelling u.last) = is in cc)
values_at_most n u v came (inl (some_values some is after)) = at_most n came (available u) (ap handed_items is)
values_at_most n u v came (inr refused) = absurd (let e : items came ≡ no_memory = refused.reply_is in cc)

pub raw_at_most : (n : ℕ) (u v : UnreadLine) (came : List (List ℕ)) → Step (raw n) u (items came) v → length came ≤ n
raw_at_most n u v came (inl (refuses_pending value option by_equals p spelled is after)) = absurd (let e : items came ≡ unexpected option value = is in cc)
raw_at_most n u v came (inl (lends_words p took)) = at_most n came u.words (ap handed_items took.reply_is)
raw_at_most n u v came (inr refused) = absurd (let e : items came ≡ no_memory = refused.reply_is in cc)

pub try_raw_at_most : (n : ℕ) (u v : UnreadLine) (came : List (List ℕ)) → Step (try_raw n) u (items came) v → length came ≤ n
try_raw_at_most n u v came (inl (leaves_pending value by_equals p is after)) = absurd (let e : items came ≡ busy = is in cc)
try_raw_at_most n u v came (inl (try_lends_words p took)) = at_most n came u.words (ap handed_items took.reply_is)
try_raw_at_most n u v came (inr refused) = absurd (let e : items came ≡ no_memory = refused.reply_is in cc)

-- ---- words

-- at most n words are taken
abbrev LosesUpTo : ℕ → UnreadLine → UnreadLine → Type 0
LosesUpTo n u v = length u.words ≤ length v.words + n

without_loses : (found : Option (List ℕ × Bool)) (n : ℕ) (u : UnreadLine) → LosesUpTo n u (without found n u)
without_loses found zero u = omega arith
without_loses None (suc n) u = let e = length-drop (suc n) u.words in omega arith
without_loses (Some value) (suc n) u = let e = length-drop n u.words in omega arith

pub values_lose : (n : ℕ) (u : UnreadLine) (r : Reply) (v : UnreadLine) → Step (values n) u r v → LosesUpTo n u v
values_lose n u r v (inl (no_values none is after)) = rw after (omega arith)
values_lose n u r v (inl (some_values some is after)) =
    rw after (let few = length-take n (available u) in let e = without_loses (pending u) (length (take n (available u))) u in omega arith)
values_lose n u r v (inr refused) = rw refused.after_is (omega arith)

pub raw_loses : (n : ℕ) (u : UnreadLine) (r : Reply) (v : UnreadLine) → Step (raw n) u r v → LosesUpTo n u v
raw_loses n u r v (inl (refuses_pending value option by_equals p spelled is after)) = rw after (omega arith)
raw_loses n u r v (inl (lends_words p took)) = rw took.after_is (let e = length-drop n u.words in omega arith)
raw_loses n u r v (inr refused) = rw refused.after_is (omega arith)

pub try_raw_loses : (n : ℕ) (u : UnreadLine) (r : Reply) (v : UnreadLine) → Step (try_raw n) u r v → LosesUpTo n u v
try_raw_loses n u r v (inl (leaves_pending value by_equals p is after)) = rw after (omega arith)
try_raw_loses n u r v (inl (try_lends_words p took)) = rw took.after_is (let e = length-drop n u.words in omega arith)
try_raw_loses n u r v (inr refused) = rw refused.after_is (omega arith)

same_left : (u v : UnreadLine) → u ≡ v → length u.words ≡ length v.words
same_left u v is = ap (λ (l : UnreadLine). length l.words) is

-- if each part of a call takes at most one word, no part takes two
pub leaves_one : (call : Call) (a b : List ℕ)
    → ((m : ℕ) (r : Reply) (v : UnreadLine) → Step (up_to m call) (fresh (a ∷ b ∷ [])) r v → LosesUpTo 1 (fresh (a ∷ b ∷ [])) v)
    → ((r : Reply) (v : UnreadLine) → Step call (fresh (a ∷ b ∷ [])) r v → LosesUpTo 1 (fresh (a ∷ b ∷ [])) v)
    → Part (fresh (a ∷ b ∷ [])) (call ∷ []) (fresh []) → ⊥
leaves_one call a b cut whole (inl is) = let e = same_left (fresh []) (fresh (a ∷ b ∷ [])) is in absurd (omega arith)
leaves_one call a b cut whole (inr (inl (m, r, step))) = let few = cut m r (fresh []) step in absurd (omega arith)
leaves_one call a b cut whole (inr (inr (between, r, step, is))) =
    let few = whole r between step in
    let none = same_left (fresh []) between is in
    absurd (omega arith)
