-- Plain words, and the longest front of them.
use Rattle.std.proofs.Common.{◌≡◌, ◌≢◌, ℕ, suc, Bool, true, false, not, List, [], ◌∷◌, ◌++◌, length, drop, refl, sym, ap, subst, ◌∙◌, arith, inl, inr, ⊎_elim, true≢false, cond}
use Rattle.std.proofs.lemmas.Bool.{cases_eq, eq-eqb, ne_eqb}
use Rattle.std.proofs.lemmas.List.Sums.{take_while-cons}
use Rattle.std.proofs.Math.Seq.{drop-append_seam}
use Rattle.std.specs.List.{All}
use Rattle.std.proofs.lemmas.List.Elements.{All-nil, All-cons}
use Rattle.lexopt_spec.specs.UnreadLine.{dash, IsPlain, is_plain, IsNormalIn, IsPlainFront}
use Rattle.lexopt_spec.specs.Views.{plain_front}
use Rattle.lexopt_spec.proofs.LineLemmas.{plain_short}

-- ---- plain words

pub plain_holds : (ended : Bool) (w : List ℕ) → is_plain ended w ≡ true → IsPlain ended w
plain_holds true w is = inl refl
plain_holds false [] is = plain_short [] (omega arith)
plain_holds false (b ∷ []) is = plain_short (b ∷ []) (omega arith)
plain_holds false (b ∷ c ∷ cs) is = ⊎_elim
    (λ (same : b ≡ dash). absurd (true≢false (sym is ∙ ap not (eq-eqb b dash same))))
    (λ (other : b ≢ dash). inr (inr other))
    (cases_eq b dash)

pub plain_passes : (ended : Bool) (w : List ℕ) → IsPlain ended w → is_plain ended w ≡ true
plain_passes ended [] plain = refl
plain_passes ended (b ∷ []) plain = refl
plain_passes true (b ∷ c ∷ cs) plain = refl
plain_passes false (b ∷ c ∷ cs) (inl is) = absurd (true≢false (sym is))
plain_passes false (b ∷ c ∷ cs) (inr (inl is)) = absurd (let e : suc (suc (length cs)) ≡ 1 = ap length is in omega arith)
plain_passes false (b ∷ c ∷ cs) (inr (inr other)) = ap not (ne_eqb b dash other)

pub front-more : (ended : Bool) (w : List ℕ) (ws : List (List ℕ)) → IsPlain ended w → plain_front ended (w ∷ ws) ≡ w ∷ plain_front ended ws
front-more ended w ws plain =
    take_while-cons (λ word. is_plain ended word) w ws ∙ ap (λ t. cond t (w ∷ plain_front ended ws) []) (plain_passes ended w plain)

pub front-less : (ended : Bool) (w : List ℕ) (ws : List (List ℕ)) → (IsPlain ended w → ⊥) → plain_front ended (w ∷ ws) ≡ []
front-less ended w ws other =
    take_while-cons (λ word. is_plain ended word) w ws
    ∙ elim (is_plain ended w) as (λ t. is_plain ended w ≡ t → cond t (w ∷ plain_front ended ws) [] ≡ []) [
      | true ↦ λ is. absurd (other (plain_holds ended w is))
      | false ↦ λ is. refl
    ] refl

pub front-none : (ended : Bool) (words : List (List ℕ)) → (IsNormalIn ended words → ⊥) → plain_front ended words ≡ []
front-none ended [] other = refl
front-none ended (w ∷ ws) other = front-less ended w ws other

-- ---- the front is the longest one of plain words

-- the words are the front and the words after it
front_parts : (ended : Bool) (words : List (List ℕ))
    → (after : List (List ℕ)) × (words ≡ plain_front ended words ++ after) × All (IsPlain ended) (plain_front ended words) × ¬ IsNormalIn ended after
front_parts ended [] = ([], refl, All-nil (IsPlain ended), λ h. h)
front_parts ended (w ∷ ws) = elim (is_plain ended w) as
    (λ t. is_plain ended w ≡ t → (after : List (List ℕ)) × (w ∷ ws ≡ plain_front ended (w ∷ ws) ++ after) × All (IsPlain ended) (plain_front ended (w ∷ ws)) × ¬ IsNormalIn ended after) [
      | true ↦ λ is.
          let plain = plain_holds ended w is in
          let more = front_parts ended ws in
          let step = front-more ended w ws plain in (
            more.0,
            ap (λ l. w ∷ l) more.1 ∙ ap (λ l. l ++ more.0) (sym step),
            subst (λ (l : List (List ℕ)). All (IsPlain ended) l) (sym step) (All-cons (IsPlain ended) w (plain_front ended ws) plain more.2),
            more.3,
          )
      | false ↦ λ is.
          let other : IsPlain ended w → ⊥ = λ plain. true≢false (sym (plain_passes ended w plain) ∙ is) in
          let step = front-less ended w ws other in (
            w ∷ ws,
            ap (λ l. l ++ w ∷ ws) (sym step),
            subst (λ (l : List (List ℕ)). All (IsPlain ended) l) (sym step) (All-nil (IsPlain ended)),
            other,
          )
    ] refl

-- no other front is the longest
front_is : (ended : Bool) (front after : List (List ℕ)) → All (IsPlain ended) front → (IsNormalIn ended after → ⊥) → plain_front ended (front ++ after) ≡ front
front_is ended [] after plain other = front-none ended after other
front_is ended (w ∷ ws) after plain other =
    front-more ended w (ws ++ after) (plain 0 [] (omega arith))
    ∙ ap (λ l. w ∷ l) (front_is ended ws after (λ k d below. plain (suc k) d (omega arith)) other)

pub front_cut : (ended : Bool) (words : List (List ℕ)) → (after : List (List ℕ)) × IsPlainFront ended words (plain_front ended words) after
front_cut ended words = let cut = front_parts ended words in (cut.0, record { words_are = cut.1; plain = cut.2; longest = cut.3 })

pub front_only : (ended : Bool) (words front after : List (List ℕ)) → IsPlainFront ended words front after → plain_front ended words ≡ front
front_only ended words front after is = ap (plain_front ended) is.words_are ∙ front_is ended front after is.plain is.longest

pub left_after_front : (ended : Bool) (words front after : List (List ℕ)) → IsPlainFront ended words front after → drop (length front) words ≡ after
left_after_front ended words front after is = ap (drop (length front)) is.words_are ∙ drop-append_seam front after

pub front_same : (ended : Bool) (words front after other left : List (List ℕ)) → IsPlainFront ended words front after → IsPlainFront ended words other left
    → (front ≡ other) × (after ≡ left)
front_same ended words front after other left one two =
    let same = sym (front_only ended words front after one) ∙ front_only ended words other left two in
    (same, sym (left_after_front ended words front after one) ∙ ap (λ l. drop (length l) words) same ∙ left_after_front ended words other left two)
