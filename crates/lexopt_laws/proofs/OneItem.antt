-- A view has exactly one result, if it is asked for an item.
use Rattle.std.proofs.Common.{◌≡◌, ℕ, Bool, true, false, List, [], ◌∷◌, Option, Some, None, refl, sym, ap, subst, ◌∙◌, true≢false}
use Rattle.lexopt_spec.specs.UnreadLine.{no_tail, UnreadLine, pending, IsPlain, is_plain, IsNormalIn}
use Rattle.lexopt_spec.specs.Views.{Stage, going_on, at_end, after_pending, ValueItem, gives_pending, gives_word, stops, stopped, WordItem}
use Rattle.lexopt_spec.proofs.PlainFronts.{plain_holds, plain_passes}
use Rattle.lexopt_line_spec.proofs.Exact.{value_bytes}

abbrev SomeValue : Stage → UnreadLine → Type 0
SomeValue stage u = (item : Option (List ℕ)) × (v : UnreadLine) × (now : Stage) × ValueItem stage u item v now

-- ---- some result

not_plain : (ended : Bool) (w : List ℕ) → is_plain ended w ≡ false → ¬ IsPlain ended w
not_plain ended w is plain = true≢false (sym (plain_passes ended w plain) ∙ is)

word_value : (u : UnreadLine) (w : List ℕ) (ws : List (List ℕ)) (t : Bool) → pending u ≡ None → u.words ≡ w ∷ ws → is_plain u.ended w ≡ t → SomeValue going_on u
word_value u w ws true p is plain = (Some w, record u { words = ws }, going_on, gives_word w ws refl p is (plain_holds u.ended w plain) refl refl refl)
word_value u w ws false p is plain =
    (None, u, at_end, stops refl p (subst (λ l. ¬ IsNormalIn u.ended l) (sym is) (not_plain u.ended w plain)) refl refl refl)

next_value : (u : UnreadLine) (words : List (List ℕ)) → pending u ≡ None → u.words ≡ words → SomeValue going_on u
next_value u [] p is = (None, u, at_end, stops refl p (subst (λ l. ¬ IsNormalIn u.ended l) (sym is) (λ none. none)) refl refl refl)
next_value u (w ∷ ws) p is = word_value u w ws (is_plain u.ended w) p is refl

first_value : (u : UnreadLine) (found : Option (List ℕ × Bool)) → pending u ≡ found → SomeValue going_on u
first_value u (Some (x, by_equals)) is = (Some x, record u { tail = no_tail }, after_pending by_equals, gives_pending x by_equals refl is refl refl refl)
first_value u None is = next_value u u.words is refl

pub some_value : (stage : Stage) (u : UnreadLine) → SomeValue stage u
some_value going_on u = first_value u (pending u) refl
some_value at_end u = (None, u, at_end, stopped refl refl refl refl)

word_there : (u : UnreadLine) (words : List (List ℕ)) → u.words ≡ words → (item : Option (List ℕ)) × (v : UnreadLine) × WordItem u item v
word_there u [] is = (None, u, (is, refl))
word_there u (w ∷ ws) is = (Some w, record u { words = ws }, (is, refl))

pub some_word : (u : UnreadLine) → (item : Option (List ℕ)) × (v : UnreadLine) × WordItem u item v
some_word u = word_there u u.words refl

-- ---- no other result

ended_and_not : {A : Type 0} (stage : Stage) → stage ≡ going_on → stage ≡ at_end → A
ended_and_not stage a b = absurd (let e : going_on ≡ at_end = sym a ∙ b in cc)

found_and_not : {A : Type 0} (u : UnreadLine) (x : List ℕ × Bool) → pending u ≡ Some x → pending u ≡ None → A
found_and_not u x a b = absurd (let e : Some x ≡ None = sym a ∙ b in cc)

normal_and_not : {A : Type 0} (u : UnreadLine) (w : List ℕ) (ws : List (List ℕ)) → u.words ≡ w ∷ ws → IsPlain u.ended w → ¬ IsNormalIn u.ended u.words → A
normal_and_not u w ws is plain none = absurd (none (subst (IsNormalIn u.ended) (sym is) plain))

mark_in : (found : Option (List ℕ × Bool)) → Bool
mark_in None = false
mark_in (Some x) = x.1

first_in : (words : List (List ℕ)) → List ℕ
first_in [] = []
first_in (w ∷ ws) = w

others_in : (words : List (List ℕ)) → List (List ℕ)
others_in [] = []
others_in (w ∷ ws) = ws

pub no_other_value : (stage now then : Stage) (u v w : UnreadLine) (item other : Option (List ℕ)) → ValueItem stage u item v now → ValueItem stage u other w then
    → (item ≡ other) × (v ≡ w) × (now ≡ then)
unfolding mark_in first_in others_in
no_other_value stage now then u v w item other (gives_pending x e s p a b c) (gives_pending y f t q d g h) =
    let same : Some (x, e) ≡ Some (y, f) = sym p ∙ q in
    (a ∙ ap (λ k. Some (value_bytes k)) same ∙ sym d, b ∙ sym g, c ∙ ap (λ k. after_pending (mark_in k)) same ∙ sym h)
no_other_value stage now then u v w item other (gives_pending x e s p a b c) (gives_word y ys t q is plain d g h) = found_and_not u (x, e) p q
no_other_value stage now then u v w item other (gives_pending x e s p a b c) (stops t q none d g h) = found_and_not u (x, e) p q
no_other_value stage now then u v w item other (gives_pending x e s p a b c) (stopped t d g h) = ended_and_not stage s t
no_other_value stage now then u v w item other (gives_word x xs s p is plain a b c) (gives_pending y f t q d g h) = found_and_not u (y, f) q p
no_other_value stage now then u v w item other (gives_word x xs s p is plain a b c) (gives_word y ys t q at plain2 d g h) =
    let same : x ∷ xs ≡ y ∷ ys = sym is ∙ at in
    (a ∙ ap (λ k. Some (first_in k)) same ∙ sym d, b ∙ ap (λ k. record u { words = others_in k }) same ∙ sym g, c ∙ sym h)
no_other_value stage now then u v w item other (gives_word x xs s p is plain a b c) (stops t q none d g h) = normal_and_not u x xs is plain none
no_other_value stage now then u v w item other (gives_word x xs s p is plain a b c) (stopped t d g h) = ended_and_not stage s t
no_other_value stage now then u v w item other (stops s p none a b c) (gives_pending y f t q d g h) = found_and_not u (y, f) q p
no_other_value stage now then u v w item other (stops s p none a b c) (gives_word y ys t q is plain d g h) = normal_and_not u y ys is plain none
no_other_value stage now then u v w item other (stops s p none a b c) (stops t q none2 d g h) = (a ∙ sym d, b ∙ sym g, c ∙ sym h)
no_other_value stage now then u v w item other (stops s p none a b c) (stopped t d g h) = ended_and_not stage s t
no_other_value stage now then u v w item other (stopped s a b c) (gives_pending y f t q d g h) = ended_and_not stage t s
no_other_value stage now then u v w item other (stopped s a b c) (gives_word y ys t q is plain d g h) = ended_and_not stage t s
no_other_value stage now then u v w item other (stopped s a b c) (stops t q none d g h) = ended_and_not stage t s
no_other_value stage now then u v w item other (stopped s a b c) (stopped t d g h) = (a ∙ sym d, b ∙ sym g, c ∙ sym h)

pub no_other_word : (u v w : UnreadLine) (item other : Option (List ℕ)) → WordItem u item v → WordItem u other w → (item ≡ other) × (v ≡ w)
unfolding first_in others_in
no_other_word u v w None None a b = (refl, a.1 ∙ sym b.1)
no_other_word u v w None (Some y) a b = absurd (let e : [] ≡ y ∷ w.words = sym a.0 ∙ b.0 in cc)
no_other_word u v w (Some x) None a b = absurd (let e : x ∷ v.words ≡ [] = sym a.0 ∙ b.0 in cc)
no_other_word u v w (Some x) (Some y) a b =
    let same : x ∷ v.words ≡ y ∷ w.words = sym a.0 ∙ b.0 in
    (ap (λ k. Some (first_in k)) same, a.1 ∙ ap (λ k. record u { words = others_in k }) same ∙ sym b.1)
