-- The invariant of the loop over the items: the words so far, with those of the items that are
-- left, are the words of all items, and an item at fault among those that are left is at fault.
use Rattle.std.proofs.Common.{◌≡◌, ◌≢◌, ◌⊎◌, ℕ, suc, ◌+◌, Bool, true, false, List, [], ◌∷◌, ◌++◌, refl, sym, ap, subst, ◌∙◌, arith, inl, inr, ◌<◌, ◌≤◌, length, map, drop, get_or, add-zero, zero-add, append-nil, append_assoc}
use Rattle.std.proofs.lemmas.List.{drop_all}
use Rattle.lexopt_line_spec.specs.Table.{Name, Item, Kind, Table}
use Rattle.lexopt_line_spec.specs.Spelling.{After}
use Rattle.lexopt_line_spec.specs.Speller as rows
use Rattle.lexopt_line_spec.specs.Speller.{Reason, Place, open_line, in_cluster, after_values, after_positional, ended, HasForm, Adds, GoesOn, CannotBeSpelled, SpelledFrom, SpelledAs, FaultFrom}
use Rattle.lexopt_line_spec.proofs.SpellerAgrees.{none_first}
use Rattle.lexopt_spell.specs.Models.{AddsOrGoesOn}
use Rattle.lexopt_spell.specs.Words.{onto_last, pushed}
use Rattle.lexopt_spell.proofs.After.{from_on, from_on_is, at_item}
use Rattle.lexopt_spell.proofs.LastWord.{onto_snoc, onto_nil, onto_twice}

-- whatever the items that are left add, or whichever of them is at fault, is so for all items
pub record Resumes (t : Table) (short_equals : Bool) (all left : List Item) (i : ℕ) (place : Place) (words : List (List ℕ)) : Type 0 where
  pub spelled : (bytes : List ℕ) (more : List (List ℕ)) → SpelledFrom t short_equals place left bytes more → SpelledAs t short_equals all (onto_last words bytes ++ more)
  pub fault : (index : ℕ) (reason : Reason) → FaultFrom t short_equals place left index reason → FaultFrom t short_equals open_line all (i + index) reason

-- ---- bytes that continue a word come only after a flag, which has no words after its own

form_calm : (short_equals : Bool) (later : List Item) (k : Kind) (name : Name) (item : Item) (after : After) (words : List (List ℕ)) (next : Place)
    → HasForm short_equals later k name item after words next → next ≡ in_cluster → words ≡ []
form_calm short_equals later k name item after words next (rows.short_flag c) at = refl
form_calm short_equals later k name item after words next form at = cc

adds_calm : (t : Table) (short_equals : Bool) (later : List Item) (place : Place) (item : Item) (word : List ℕ) (more : List (List ℕ)) (next : Place)
    → Adds t short_equals later place item word more next → next ≡ in_cluster → more ≡ []
adds_calm t short_equals later place item word more next (rows.short_option c p q i after words scalar other before form) at = form_calm _ _ _ _ _ _ _ _ form at
adds_calm t short_equals later place item word more next (rows.long_option name p q i after words text none some before form) at = form_calm _ _ _ _ _ _ _ _ form at
adds_calm t short_equals later place item word more next adds at = cc

goes_calm : (t : Table) (short_equals : Bool) (later : List Item) (place : Place) (item : Item) (word : List ℕ) (more : List (List ℕ)) (next : Place)
    → GoesOn t short_equals later place item word more next → next ≡ in_cluster → more ≡ []
goes_calm t short_equals later place item word more next (rows.dash_option q i after words form) at = form_calm _ _ _ _ _ _ _ _ form at

either : (next : Place) (bytes : List ℕ) (more : List (List ℕ)) → (next ≡ in_cluster → more ≡ []) → (next ≢ in_cluster → bytes ≡ []) → (more ≡ []) ⊎ (bytes ≡ [])
either in_cluster bytes more calm none = inl (calm refl)
either open_line bytes more calm none = inr (none (λ at. let e : open_line ≡ in_cluster = at in cc))
either after_values bytes more calm none = inr (none (λ at. let e : after_values ≡ in_cluster = at in cc))
either after_positional bytes more calm none = inr (none (λ at. let e : after_positional ≡ in_cluster = at in cc))
either ended bytes more calm none = inr (none (λ at. let e : ended ≡ in_cluster = at in cc))

-- ---- the words of one item, and then those of the others

new_on : (words : List (List ℕ)) (word bytes : List ℕ) (more ws : List (List ℕ)) → (more ≡ []) ⊎ (bytes ≡ [])
    → onto_last words [] ++ ((word ++ bytes) ∷ (more ++ ws)) ≡ onto_last (words ++ (word ∷ more)) bytes ++ ws
new_on words word bytes more ws (inl none) =
    rw none (ap (λ l. l ++ ((word ++ bytes) ∷ ws)) (onto_nil words) ∙ sym (append_assoc words ((word ++ bytes) ∷ []) ws) ∙ ap (λ l. l ++ ws) (sym (onto_snoc words word bytes)))
new_on words word bytes more ws (inr none) =
    rw none (ap (λ l. l ++ ((word ++ []) ∷ (more ++ ws))) (onto_nil words) ∙ ap (λ w. words ++ (w ∷ (more ++ ws))) (append-nil word)
    ∙ sym (append_assoc words (word ∷ more) ws) ∙ ap (λ l. l ++ ws) (sym (onto_nil (words ++ (word ∷ more)))))

same_on : (words : List (List ℕ)) (word bytes : List ℕ) (more ws : List (List ℕ)) → (more ≡ []) ⊎ (bytes ≡ [])
    → onto_last words (word ++ bytes) ++ (more ++ ws) ≡ onto_last (onto_last words word ++ more) bytes ++ ws
same_on words word bytes more ws (inl none) =
    rw none (ap (λ l. l ++ ws) (sym (onto_twice words word bytes) ∙ ap (λ l. onto_last l bytes) (sym (append-nil (onto_last words word)))))
same_on words word bytes more ws (inr none) =
    rw none (ap (λ w. onto_last words w ++ (more ++ ws)) (append-nil word) ∙ sym (append_assoc (onto_last words word) more ws) ∙ ap (λ l. l ++ ws) (sym (onto_nil (onto_last words word ++ more))))

joined : (t : Table) (short_equals : Bool) (later : List Item) (bytes : List ℕ) (ws more : List (List ℕ)) (next : Place) → (next ≡ in_cluster → more ≡ [])
    → SpelledFrom t short_equals next later bytes ws → (more ≡ []) ⊎ (bytes ≡ [])
joined t short_equals later bytes ws more next calm spelled = either next bytes more calm (λ other. none_first t short_equals next later bytes ws other spelled)

next_index : (i index : ℕ) → i + suc index ≡ (i + 1) + index
next_index i index = omega arith

step : (t : Table) (short_equals : Bool) (all later : List Item) (item : Item) (i : ℕ) (place next : Place) (words more : List (List ℕ)) (continues : Bool) (word : List ℕ)
    → AddsOrGoesOn continues t short_equals later place item word more next → Resumes t short_equals all (item ∷ later) i place words
    → Resumes t short_equals all later (i + 1) next (pushed continues words word more)
step t short_equals all later item i place next words more false word adds so_far = record {
  spelled = λ bytes ws rest.
      subst (λ (l : List (List ℕ)). SpelledAs t short_equals all l)
      (new_on words word bytes more ws (joined t short_equals later bytes ws more next (adds_calm t short_equals later place item word more next adds) rest))
      (so_far.spelled [] ((word ++ bytes) ∷ (more ++ ws)) (rows.new_word place next item later word bytes more ws adds rest));
  fault = λ index reason rest.
      subst (λ (n : ℕ). FaultFrom t short_equals open_line all n reason) (next_index i index)
      (so_far.fault (suc index) reason (rows.after_new_word place next item later word more index reason adds rest));
}
step t short_equals all later item i place next words more true word goes so_far = record {
  spelled = λ bytes ws rest.
      subst (λ (l : List (List ℕ)). SpelledAs t short_equals all l)
      (same_on words word bytes more ws (joined t short_equals later bytes ws more next (goes_calm t short_equals later place item word more next goes) rest))
      (so_far.spelled (word ++ bytes) (more ++ ws) (rows.same_word place next item later word bytes more ws goes rest));
  fault = λ index reason rest.
      subst (λ (n : ℕ). FaultFrom t short_equals open_line all n reason) (next_index i index)
      (so_far.fault (suc index) reason (rows.after_same_word place next item later word more index reason goes rest));
}

-- ---- the loop, with items as the code has them

pub none_yet : (t : Table) (short_equals : Bool) (items : List Item) (words : List (List ℕ)) → words ≡ [] → Resumes t short_equals items items 0 open_line words
none_yet t short_equals items words none = subst (λ (ws : List (List ℕ)). Resumes t short_equals items items 0 open_line ws) (sym none) (record {
  spelled = λ bytes more rest.
      subst (λ (l : List ℕ). SpelledFrom t short_equals open_line items l more)
      (none_first t short_equals open_line items bytes more (λ at. let e : open_line ≡ in_cluster = at in cc) rest) rest;
  fault = λ index reason rest. subst (λ (n : ℕ). FaultFrom t short_equals open_line items n reason) (sym (zero-add index)) rest;
})

pub one_more : {X : Type 0} (f : X → Item) (t : Table) (short_equals : Bool) (xs : List X) (i : ℕ) (x : X) (place next : Place) (words new more : List (List ℕ)) (continues : Bool)
    (word : List ℕ) → i < length xs → x ≡ get_or xs i x → AddsOrGoesOn continues t short_equals (map f (from_on (i + 1) xs)) place (f x) word more next → new ≡ pushed continues words word more
    → Resumes t short_equals (map f xs) (map f (drop i xs)) i place words → Resumes t short_equals (map f xs) (map f (drop (i + 1) xs)) (i + 1) next new
one_more {X = X} f t short_equals xs i x place next words new more continues word within is adds now so_far =
    subst (λ (ws : List (List ℕ)). Resumes t short_equals (map f xs) (map f (drop (i + 1) xs)) (i + 1) next ws) (sym now)
    (subst (λ (l : List X). Resumes t short_equals (map f xs) (map f l) (i + 1) next (pushed continues words word more)) (from_on_is (i + 1) xs)
    (step t short_equals (map f xs) (map f (from_on (i + 1) xs)) (f x) i place next words more continues word adds
    (subst (λ (l : List Item). Resumes t short_equals (map f xs) l i place words) (at_item f xs i x within is) so_far)))

pub at_fault : {X : Type 0} (f : X → Item) (t : Table) (short_equals : Bool) (xs : List X) (i : ℕ) (x : X) (place : Place) (words : List (List ℕ)) (reason : Reason)
    → i < length xs → x ≡ get_or xs i x → CannotBeSpelled t short_equals (map f (from_on (i + 1) xs)) place (f x) reason
    → Resumes t short_equals (map f xs) (map f (drop i xs)) i place words → FaultFrom t short_equals open_line (map f xs) i reason
at_fault f t short_equals xs i x place words reason within is refused so_far =
    subst (λ (n : ℕ). FaultFrom t short_equals open_line (map f xs) n reason) (add-zero i)
    (so_far.fault 0 reason (subst (λ (l : List Item). FaultFrom t short_equals place l 0 reason) (sym (at_item f xs i x within is))
    (rows.here place (f x) (map f (from_on (i + 1) xs)) reason refused)))

pub all_spelled : {X : Type 0} (f : X → Item) (t : Table) (short_equals : Bool) (xs : List X) (i : ℕ) (place : Place) (words : List (List ℕ)) → length xs ≤ i
    → Resumes t short_equals (map f xs) (map f (drop i xs)) i place words → SpelledAs t short_equals (map f xs) words
all_spelled {X = X} f t short_equals xs i place words ends so_far =
    subst (λ (l : List (List ℕ)). SpelledAs t short_equals (map f xs) l) (append-nil (onto_last words []) ∙ onto_nil words)
    (so_far.spelled [] [] (subst (λ (l : List X). SpelledFrom t short_equals place (map f l) [] []) (sym (drop_all i xs ends)) (rows.no_items place)))
