-- The names and the spellings of one more option.
use Rattle.lexopt_declaration.proofs.Common.{◌≡◌, ◌<◌, ◌+◌, ◌++◌, ◌∷◌, [], ℕ, Bool, List, get_or, if◌then◌else◌, length, map, take, ap, sym, subst, ◌∙◌, list_any, map_more, has_name, AreText, IsText}
use Rattle.lexopt_declaration.proofs.Common.{Spelled, is_offered, offered, Declared, option_view, filter, map-append, filter-append, list_any-append, either}
use Rattle.lexopt_declaration.proofs.Common.{append-nil, append_assoc, arith, length-map, length-take-le, suc}
use Rattle.lexopt_options_spec.specs.Completion.{spelled_by, spellings_if}
use Rattle.lexopt_options_spec.specs.Declaration as spec

last_text : (l : List spec.Declared) (o : spec.Declared) → AreText l → AreText (o ∷ []) → AreText (l ++ o ∷ [])
last_text l o before last = λ name has.
    either (list_any (has_name name) l) (list_any (has_name name) (o ∷ [])) (IsText name) (sym (list_any-append (has_name name) l (o ∷ [])) ∙ has) (before name) (last name)

pub text_more : {F V M S : Type 0} (os : List (Declared F V M S)) (i : ℕ) (o : Declared F V M S) → i < length os → o ≡ get_or os i o → AreText (map option_view (take i os)) → AreText (option_view o ∷ [])
    → AreText (map option_view (take (i + 1) os))
text_more os i o within is before last =
    subst AreText (sym (map_more option_view os i o within)) (last_text (map option_view (take i os)) (option_view (get_or os i o)) before (subst (λ x. AreText (option_view x ∷ [])) is last))

-- ---- the spellings that are offered

offered_both : (typed : List ℕ) (xs ys : List Spelled) → offered typed xs ++ offered typed ys ≡ offered typed (xs ++ ys)
offered_both typed xs ys = sym
    (ap (map (λ s. (s.text, s.help))) (filter-append (is_offered typed) xs ys)
    ∙ map-append (λ s. (s.text, s.help)) (filter (is_offered typed) xs) (filter (is_offered typed) ys))

if_more : (passes : ℕ → Bool) (l : List spec.Declared) (o : spec.Declared) → spellings_if passes (l ++ o ∷ []) ≡ spellings_if passes l ++ (if passes (length l) then spelled_by o else [])
if_more passes [] o = append-nil (if passes 0 then spelled_by o else [])
if_more passes (x ∷ l) o =
    ap (λ r. (if passes 0 then spelled_by x else []) ++ r) (if_more (λ i. passes (suc i)) l o)
    ∙ sym (append_assoc (if passes 0 then spelled_by x else []) (spellings_if (λ i. passes (suc i)) l) (if passes (suc (length l)) then spelled_by o else []))

-- those of one more option, if its index passes the test
pub offered_more : {F V M S : Type 0} (typed : List ℕ) (passes : ℕ → Bool) (os : List (Declared F V M S)) (i : ℕ) (o : Declared F V M S) (b : Bool) → i < length os → o ≡ get_or os i o → passes i ≡ b
    → offered typed (spellings_if passes (map option_view (take i os))) ++ offered typed (if b then spelled_by (option_view o) else []) ≡ offered typed (spellings_if passes (map option_view (take (i + 1) os)))
offered_more typed passes os i o b within is passed =
    let before = map option_view (take i os) in
    let count : length before ≡ i = length-map (take i os) option_view ∙ length-take-le i os (omega (arith, within)) in
    offered_both typed (spellings_if passes before) (if b then spelled_by (option_view o) else [])
    ∙ ap (λ c. offered typed (spellings_if passes before ++ (if c then spelled_by (option_view o) else []))) (sym passed ∙ ap passes (sym count))
    ∙ ap (offered typed) (sym (if_more passes before (option_view o)))
    ∙ ap (λ x. offered typed (spellings_if passes (before ++ option_view x ∷ []))) is
    ∙ ap (λ l. offered typed (spellings_if passes l)) (sym (map_more option_view os i o within))

-- of one spelling, where this test was made of it
pub if_offered : (typed own text help : List ℕ) (shown b c : Bool) → own ≡ text → b ≡ is_offered typed (record { text = own; help = help; shown = shown }) → b ≡ c
    → map (λ (s : Spelled). (s.text, s.help)) (if c then record { text = text; help = help; shown = shown } ∷ [] else []) ≡ offered typed (record { text = text; help = help; shown = shown } ∷ [])
if_offered typed own text help shown b c same is so =
    ap (λ (x : Bool). map (λ (s : Spelled). (s.text, s.help)) (if x then record { text = text; help = help; shown = shown } ∷ [] else []))
    (sym so ∙ is ∙ ap (λ t. is_offered typed (record { text = t; help = help; shown = shown })) same)
