-- The options in the usage line.
use Rattle.lexopt_declaration.proofs.Common.{◌≡◌, ◌||◌, ◌&&◌, ◌∷◌, ◌++◌, ◌<◌, ◌+◌, [], ℕ, Bool, true, false, not, cond, List, codes, map, length, take, get_or, refl, sym, ap, ◌∙◌, append-nil}
use Rattle.lexopt_declaration.proofs.Common.{append_assoc, list_any, map-append, map_more, filter-append, list_any-map, Declared, option_view}
use Rattle.lexopt_options_spec.specs.Declaration as spec
use Rattle.lexopt_options_spec.specs.Help.{demanded, option_mark, options_mark, visible, voluntary}
use Rattle.std.proofs.Common.{◌-◌, drop, filter, is_none, Option, Some, None, arith}
use Rattle.std.specs.Borrow.{Bor}
use Rattle.std.specs.List.{flat_map}
use Rattle.std.specs.Option.{is_some, option_map}
use Rattle.std.proofs.lemmas.List.{drop_more, length-drop, take_all}
use Rattle.std.proofs.lemmas.List.Concat.{flat_map-append}
use Rattle.lexopt_options_spec.specs.Help.{choice_mark, choices, sharing}
use Rattle.lexopt_options_spec.specs.Legal.{are_same}

-- ---- the options that are not required

any_voluntary : List spec.Declared → Bool
any_voluntary options = list_any (λ (o : spec.Declared). not o.hidden && (not o.required && is_none o.exclusive)) options

mark_if_any : (options : List spec.Declared) → options_mark (voluntary (visible options)) ≡ cond (any_voluntary options) (codes "[OPTION]..." ∷ []) []
unfolding any_voluntary
mark_if_any [] = refl
mark_if_any (o ∷ os) =
    elim o.hidden as (λ (h : Bool). options_mark (voluntary (cond (not h) (o ∷ visible os) (visible os))) ≡ cond (not h && (not o.required && is_none o.exclusive) || any_voluntary os) (codes "[OPTION]..." ∷ []) []) [
      | true ↦ mark_if_any os
      | false ↦ elim (not o.required && is_none o.exclusive) as (λ (b : Bool). options_mark (cond b (o ∷ voluntary (visible os)) (voluntary (visible os))) ≡ cond (b || any_voluntary os) (codes "[OPTION]..." ∷ []) []) [
        | true ↦ refl
        | false ↦ mark_if_any os
      ]
    ]

none_view : (text : Option (Bor (List ℕ))) → is_none (option_map (λ own. own.now) text) ≡ is_none text
none_view None = refl
none_view (Some own) = refl

same_any : {F V M S : Type 0} (os : List (Declared F V M S)) → list_any (λ o. not o.hidden && (not o.required && is_none (option_view o).exclusive)) os ≡ list_any (λ o. not o.hidden && (not o.required && is_none o.exclusive)) os
same_any [] = refl
same_any (o ∷ os) =
    ap (λ x. not o.hidden && (not o.required && x) || list_any (λ p. not p.hidden && (not p.required && is_none (option_view p).exclusive)) os) (none_view o.exclusive)
    ∙ ap (λ x. not o.hidden && (not o.required && is_none o.exclusive) || x) (same_any os)

pub mark_is : {F V M S : Type 0} (options : List (Declared F V M S)) (b : Bool) → b ≡ list_any (λ (o : Declared F V M S). not o.hidden && (not o.required && is_none o.exclusive)) options
    → options_mark (voluntary (visible (map option_view options))) ≡ cond b (codes "[OPTION]..." ∷ []) []
unfolding any_voluntary
mark_is options b is = mark_if_any (map option_view options)
    ∙ ap (λ (x : Bool). cond x (codes "[OPTION]..." ∷ []) [])
    (list_any-map option_view (λ (o : spec.Declared). not o.hidden && (not o.required && is_none o.exclusive)) options ∙ same_any options ∙ sym is)

-- ---- the required options

required_marks : List spec.Declared → List (List ℕ)
required_marks options = map option_mark (demanded (visible options))

one_mark : (o : spec.Declared) → required_marks (o ∷ []) ≡ cond (not o.hidden && o.required) (option_mark o ∷ []) []
unfolding required_marks
one_mark o = elim o.hidden as (λ (h : Bool). map option_mark (demanded (cond (not h) (o ∷ []) [])) ≡ cond (not h && o.required) (option_mark o ∷ []) []) [
  | true ↦ refl
  | false ↦ elim o.required as (λ (r : Bool). map option_mark (cond r (o ∷ []) []) ≡ cond r (option_mark o ∷ []) []) [
    | true ↦ refl
    | false ↦ refl
  ]
]

marks_of_both : (l m : List spec.Declared) → required_marks (l ++ m) ≡ required_marks l ++ required_marks m
unfolding required_marks
marks_of_both l m =
    ap (λ os. map option_mark (demanded os)) (filter-append (λ (o : spec.Declared). not o.hidden) l m)
    ∙ ap (map option_mark) (filter-append (λ (o : spec.Declared). o.required) (visible l) (visible m))
    ∙ map-append option_mark (demanded (visible l)) (demanded (visible m))

-- one more option
marks_more : {F V M S : Type 0} (options : List (Declared F V M S)) (i : ℕ) (d : Declared F V M S) (b : Bool) → i < length options → b ≡ (not (get_or options i d).hidden && (get_or options i d).required)
    → required_marks (map option_view (take (i + 1) options)) ≡ required_marks (map option_view (take i options)) ++ cond b (option_mark (option_view (get_or options i d)) ∷ []) []
marks_more options i d b within is =
    ap required_marks (map_more option_view options i d within)
    ∙ marks_of_both (map option_view (take i options)) (option_view (get_or options i d) ∷ [])
    ∙ ap (λ l. required_marks (map option_view (take i options)) ++ l) (one_mark (option_view (get_or options i d)) ∙ ap (λ (x : Bool). cond x (option_mark (option_view (get_or options i d)) ∷ []) []) (sym is))

pub mark_added : {F V M S : Type 0} (options : List (Declared F V M S)) (i : ℕ) (o : Declared F V M S) (b : Bool) (before old new : List (List ℕ)) → i < length options → o ≡ get_or options i o
    → b ≡ (not o.hidden && o.required) → b ≡ true → new ≡ old ++ option_mark (option_view o) ∷ [] → old ≡ before ++ map option_mark (demanded (visible (map option_view (take i options))))
    → new ≡ before ++ map option_mark (demanded (visible (map option_view (take (i + 1) options))))
unfolding required_marks
mark_added options i o b before old new within o_is is so more inv =
    let all : required_marks (map option_view (take (i + 1) options)) ≡ required_marks (map option_view (take i options)) ++ option_mark (option_view o) ∷ [] =
    marks_more options i o true within (sym so ∙ is ∙ ap (λ x. not x.hidden && x.required) o_is)
    ∙ ap (λ x. required_marks (map option_view (take i options)) ++ option_mark (option_view x) ∷ []) (sym o_is) in
    more ∙ ap (λ l. l ++ option_mark (option_view o) ∷ []) inv
    ∙ append_assoc before (required_marks (map option_view (take i options))) (option_mark (option_view o) ∷ [])
    ∙ ap (λ l. before ++ l) (sym all)

pub mark_passed : {F V M S : Type 0} (options : List (Declared F V M S)) (i : ℕ) (o : Declared F V M S) (b : Bool) (before marks : List (List ℕ)) → i < length options → o ≡ get_or options i o
    → b ≡ (not o.hidden && o.required) → b ≡ false → marks ≡ before ++ map option_mark (demanded (visible (map option_view (take i options))))
    → marks ≡ before ++ map option_mark (demanded (visible (map option_view (take (i + 1) options))))
unfolding required_marks
mark_passed options i o b before marks within o_is is so inv =
    inv ∙ ap (λ l. before ++ l) (sym (marks_more options i o false within (sym so ∙ is ∙ ap (λ x. not x.hidden && x.required) o_is) ∙ append-nil (required_marks (map option_view (take i options)))))

-- ---- the options that exclude each other

any_among : {X : Type 0} (p q : X → Bool) (xs : List X) → list_any p (filter q xs) ≡ list_any (λ x. q x && p x) xs
any_among p q [] = refl
any_among p q (x ∷ xs) = elim (q x) as (λ (b : Bool). list_any p (cond b (x ∷ filter q xs) (filter q xs)) ≡ (b && p x || list_any (λ y. q y && p y) xs)) [
  | true ↦ ap (λ b. p x || b) (any_among p q xs)
  | false ↦ any_among p q xs
]

-- those of these options with this text
text_among : {F V M S : Type 0} (options : List (Declared F V M S)) (text : Option (List ℕ))
    → list_any (λ (p : spec.Declared). are_same text p.exclusive) (visible (map option_view options)) ≡ list_any (λ p. not p.hidden && are_same text (option_map (λ own. own.now) p.exclusive)) options
text_among options text =
    any_among (λ (p : spec.Declared). are_same text p.exclusive) (λ (p : spec.Declared). not p.hidden) (map option_view options)
    ∙ list_any-map option_view (λ (p : spec.Declared). not p.hidden && are_same text p.exclusive) options

-- one more option, before those that come later
choices_at : (before later : List spec.Declared) (o : spec.Declared) → choices before (visible (o ∷ []) ++ later)
    ≡ cond (not o.hidden && (is_some o.exclusive && not (list_any (λ p. are_same o.exclusive p.exclusive) before))) (choice_mark o (sharing o.exclusive later) ∷ []) [] ++ choices (before ++ visible (o ∷ [])) later
choices_at before later o = elim o.hidden as (λ (h : Bool). choices before (cond (not h) (o ∷ []) [] ++ later)
    ≡ cond (not h && (is_some o.exclusive && not (list_any (λ p. are_same o.exclusive p.exclusive) before))) (choice_mark o (sharing o.exclusive later) ∷ []) [] ++ choices (before ++ cond (not h) (o ∷ []) []) later) [
      | true ↦ ap (λ l. choices l later) (sym (append-nil before))
      | false ↦ refl
    ]

shown : {F V M S : Type 0} → List (Declared F V M S) → List spec.Declared
shown options = visible (map option_view options)

-- what the option at this index adds
choice_next : {F V M S : Type 0} (options : List (Declared F V M S)) (i : ℕ) (o : Declared F V M S) (b : Bool) → i < length options → o ≡ get_or options i o
    → b ≡ (not o.hidden && (is_some o.exclusive && not (list_any (λ p. not p.hidden && are_same (option_map (λ own. own.now) o.exclusive) (option_map (λ own. own.now) p.exclusive)) (take i options))))
    → choices (visible (map option_view (take i options))) (visible (map option_view (drop i options)))
    ≡ cond b (choice_mark (option_view o) (sharing (option_view o).exclusive (visible (map option_view (drop (i + 1) options)))) ∷ []) []
    ++ choices (visible (map option_view (take (i + 1) options))) (visible (map option_view (drop (i + 1) options)))
unfolding shown
choice_next options i o b within o_is is =
    let later = shown (drop (i + 1) options) in
    let before = shown (take i options) in
    let rest : shown (drop i options) ≡ visible (option_view o ∷ []) ++ later =
    ap (λ l. visible (map option_view l)) (drop_more options i o within ∙ ap (λ x. x ∷ drop (i + 1) options) (sym o_is)) ∙ filter-append (λ (p : spec.Declared). not p.hidden) (option_view o ∷ []) (map option_view (drop (i + 1) options)) in
    let more : shown (take (i + 1) options) ≡ before ++ visible (option_view o ∷ []) =
    ap visible (map_more option_view options i o within ∙ ap (λ x. map option_view (take i options) ++ option_view x ∷ []) (sym o_is)) ∙ filter-append (λ (p : spec.Declared). not p.hidden) (map option_view (take i options)) (option_view o ∷ []) in
    let same : (not o.hidden && (is_some (option_view o).exclusive && not (list_any (λ (p : spec.Declared). are_same (option_view o).exclusive p.exclusive) before))) ≡ b =
    ap (λ x. not o.hidden && (x && not (list_any (λ (p : spec.Declared). are_same (option_view o).exclusive p.exclusive) before))) (some_view o.exclusive)
    ∙ ap (λ x. not o.hidden && (is_some o.exclusive && not x)) (text_among (take i options) (option_view o).exclusive) ∙ sym is in
    ap (choices before) rest ∙ choices_at before later (option_view o)
    ∙ ap (λ x. cond x (choice_mark (option_view o) (sharing (option_view o).exclusive later) ∷ []) [] ++ choices (before ++ visible (option_view o ∷ [])) later) same
    ∙ ap (λ l. cond b (choice_mark (option_view o) (sharing (option_view o).exclusive later) ∷ []) [] ++ choices l later) (sym more)
  where
    some_view : (text : Option (Bor (List ℕ))) → is_some (option_map (λ own. own.now) text) ≡ is_some text
    some_view None = refl
    some_view (Some own) = refl

-- the slice of the options after this one
to_the_end : {X : Type 0} (xs : List X) (n : ℕ) → take (length xs - n) (drop n xs) ≡ drop n xs
to_the_end xs n = take_all (length xs - n) (drop n xs) (let left = length-drop n xs in omega (arith, left))

pub choice_added : {F V M S : Type 0} (options : List (Declared F V M S)) (i : ℕ) (o : Declared F V M S) (b : Bool) (start old new : List (List ℕ)) (mark : List ℕ) → i < length options → o ≡ get_or options i o
    → b ≡ (not o.hidden && (is_some o.exclusive && not (list_any (λ p. not p.hidden && are_same (option_map (λ own. own.now) o.exclusive) (option_map (λ own. own.now) p.exclusive)) (take i options)))) → b ≡ true
    → new ≡ old ++ mark ∷ [] → mark ≡ choice_mark (option_view o) (sharing (option_view o).exclusive (visible (map option_view (take (length options - (i + 1)) (drop (i + 1) options)))))
    → old ++ choices (visible (map option_view (take i options))) (visible (map option_view (drop i options))) ≡ start
    → new ++ choices (visible (map option_view (take (i + 1) options))) (visible (map option_view (drop (i + 1) options))) ≡ start
choice_added options i o b start old new mark within o_is is so new_is mark_is inv =
    let rest = choices (visible (map option_view (take (i + 1) options))) (visible (map option_view (drop (i + 1) options))) in
    ap (λ l. l ++ rest) new_is ∙ append_assoc old (mark ∷ []) rest ∙ ap (λ m. old ++ m ∷ rest) (mark_is ∙ ap (λ os. choice_mark (option_view o) (sharing (option_view o).exclusive (visible (map option_view os)))) (to_the_end options (i + 1))) ∙ ap (λ l. old ++ l) (sym (choice_next options i o true within o_is (sym so ∙ is))) ∙ inv

pub choice_passed : {F V M S : Type 0} (options : List (Declared F V M S)) (i : ℕ) (o : Declared F V M S) (b : Bool) (start old : List (List ℕ)) → i < length options → o ≡ get_or options i o
    → b ≡ (not o.hidden && (is_some o.exclusive && not (list_any (λ p. not p.hidden && are_same (option_map (λ own. own.now) o.exclusive) (option_map (λ own. own.now) p.exclusive)) (take i options)))) → b ≡ false
    → old ++ choices (visible (map option_view (take i options))) (visible (map option_view (drop i options))) ≡ start
    → old ++ choices (visible (map option_view (take (i + 1) options))) (visible (map option_view (drop (i + 1) options))) ≡ start
choice_passed options i o b start old within o_is is so inv = ap (λ l. old ++ l) (sym (choice_next options i o false within o_is (sym so ∙ is))) ∙ inv

-- the options with a text among these, with one more option
others_more : {F V M S : Type 0} (options : List (Declared F V M S)) (text : Option (List ℕ)) (i : ℕ) (o : Declared F V M S) (b : Bool) → i < length options → o ≡ get_or options i o
    → b ≡ (not o.hidden && are_same text (option_map (λ own. own.now) o.exclusive))
    → flat_map (λ p. codes " | " ++ option_mark p) (sharing text (visible (map option_view (take (i + 1) options))))
    ≡ flat_map (λ p. codes " | " ++ option_mark p) (sharing text (visible (map option_view (take i options)))) ++ cond b (codes " | " ++ option_mark (option_view o)) []
others_more options text i o b within o_is is =
    let f : spec.Declared → List ℕ = λ p. codes " | " ++ option_mark p in
    let before = visible (map option_view (take i options)) in
    ap (λ l. flat_map f (sharing text (visible l))) (map_more option_view options i o within ∙ ap (λ x. map option_view (take i options) ++ option_view x ∷ []) (sym o_is))
    ∙ ap (λ l. flat_map f (sharing text l)) (filter-append (λ (p : spec.Declared). not p.hidden) (map option_view (take i options)) (option_view o ∷ []))
    ∙ ap (flat_map f) (filter-append (λ (p : spec.Declared). are_same text p.exclusive) before (visible (option_view o ∷ [])))
    ∙ flat_map-append f (sharing text before) (sharing text (visible (option_view o ∷ [])))
    ∙ ap (λ l. flat_map f (sharing text before) ++ l) (one ∙ ap (λ x. cond x (f (option_view o)) []) (sym is))
  where
    one : flat_map (λ p. codes " | " ++ option_mark p) (sharing text (visible (option_view o ∷ []))) ≡ cond (not o.hidden && are_same text (option_view o).exclusive) (codes " | " ++ option_mark (option_view o)) []
    one = elim o.hidden as (λ (h : Bool). flat_map (λ p. codes " | " ++ option_mark p) (sharing text (cond (not h) (option_view o ∷ []) [])) ≡ cond (not h && are_same text (option_view o).exclusive) (codes " | " ++ option_mark (option_view o)) []) [
      | true ↦ refl
      | false ↦ elim (are_same text (option_view o).exclusive) as (λ (b : Bool). flat_map (λ p. codes " | " ++ option_mark p) (cond b (option_view o ∷ []) []) ≡ cond b (codes " | " ++ option_mark (option_view o)) []) [
        | true ↦ append-nil (codes " | " ++ option_mark (option_view o))
        | false ↦ refl
      ]
    ]

pub others_added : {F V M S : Type 0} (options : List (Declared F V M S)) (text : Option (List ℕ)) (i : ℕ) (o : Declared F V M S) (b : Bool) (start old mid new : List ℕ) → i < length options → o ≡ get_or options i o
    → b ≡ (not o.hidden && are_same text (option_map (λ own. own.now) o.exclusive)) → b ≡ true → mid ≡ old ++ codes " | " → new ≡ mid ++ option_mark (option_view o)
    → old ≡ start ++ flat_map (λ p. codes " | " ++ option_mark p) (sharing text (visible (map option_view (take i options))))
    → new ≡ start ++ flat_map (λ p. codes " | " ++ option_mark p) (sharing text (visible (map option_view (take (i + 1) options))))
others_added options text i o b start old mid new within o_is is so mid_is new_is inv =
    let before = flat_map (λ p. codes " | " ++ option_mark p) (sharing text (visible (map option_view (take i options)))) in
    new_is ∙ ap (λ l. l ++ option_mark (option_view o)) mid_is ∙ append_assoc old (codes " | ") (option_mark (option_view o)) ∙ ap (λ l. l ++ (codes " | " ++ option_mark (option_view o))) inv
    ∙ append_assoc start before (codes " | " ++ option_mark (option_view o)) ∙ ap (λ l. start ++ l) (sym (others_more options text i o true within o_is (sym so ∙ is)))

pub others_passed : {F V M S : Type 0} (options : List (Declared F V M S)) (text : Option (List ℕ)) (i : ℕ) (o : Declared F V M S) (b : Bool) (start old : List ℕ) → i < length options → o ≡ get_or options i o
    → b ≡ (not o.hidden && are_same text (option_map (λ own. own.now) o.exclusive)) → b ≡ false
    → old ≡ start ++ flat_map (λ p. codes " | " ++ option_mark p) (sharing text (visible (map option_view (take i options))))
    → old ≡ start ++ flat_map (λ p. codes " | " ++ option_mark p) (sharing text (visible (map option_view (take (i + 1) options))))
others_passed options text i o b start old within o_is is so inv =
    inv ∙ ap (λ l. start ++ l) (sym (others_more options text i o false within o_is (sym so ∙ is) ∙ append-nil (flat_map (λ p. codes " | " ++ option_mark p) (sharing text (visible (map option_view (take i options)))))))
