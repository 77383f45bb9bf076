-- Lists of what is read.
use Rattle.lexopt_options_spec.proofs.Common.{◌≡◌, ◌+◌, List, [], ◌∷◌, ◌++◌, map, Option, Some, None, refl, sym, ap, ◌∙◌, arith, filter_map, append_cancel_left}
use Rattle.lexopt_options_spec.proofs.Common.{map-append, map_push, filter_map-append, same_Some, Parsed, positional_count}
pub use Rattle.std.proofs.lemmas.List.{same_from_push as same_last}

pub first_same : {X : Type 0} (x y : X) (xs ys : List X) → x ∷ xs ≡ y ∷ ys → (x ≡ y) × (xs ≡ ys)
first_same x y xs ys is = (cc, cc)

-- the elements that there are
abbrev those : {X : Type 0} → List (Option X) → List X
those l = filter_map (λ o. o) l

all_there : {X : Type 0} (l : List X) → those (map (λ x. Some x) l) ≡ l
all_there [] = refl
all_there (x ∷ l) = ap (λ m. x ∷ m) (all_there l)

-- if all elements are the same, each is
pub same_somes : {X : Type 0} (l m : List X) → map (λ x. Some x) l ≡ map (λ x. Some x) m → l ≡ m
same_somes l m is = sym (all_there l) ∙ ap those is ∙ all_there m

-- a list whose first elements are known
pub record Later {X Y : Type 0} (f : X → Option Y) (ys : List X) (before all : List Y) : Type 0 where
  pub later : List Y
  pub all_are : all ≡ before ++ later
  pub are : map f ys ≡ map (λ y. Some y) later

pub split : {X Y : Type 0} (f : X → Option Y) (xs ys : List X) (before all : List Y) → map f xs ≡ map (λ y. Some y) before → map f (xs ++ ys) ≡ map (λ y. Some y) all
    → Later f ys before all
split f xs ys before all is whole =
    let both = ap (λ l. l ++ map f ys) (sym is) ∙ sym (map-append f xs ys) ∙ whole in
    let later = those (map f ys) in
    let apart = filter_map-append (λ o. o) (map (λ y. Some y) before) (map f ys) ∙ ap (λ l. l ++ later) (all_there before) in
    let all_are = sym (all_there all) ∙ ap those (sym both) ∙ apart in
    record {
      later = later;
      all_are = all_are;
      are = append_cancel_left (map (λ y. Some y) before) (map f ys) (map (λ y. Some y) later)
          (both ∙ ap (map (λ y. Some y)) all_are ∙ map-append (λ y. Some y) before later);
    }

-- two lists, one after the other
pub both_are : {X Y : Type 0} (f : X → Option Y) (xs xs' : List X) (ys ys' : List Y) → map f xs ≡ map (λ y. Some y) ys → map f xs' ≡ map (λ y. Some y) ys'
    → map f (xs ++ xs') ≡ map (λ y. Some y) (ys ++ ys')
both_are f xs xs' ys ys' is other =
    map-append f xs xs' ∙ ap (λ l. l ++ map f xs') is ∙ ap (λ l. map (λ y. Some y) ys ++ l) other ∙ sym (map-append (λ y. Some y) ys ys')

-- one more element at the end
pub joined : {X Y : Type 0} (f : X → Option Y) (xs : List X) (ys : List Y) (x : X) (y : Y) → map f xs ≡ map (λ y. Some y) ys → f x ≡ Some y
    → map f (xs ++ x ∷ []) ≡ map (λ y. Some y) (ys ++ y ∷ [])
joined f xs ys x y is one = both_are f xs (x ∷ []) ys (y ∷ []) is (ap (λ z. z ∷ []) one)

-- there is no list with this first element
pub first_none : {X Y : Type 0} (f : X → Option Y) (x : X) (xs : List X) (l : List Y) → f x ≡ None → map f (x ∷ xs) ≡ map (λ y. Some y) l → ⊥
first_none f x xs [] none is = let e : f x ∷ map f xs ≡ [] = is in cc
first_none f x xs (y ∷ l) none is =
    let p = first_same (f x) (Some y) (map f xs) (map (λ y. Some y) l) is in
    let e : None ≡ Some y = sym none ∙ p.0 in cc

-- the first element of such a list
pub first_is : {X Y : Type 0} (f : X → Option Y) (x : X) (y : Y) (xs : List X) (l : List Y) → f x ≡ Some y → map f (x ∷ xs) ≡ map (λ y. Some y) l
    → (m : List Y) × (l ≡ y ∷ m)
first_is f x y xs [] some is = absurd (let e : f x ∷ map f xs ≡ [] = is in cc)
first_is f x y xs (z ∷ l) some is =
    let p = first_same (f x) (Some z) (map f xs) (map (λ y. Some y) l) is in
    (l, ap (λ w. w ∷ l) (same_Some z y (sym p.0 ∙ some)))

pub count_append : (l m : List Parsed) → positional_count (l ++ m) ≡ positional_count l + positional_count m
count_append [] m = omega arith
count_append (s ∷ l) m = let rest = count_append l m in omega arith

-- ---- lists with an element

pub not_empty : {X : Type 0} (l m : List X) (x : X) → l ++ x ∷ m ≡ [] → ⊥
not_empty [] m x is = let e : x ∷ m ≡ [] = is in cc
not_empty (y ∷ l) m x is = let e : y ∷ (l ++ x ∷ m) ≡ [] = is in cc

pub both_empty : {X : Type 0} (l m : List X) → l ++ m ≡ [] → (l ≡ []) × (m ≡ [])
both_empty [] m is = (refl, is)
both_empty (x ∷ l) m is = absurd (let e : x ∷ (l ++ m) ≡ [] = is in cc)

-- a list is empty or has a last element
pub data Ending {X : Type 0} (l : List X) : Type 0 where
  has_none : l ≡ [] → Ending l
  has_last : (front : List X) (x : X) → l ≡ front ++ x ∷ [] → Ending l

pub ending : {X : Type 0} (l : List X) → Ending l
ending [] = has_none refl
ending (x ∷ l) = more (ending l)
  where
    more : Ending l → Ending (x ∷ l)
    more (has_none is) = has_last [] x (ap (λ m. x ∷ m) is)
    more (has_last front y is) = has_last (x ∷ front) y (ap (λ m. x ∷ m) is)

-- the last thing that is read is the last of these items
pub last_item : {X Y : Type 0} (f : X → Option Y) (items : List X) (before : List Y) (last : Y) → map f items ≡ map (λ s. Some s) (before ++ last ∷ [])
    → (front : List X) × (x : X) × (items ≡ front ++ x ∷ []) × (f x ≡ Some last) × (map f front ≡ map (λ s. Some s) before)
last_item {X} f items before last is = by (ending items)
  where
    by : Ending items → (front : List X) × (x : X) × (items ≡ front ++ x ∷ []) × (f x ≡ Some last) × (map f front ≡ map (λ s. Some s) before)
    by (has_none none) = absurd (not_empty (map (λ s. Some s) before) [] (Some last) (sym (map_push (λ s. Some s) before last) ∙ sym is ∙ ap (map f) none))
    by (has_last front x are) =
        let both = sym (map_push f front x) ∙ ap (map f) (sym are) ∙ is ∙ map_push (λ s. Some s) before last in
        let same = same_last (map f front) (map (λ s. Some s) before) (f x) (Some last) both in
        (front, x, are, same.1, same.0)
